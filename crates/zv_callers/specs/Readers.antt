-- What a reader prefers.
use Rattle.std.specs.Prelude.{ℕ, List, codes, if◌then◌else◌}
use Rattle.zv_locale.specs.Wanted.{is_wanted}

-- a text of locales, or the root where it is none
abbrev pub preferred : List ℕ → List ℕ
preferred text = if is_wanted text then text else codes "und"
