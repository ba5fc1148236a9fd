-- Numbers in decimal digits.
use Rattle.std.proofs.Common.{◌≡◌, ℕ, ◌<◌, ◌≤◌, List, length, Some, ◌+◌, ◌-◌, ◌*◌, ◌&&◌, drop, get_or, refl, add-one}
use Rattle.std.proofs.Common.{Option, None}
use Rattle.std.proofs.Math.Seq.{drop-cons}
use Rattle.std.proofs.lemmas.List.{drop_all}
use Rattle.std.specs.Char.{is_ascii_digit}
use Rattle.std.specs.Prelude.{nat_le, if◌then◌else◌}
use Rattle.zv_input.specs.Numbers.{number_on}

pub number_step : (most n i : ℕ) (digits : List ℕ) → i < length digits → let d : ℕ = get_or digits i 0 in
    number_on most n (drop i digits)
    ≡ (if is_ascii_digit d && nat_le (10 * n + (d - 48)) most then number_on most (10 * n + (d - 48)) (drop (i + 1) digits) else None)
number_step most n i digits lt = rw (add-one, drop-cons digits i 0 lt) refl

pub number_end : (most n i : ℕ) (digits : List ℕ) → length digits ≤ i → number_on most n (drop i digits) ≡ Some n
number_end most n i digits le = rw (drop_all i digits le) refl

pub ruleset digit_steps = (number_step, number_end)
