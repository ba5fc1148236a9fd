-- What is due to an image that is to be frozen, and to a frozen image.
use Rattle.std.specs.Prelude.{◌≡◌, ⊤, ℕ, Bool, true, false, List}
use Rattle.std.specs.declared.option.Option.{Option}
use Rattle.std.specs.declared.option.Option.TheVariants.{Some, None}
use Rattle.zv_hash.specs.Placement.{IsStuck}
use Rattle.zv_hashmap.specs.Building.{hashes_of}
use Rattle.zv_hashmap.specs.Table.{Table}
use Rattle.zv_map.specs.Maps.{keys_of}
use Rattle.zv_map2d.specs.Image.{canon, fault}
use Rattle.zv_map2d.specs.Rows.{Rows}
use Rattle.zv_map2d.specs.declared.error.EditError.{EditError}
use Rattle.zv_map2d_laws.specs.Laws.{rows_in}
use Rattle.zv_command.specs.Due.{Due, text_due}
use Rattle.zv_command.specs.declared.status.Status.TheVariants.{BadImage, Done}
use Rattle.zv_image.specs.Due.{cause_due}
use Rattle.zv_image.specs.Text.{image_line}
use Rattle.zv_edit.specs.Output.{found_line}
use Rattle.zv_frozen.specs.Faults.{frozen_fault}
use Rattle.zv_frozen.specs.Keys.{key_hashed}
use Rattle.zv_frozen.specs.Placed.{is_placed}
use Rattle.zv_frozen.specs.RequestLines.{fault_line, frozen_line, no_place_line, too_large_line}
use Rattle.zv_frozen.specs.Tables.{IsFrozen, IsReadAs, entries, fit16, thawed, value_of}
use Rattle.zv_frozen.specs.declared.error.FrozenError.{FrozenError}
use Rattle.zv_frozen.specs.declared.form.Ask.{Ask}

-- ---- freeze

-- the hashes of the keys of a map's pairs
abbrev pub key_hashes : Rows → List ℕ
key_hashes m = hashes_of key_hashed (keys_of (entries m))

-- where keys have places the line of the frozen image, else that of the bucket that is stuck
abbrev pub placed_due : Bool → Rows → Due
placed_due true m = record {
  Text = λ text. (bytes : List ℕ) × IsFrozen m bytes × (text ≡ frozen_line bytes);
  status = Done;
}
placed_due false m = record {
  Text = λ text. (bucket : ℕ) × IsStuck (key_hashes m) bucket × (text ≡ no_place_line bucket);
  status = BadImage;
}

-- what is due to a map
abbrev pub fitting_due : Bool → Rows → Due
fitting_due true m = placed_due (is_placed (key_hashes m)) m
fitting_due false m = text_due too_large_line BadImage

-- the line of an image's fault, or what is due to its map
abbrev pub cause_or : Option EditError → Due → Due
cause_or None due = due
cause_or (Some cause) due = cause_due cause

unfoldable pub freeze_due : List ℕ → ⊤ → Due
freeze_due image _ = let m = rows_in image in
    cause_or (fault image) (fitting_due (fit16 (entries m)) m)

-- ---- a frozen image

-- the line of a fault, or these texts where there is none
abbrev pub frozen_due : Option FrozenError → (List ℕ → Type 0) → Due
frozen_due None Answer = record { Text = Answer; status = Done }
frozen_due (Some e) Answer = text_due (fault_line e) BadImage

-- the line of what a pair of texts has in the table that is read
abbrev pub IsAsked : List ℕ → Ask → List ℕ → Type 0
IsAsked bytes ask text =
    (t : Table) × IsReadAs bytes t × (text ≡ found_line (value_of t ask.key0 ask.key1))

unfoldable pub ask_due : List ℕ → Ask → Due
ask_due bytes ask = frozen_due (frozen_fault bytes) (IsAsked bytes ask)

-- the line of the canonical image of the map that the table thaws to
abbrev pub IsThawed : List ℕ → List ℕ → Type 0
IsThawed bytes text = (t : Table) × IsReadAs bytes t × (text ≡ image_line (canon (thawed t)))

unfoldable pub thaw_due : List ℕ → ⊤ → Due
thaw_due bytes _ = frozen_due (frozen_fault bytes) (IsThawed bytes)
