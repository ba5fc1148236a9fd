use Rattle.zv_owned.proofs.Common.{◌-◌, ◌++◌, ◌≡◌, ◌≤◌, List, flat_map, le, length, ℕ}
use Rattle.zv_owned.proofs.FieldWidths.{HasWidths}
use Rattle.zv_owned.specs.Widths.{AreNarrow}
use Rattle.zv_owned.proofs.fields.narrow_fields.Given as goal

-- the fields before the place are narrow
abbrev pub invariant-loop-done : goal.invariant-loop-done
invariant-loop-done l = record {
  within : l.done ≤ l.count;
  long : length l.bytes ≡ length l.initial.bytes;
  widths : (ss t : List ℕ) → length ss ≡ l.count → AreNarrow ss → l.initial.bytes ≡ flat_map (le 4) ss ++ t → HasWidths l.bytes l.done ss t;
}

abbrev pub decreases-loop-done : goal.decreases-loop-done
decreases-loop-done l = l.count - l.done
