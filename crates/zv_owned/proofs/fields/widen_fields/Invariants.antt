use Rattle.zv_owned.proofs.Common.{◌*◌, ◌++◌, ◌≡◌, ◌≤◌, List, flat_map, le, length, ℕ}
use Rattle.zv_owned.proofs.FieldWidths.{HasWidths}
use Rattle.zv_owned.specs.Widths.{AreNarrow}
use Rattle.zv_owned.proofs.fields.widen_fields.Given as goal

-- the fields from the place on are wide
abbrev pub invariant-loop-left : goal.invariant-loop-left
invariant-loop-left l = record {
  within : l.left ≤ l.count;
  long : length l.bytes ≡ length l.initial.bytes;
  widths : (ss g t : List ℕ) → length ss ≡ l.count → AreNarrow ss → length g ≡ 2 * l.count → l.initial.bytes ≡ flat_map (le 2) ss ++ (g ++ t) →
      HasWidths l.bytes l.left ss t;
}

abbrev pub decreases-loop-left : goal.decreases-loop-left
decreases-loop-left l = l.left
