use Rattle.zv_owned.proofs.Common.{◌*◌, ◌++◌, ◌≡◌, CanShift, List, drop, flat_map, le, length, map, shifted, take, ℕ}
use Rattle.zv_owned.proofs.writes.shift_fields.Given as goal

-- the fields before the place are shifted
abbrev pub invariant-loop-place : goal.invariant-loop-place
invariant-loop-place g l =
    let w : ℕ = g.F.VarZeroVecFormat.W in
    record {
      at : l.at ≡ w * l._place;
      done : (ss : List ℕ) → l.fn.fields ≡ flat_map (le w) ss → length ss ≡ l.count → CanShift w l.into l.out ss →
          l.fields ≡ flat_map (le w) (map (shifted l.into l.out) (take l._place ss)) ++ flat_map (le w) (drop l._place ss);
    }
