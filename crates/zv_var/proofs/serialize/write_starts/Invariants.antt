use Rattle.zv_var.proofs.Common.{◌≡◌, ◌-◌, ◌*◌, length, take, map, flat_map, le, starts}
use Rattle.zv_var.proofs.serialize.write_starts.Given as goal

abbrev pub invariant-loop-index : goal.invariant-loop-index
invariant-loop-index g l =
    let f = g.A.EncodeAsVarULE.spelling in
    let w = g.F.VarZeroVecFormat.W in
    record {
      long : length l.out ≡ w * (length l.elements - 1);
      at : l.at ≡ l.index * w;
      start : l.start ≡ length (flat_map f (take l.index l.elements));
      done : take l.at l.out ≡ flat_map (le w) (take l.index (starts (map f l.elements)));
    }
