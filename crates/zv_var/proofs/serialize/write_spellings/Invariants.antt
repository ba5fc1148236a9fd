use Rattle.zv_var.proofs.Common.{◌≡◌, length, take, map, flat_map, AreValid}
use Rattle.zv_var.proofs.serialize.write_spellings.Given as goal

abbrev pub invariant-loop-element : goal.invariant-loop-element
invariant-loop-element g l =
    let f = g.A.EncodeAsVarULE.spelling in
    record {
      long : length l.out ≡ length (flat_map f l.elements);
      is : l.at ≡ length (flat_map f (take l.element-index l.elements));
      done : take l.at l.out ≡ flat_map f (take l.element-index l.elements);
      valid : AreValid g.T.ZvKind.fault (map f (take l.element-index l.elements));
    }
