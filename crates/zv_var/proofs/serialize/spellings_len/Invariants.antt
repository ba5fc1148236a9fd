use Rattle.zv_var.proofs.Common.{◌≡◌, ◌-◌, ◌^◌, length, map, true, take, flat_map, list_all, AreValid}
use Rattle.std.proofs.Common.{min}
use Rattle.zv_var.proofs.serialize.spellings_len.Given as goal

abbrev pub invariant-loop-element : goal.invariant-loop-element
invariant-loop-element g l = record {
  fit : list_all g.A.EncodeAsVarULE.fits (take l.element-index l.elements) ≡ true;
  is : l.len ≡ min (length (flat_map g.A.EncodeAsVarULE.spelling (take l.element-index l.elements))) (2 ^ 64 - 1);
  valid : AreValid g.T.ZvKind.fault (map g.A.EncodeAsVarULE.spelling (take l.element-index l.elements));
}
