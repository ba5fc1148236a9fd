use Rattle.zv_owned.proofs.Common.{map, ◌∙◌}
use Rattle.zv_owned.proofs.SizeRule.{Made, made}
use Rattle.zv_owned.proofs.owned.VarZeroVecOwned.try_from_elements.Goals as goal
use Rattle.zv_owned.proofs.owned.VarZeroVecOwned.try_from_elements.Goals.{After-from_bytes}

is : (g : _) (c : After-from_bytes g) → Made g.F.VarZeroVecFormat.W g.T.ZvKind.fault c.from_bytes.result.bytes
    (map g.A.EncodeAsVarULE.spelling c.args.elements.now)
is g c =
    let f = g.F.VarZeroVecFormat in
    let said = c.in_ok-bytes.ensures in
    made f.W g.T.ZvKind.fault c.from_bytes.result.bytes _ f.width_positive (c.from_bytes.ensures.bytes ∙ rw c.in-Some.is at said.bytes)
    (rw c.in-Some.is at said.codable) (rw c.in-Some.is at said.valid)

pub invariant_of-result : goal.invariant_of-result
invariant_of-result g c = (c.requires, (is g (goal.at.invariant_of-result g c).After-from_bytes).sound)

pub returns-in-Some-clause-list : goal.returns-in-Some-clause-list
returns-in-Some-clause-list g c = (is g (goal.at.returns-in-Some-clause-list g c).After-from_bytes).reads
