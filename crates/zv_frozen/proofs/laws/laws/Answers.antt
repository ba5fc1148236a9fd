use Rattle.zv_frozen.proofs.Common.{◌∙◌, sym}
use Rattle.zv_frozen.proofs.Keys.{key_back, passes, tested}
use Rattle.zv_frozen.proofs.Limits.{never_refused}
use Rattle.zv_frozen.proofs.OneTable.{one_frozen}
use Rattle.zv_frozen.proofs.Placements.{placed_tested}
use Rattle.zv_frozen.proofs.Thawed.{thawed_alike}
use Rattle.zv_frozen.proofs.laws.laws.Goals as goal

pub returns : goal.returns
returns c = record {
  tested = λ key bytes. (λ t. (_, _, tested key bytes t), λ is. passes is.2);
  keys = λ key j0 j1 k0 k1 one two. let a = key_back one in let b = key_back two in (sym a.0 ∙ b.0, sym a.1 ∙ b.1);
  one = one_frozen c.one_placement.ensures.displacements;
  thawed = thawed_alike c.home_tables.ensures;
  accepted = never_refused;
  placed = placed_tested;
}
