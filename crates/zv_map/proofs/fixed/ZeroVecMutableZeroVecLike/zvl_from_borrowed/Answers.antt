use Rattle.zv_map.proofs.Common.{◌≡◌, ◌∙◌, ap, Fixed}
use Rattle.zv_map.proofs.FixedLists.{fault_fixed}
use Rattle.zv_map.proofs.fixed.ZeroVecMutableZeroVecLike.zvl_from_borrowed.Goals as goal

pub of_valid-requires-clause-spells : goal.of_valid-requires-clause-spells
of_valid-requires-clause-spells g c =
    let layout : c.args.b.layout ≡ Fixed g.T.ULE.ULE.width = c.in-Fixed.is ∙ ap Fixed (c.if-width-size.true ∙ c.size.ensures) in
    fault_fixed g.met.T.AsULE.kind c.args.b.bytes.now (rw layout at c.requires.spells)
