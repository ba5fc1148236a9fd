use Rattle.zv_map.proofs.Common.{◌∙◌, ◌+◌, ap, arith, length, list_of}
use Rattle.zv_map.proofs.Pieces.{in_order, no_fault_at, piece, within}
use Rattle.zv_map.proofs.iter.KvComponents.element_from.Goals as goal

pub slice_bounds-of_valid-count : goal.slice_bounds-of_valid-count
slice_bounds-of_valid-count g c =
    omega (arith, c.requires.start, c.end_of-end.ensures, in_order (list_of c.args.self.list) c.args.index c.requires.place)

pub slice_bounds-of_valid-start : goal.slice_bounds-of_valid-start
slice_bounds-of_valid-start g c =
    omega (arith, c.requires.start, c.end_of-end.ensures, in_order (list_of c.args.self.list) c.args.index c.requires.place)

pub slice_bounds-of_valid-end : goal.slice_bounds-of_valid-end
slice_bounds-of_valid-end g c =
    omega (arith, c.end_of-end.ensures, within (list_of c.args.self.list) (c.args.index + 1), ap length c.args.self.joined)

pub of_valid-requires-clause-spells : goal.of_valid-requires-clause-spells
of_valid-requires-clause-spells g c =
    let list = c.args.self.list in
    ap g.T.ZvKind.fault (piece (list_of list) c.args.index c.requires.place _ _ _ c.args.self.joined c.requires.start c.end_of-end.ensures)
    ∙ no_fault_at g.T.ZvKind.fault c.args.index list.layout list.bytes.now list.spells c.requires.place

pub returns-clause-element : goal.returns-clause-element
returns-clause-element g c =
    c.of_valid.ensures
    ∙ piece (list_of c.args.self.list) c.args.index c.requires.place _ _ _ c.args.self.joined c.requires.start c.end_of-end.ensures
