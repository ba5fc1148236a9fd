use Rattle.zv_map2d.proofs.Common.{◌∙◌, rows_in}
use Rattle.zv_map2d.proofs.Flat.{row_well}
use Rattle.zv_map2d.proofs.Seen.{last_of_row}
use Rattle.zv_map2d.proofs.borrowed.ZeroMap2dBorrowed.last_key_of.Goals as goal

pub at-requires : goal.at-requires
at-requires g c =
    let some = (row_well g.K1.ZvOrd.cmp _ _ c.args.self.now.well.1 c.requires).0 in
    (last_of_row c.args.self.now.flat c.requires some c.row_end.ensures).0

pub returns : goal.returns
returns g c =
    let some = (row_well g.K1.ZvOrd.cmp (rows_in c.args.self.now) c.args.row c.args.self.now.well.1 c.requires).0 in
    c.at.ensures ∙ (last_of_row c.args.self.now.flat c.requires some c.row_end.ensures).1
