use Rattle.zv_map2d.proofs.Common.{◌∙◌, arith}
use Rattle.zv_map2d.proofs.Seen.{row_pairs, row_within}
use Rattle.zv_map2d.proofs.borrowed.ZeroMap2dBorrowed.pairs.Goals as goal

pub between-requires : goal.between-requires
between-requires g c =
    let within = row_within c.args.self.now.flat c.requires in
    record { order = omega (arith, within.0); keys = omega (arith, within.1); values = omega (arith, within.2) }

pub returns : goal.returns
returns g c = c.between.ensures ∙ row_pairs c.args.self.now.flat c.requires c.row_start-start.ensures c.row_end.ensures
