use Rattle.zv_map2d.proofs.Common.{ap}
use Rattle.zv_map2d.proofs.Formed.{formats_seen, layout_of}
use Rattle.zv_map2d.proofs.image.read_parts.Goals as goal

pub returns-clause-lists : goal.returns-clause-lists
returns-clause-lists c =
    let read = c.from_vecs.ensures in
    formats_seen c.from_vecs.result c.args.lists _ _ _ read.keys0 read.keys1 read.values
    (ap layout_of c.in_ok-keys0.ensures.wide) (ap layout_of c.in_ok-keys1.ensures.wide) (ap layout_of c.in_ok-values.ensures.wide)
