use Rattle.zv_framed.proofs.Columns.{columns_sound}
use Rattle.zv_framed.proofs.map.lists_are_sound.Goals as goal

pub returns : goal.returns
returns g c = columns_sound g.K.ZvOrd.cmp c.args.map.now.pairs c.in_order.ensures.ascending
