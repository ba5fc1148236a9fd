use Rattle.zv_map1.proofs.Common.{insert_entry_at, rank_at, rules, look_up_gap}
use Rattle.zv_map1.proofs.Found.{value_at}
use Rattle.zv_map1.proofs.Left.{same_after, unchanged_after}
use Rattle.zv_map1.proofs.map.MapOver.insert.Goals as goal

pub returns-in-Ok : goal.returns-in-Ok
returns-in-Ok g c =
    let total = g.met.K.ZvOrd.total in
    rw (insert_entry_at total _ _ _ _ c.in-Ok.ensures, value_at total _ _ _ c.in-Ok.ensures, rank_at total _ _ _ c.in-Ok.ensures)
    (search (rules, same_after, unchanged_after))

pub returns-in-Err : goal.returns-in-Err
returns-in-Err g c = rw (look_up_gap g.met.K.ZvOrd.total _ _ _ c.in-Err.ensures) (search (rules, same_after, unchanged_after))
