use Rattle.zv_hashmap.proofs.Common.{◌<◌, ◌^◌, List, length, map, arith, length-map, Bytes}
use Rattle.zv_hashmap.proofs.Built.{built_or_memory}
use Rattle.zv_hashmap.proofs.table.HashMapOver.try_from_pairs.Goals as goal

pub returns : goal.returns
returns g c =
    let pair : g.row.A.Denot × g.row.B.Denot → Bytes × Bytes = λ p. (g.A.ZvArg.bytes p.0, g.B.ZvArg.bytes p.1) in
    let given : List (Bytes × Bytes) = map pair c.args.pairs.now in
    let few : length given < 2 ^ 32 = omega (arith, length-map c.args.pairs.now pair, c.if-pairs.false) in
    let placement = rw (c.zvl_as_borrowed.ensures.list, c.in-Ok.ensures.keys) at c.in_ok-placement.ensures in
    let keys = rw c.in-Ok.ensures.keys at c.arrange.ensures.keys in
    let values = rw c.in-Ok.ensures.values at c.arrange.ensures.values in
    built_or_memory g.K.ZvOrd.cmp g.met.K.ZvOrd.total g.K.HashBytes.hashed g.met.K.HashBytes.alike given _ few c.in-Ok.ensures.rule _ _ placement
    c.arrange.result c.arrange.ensures.displacements keys values c.arrange.ensures.err
