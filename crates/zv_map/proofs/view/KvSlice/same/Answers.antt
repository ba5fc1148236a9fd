use Rattle.std.proofs.lemmas.List.{take_more_same}
use Rattle.zv_map.proofs.Common.{◌≡◌, [], arith, rules}
use Rattle.zv_map.proofs.view.KvSlice.same.Goals as goal

pub loop-index-preserved : goal.loop-index-preserved
loop-index-preserved g c =
    let alike : c.as_bytes.result.now ≡ c.as_bytes-in-loop-index.result.now = search rules in
    take_more_same _ _ c.loop-index.index [] (omega (arith, c.len-len.ensures)) (omega (arith, c.len.ensures, c.len-len.ensures)) c.loop-index.invariant (cc)
