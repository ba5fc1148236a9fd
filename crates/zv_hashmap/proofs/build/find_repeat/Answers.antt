use Rattle.zv_hashmap.proofs.Common.{arith, length-map, key_hash, list_of}
use Rattle.zv_hashmap.proofs.Repeated.{apart_if}
use Rattle.zv_hashmap.proofs.build.find_repeat.Goals as goal

pub repeat_from-requires-clause-apart : goal.repeat_from-requires-clause-apart
repeat_from-requires-clause-apart g c =
    let first = rw (c.in-Some.is, c.requires.hashes) at c.in_ok-place.ensures in
    apart_if g.K.ZvOrd.cmp g.K.HashBytes.hashed g.met.K.HashBytes.alike (list_of c.args.keys) c.in-Some.place
    (omega (arith, first.within, length-map (list_of c.args.keys) (key_hash g.K.HashBytes.hashed))) first.before

pub returns-in-None : goal.returns-in-None
returns-in-None g c =
    let all = rw (c.in-None.is, c.requires.hashes, length-map) at c.in_ok-place.ensures in
    apart_if g.K.ZvOrd.cmp g.K.HashBytes.hashed g.met.K.HashBytes.alike (list_of c.args.keys) _ (omega arith) all
