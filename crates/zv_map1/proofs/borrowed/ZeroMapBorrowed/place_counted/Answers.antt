use Rattle.zv_map1.proofs.Common.{compared, list_of, range_all, length-map, placed}
use Rattle.zv_map1.proofs.Zipped.{keys_in}
use Rattle.zv_map1.proofs.borrowed.ZeroMapBorrowed.place_counted.Goals as goal

pub returns-clause-place : goal.returns-clause-place
returns-clause-place g c =
    let ks = list_of c.args.self.keys in
    let key = g.Q.ZvArg.bytes c.args.key.now in
    let whole = range_all (compared g.K.ZvOrd.cmp ks key) c.len.result (rw (length-map ks (λ x. g.K.ZvOrd.cmp x key)) c.len.ensures) in
    rw (keys_in c.args.self) (placed g.met.K.ZvOrd.total _ ks c.args.self.ascending _ (rw whole at c.in-Some.ensures.found))
