use Rattle.zv_hashmap.proofs.Common.{◌≡◌, List, map, take, Bytes, keys_of, values_of}
use Rattle.std.proofs.Common.{◌&&◌, drop}
use Rattle.zv_hashmap.specs.Building.{fit}
use Rattle.zv_owned.specs.Size.{takes_pushes}
use Rattle.zv_hashmap.proofs.build.push_pairs.Given as goal

-- the pairs so far were pushed, and by those that are left the whole fits or not
abbrev pub invariant-loop-pair : goal.invariant-loop-pair
invariant-loop-pair g l =
    let pairs : List (g.row.A.Denot × g.row.B.Denot) → List (Bytes × Bytes) = map (λ p. (g.A.ZvArg.bytes p.0, g.B.ZvArg.bytes p.1)) in
    let done = pairs (take l.pair-index l.pairs) in
    let left = pairs (drop l.pair-index l.pairs) in
    record {
      keys : g.C.ZeroVecLike.list l.keys ≡ keys_of done;
      values : g.D.ZeroVecLike.list l.values ≡ values_of done;
      rule : fit g.C.ZvContainer.takes_insert g.D.ZvContainer.takes_insert (pairs l.pairs)
          ≡ (takes_pushes g.C.ZvContainer.takes_insert (keys_of done) (keys_of left)
          && takes_pushes g.D.ZvContainer.takes_insert (values_of done) (values_of left));
    }
