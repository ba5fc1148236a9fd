use Rattle.zv_map2d.proofs.Common.{length, left_of}
use Rattle.zv_map2d.proofs.Parsed.{end_within}
use Rattle.zv_map2d.proofs.parse.rows_ascend.Goals as goal

pub zvl_is_ascending_between-requires-clause-within : goal.zvl_is_ascending_between-requires-clause-within
zvl_is_ascending_between-requires-clause-within g c =
    end_within c.loop-end.start c.in-Some.end (length (g.C.ZeroVecLike.list c.args.keys.now)) (left_of c.loop-end.end-iterator)
    (left_of c.next.new.self) c.in-Some.ensures.steps c.loop-end.invariant.last
