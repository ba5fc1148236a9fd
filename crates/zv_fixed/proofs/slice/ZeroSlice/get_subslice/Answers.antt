use Rattle.std.specs.List.{take-map, drop-map}
use Rattle.zv_fixed.proofs.slice.ZeroSlice.get_subslice.Goals as goal

pub returns-clause-values : goal.returns-clause-values
returns-clause-values g c = rw c.chunks_between.ensures.chunks (simp (take-map, drop-map))
