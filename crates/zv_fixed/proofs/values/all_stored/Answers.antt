use Rattle.zv_ule.proofs.Exact.{through_twin}
use Rattle.zv_ule.proofs.Lists.{joined_length, joined_fault, joined_values, all_of_none}
use Rattle.zv_ule.proofs.ChunkFaults.{width_pos}
use Rattle.zv_fixed.proofs.values.all_stored.Goals as goal

pub returns : goal.returns
returns g c =
    let u = g.T.ULE.ULE in
    let s = through_twin g.met.T.AsULE.twin g.met.T.ULE.ULE.spelling in
    let all = c.loop-rest.invariant (all_of_none g.T.AsULE.is_value c.loop-rest.rest.now c.in_default.len_below) in
    let pos = width_pos u.width (rw (← g.met.T.AsULE.kind.widths) c.requires) in
    record {
      len = joined_length s c.args.values.now all;
      spells = joined_fault s u.TY c.args.values.now all pos;
      back = joined_values s c.args.values.now all pos;
    }
