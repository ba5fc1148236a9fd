use Rattle.zv_layers.proofs.Common.{lengths, lists_left, map, row_entry, rows_left}
use Rattle.zv_layers.proofs.Gathered.{Loop}
use Rattle.zv_layers.proofs.overlay.gather.Given as goal

-- the rows so far, with what is left of both maps
abbrev pub invariant-loop-next : goal.invariant-loop-next
invariant-loop-next g l = Loop l.columns (lists_left row_entry (λ i. map row_entry (rows_left i)) l.walk) l.base.rows l.over.rows l.steps l.initial.steps

abbrev pub decreases-loop-next : goal.decreases-loop-next
decreases-loop-next g l = lengths (lists_left row_entry (λ i. map row_entry (rows_left i)) l.walk)
