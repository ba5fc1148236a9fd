use Rattle.zv_map2d.proofs.Common.{[], Some, sym, ◌∙◌, ap, at_within, entry_at, entry_gap, look_up_gap, rows_in, Row}
use Rattle.zv_map2d.proofs.Flat.{row_pair}
use Rattle.zv_map2d.proofs.Places.{look_up_row}
use Rattle.zv_map2d.proofs.borrowed.ZeroMap2dBorrowed.row_there.Goals as goal

pub returns-in-Ok-clause-row : goal.returns-in-Ok-clause-row
returns-in-Ok-clause-row g c =
    let m = rows_in c.args.self.now in
    ap (λ (r : Row). Some (r.key, r.pairs)) c.cursor.ensures
    ∙ sym (entry_at g.met.K0.ZvOrd.total _ m _ (rw c.in-Ok.is at c.requires) ∙ row_pair m _ (at_within g.K0.ZvOrd.cmp _ m _ (rw c.in-Ok.is at c.requires)))

pub returns-in-Ok-clause-pairs : goal.returns-in-Ok-clause-pairs
returns-in-Ok-clause-pairs g c =
    ap (λ (r : Row). Some r.pairs) c.cursor.ensures ∙ sym (look_up_row g.met.K0.ZvOrd.total g.met.K1.ZvOrd.total _ _ [] _ (rw c.in-Ok.is at c.requires))

pub returns-in-Err-clause-row : goal.returns-in-Err-clause-row
returns-in-Err-clause-row g c = sym (entry_gap g.met.K0.ZvOrd.total _ _ _ (rw c.in-Err.is at c.requires))

pub returns-in-Err-clause-pairs : goal.returns-in-Err-clause-pairs
returns-in-Err-clause-pairs g c = sym (look_up_gap g.met.K0.ZvOrd.total _ _ _ (rw c.in-Err.is at c.requires))
