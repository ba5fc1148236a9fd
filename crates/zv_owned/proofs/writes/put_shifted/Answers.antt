use Rattle.zv_owned.proofs.Common.{◌*◌, ◌++◌, ◌∙◌, ◌≡◌, List, ap, flat_map, le, length, length-flat_map-le, sym, ℕ}
use Rattle.zv_owned.proofs.Shifts.{lent, not_shifted, put_back}
use Rattle.zv_owned.proofs.writes.put_shifted.Goals as goal

pub returns-then-into-out-clause-bytes : goal.returns-then-into-out-clause-bytes
returns-then-into-out-clause-bytes g c = λ ss count can p q e at.
    let w : ℕ = g.F.VarZeroVecFormat.W in
    let old : List ℕ = flat_map (le w) ss in
    let long : length old ≡ c.W.result * c.args.count = rw (c.W.ensures, ← count) (length-flat_map-le w ss) in
    let is = c.shift_fields.ensures ss (c.lend.ensures.value ∙ lent p old q e at long) count can in
    put_back p old q _ e at (c.shift_fields.auto.fields ∙ (c.lend.ensures.len ∙ sym long)) ∙ ap (λ (l : List ℕ). p ++ (l ++ q)) is

pub returns-else-into-out-clause-bytes : goal.returns-else-into-out-clause-bytes
returns-else-into-out-clause-bytes g c = λ ss count can p q e at. rw (not_shifted c.args.into c.args.out ss c.if-into-out.false) e
