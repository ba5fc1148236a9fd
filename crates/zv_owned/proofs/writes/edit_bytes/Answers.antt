use Rattle.zv_owned.proofs.Common.{◌*◌, ◌++◌, ◌+◌, ◌∙◌, ◌≡◌, arith, concat, count_after, flat_map, le, length, length-append, length-flat_map-le}
use Rattle.zv_owned.proofs.Common.{refl, suc, ℕ}
use Rattle.std.proofs.Math.Nat.{mul-suc}
use Rattle.zv_owned.proofs.Written.{edited}
use Rattle.zv_owned.specs.Splices.{new_elements}
use Rattle.zv_owned.proofs.writes.edit_bytes.Goals as goal

pub returns-clause-ok : goal.returns-clause-ok
returns-clause-ok g c = λ h ps gs ss d o t is lh lp lg ls ld lo can same.
    let e = c.args.edit in
    let w : ℕ = g.F.VarZeroVecFormat.W in
    let f = flat_map (le w) in
    let v : ℕ = c.W-width.result in
    let n : e.kept + c.count_of-comes.result + e.later ≡ count_after e = rw c.count_of-comes.ensures refl in
    let k : e.kept ≡ suc (length ps) = omega arith in
    let front : length (h ++ f ps) ≡ v * e.kept =
    rw (c.W-width.ensures, k, length-append) (omega (arith, length-flat_map-le w ps, mul-suc w (length ps))) in
    let gone : length (f gs) ≡ v * e.gone = rw (c.W-width.ensures, ← lg) (length-flat_map-le w gs) in
    let kept : length (f ss ++ d) ≡ v * e.later + e.before =
    rw (c.W-width.ensures, ← ls, length-append) (omega (arith, length-flat_map-le w ss)) in
    edited e.into e.out (e.kept + c.count_of-comes.result + e.later) e.start h (f ps) ss d (concat (new_elements g.Q.ZvArg.bytes c.args.value)) t
    (c.in_ok-fit_gaps.ensures.ok (h ++ f ps) (f gs) (f ss ++ d) o t is front gone (omega (arith, length-append {A = ℕ})) lo)
    (rw (c.W-width.ensures, c.count_of-comes.ensures) refl) c.requires.can.into lh front (omega arith)
    c.put_value.ensures.bytes c.put_start.ensures.bytes (λ q r. c.put_shifted.ensures.bytes ss ls can q r) c.put_count.ensures.bytes
    (λ other. rw n (same (grind (arith, c.count_of-comes.ensures))))
    ∙ rw n refl
