-- The laws of two parts, from those of each.
use Rattle.std.proofs.Common.{ℕ, ◌+◌, ◌-◌, ◌≤◌, List, ◌++◌, length, take, drop, Option}
use Rattle.std.proofs.Common.{◌∙◌, arith, length-append}
use Rattle.std.proofs.lemmas.Grind.{common_steps}
use Rattle.std.proofs.lemmas.List.{take-append-drop, length-drop, length-take-le}
use Rattle.zv_ule.specs.declared.error.UleError.{UleError}
use Rattle.zv_ule.specs.Bytes.{IsBytes}
use Rattle.zv_ule.specs.Fixed.{IsChunk, IsSpelling, IsTwin}
use Rattle.zv_ule.specs.Pairs.{pair_fault, read_pair}
use Rattle.zv_ule.specs.laws.Joined.{front_of, back_of, front_bytes, back_bytes, or_none}

pub joined_bytes : (a b : List ℕ) → IsBytes a → IsBytes b → IsBytes (a ++ b)
joined_bytes a b p q = record {
  at = λ i. let h = p.at i in let k = q.at (i - length a) in
      grind (arith, common_steps);
}

-- two stored parts, one after the other
pub both_spelling : {A B : Type 0}
    → {is_a : A → Type 0} {wa : ℕ} {fa : List ℕ → Option UleError} {ca : A → List ℕ}
    {va : List ℕ → A} → IsSpelling is_a wa fa ca va
    → {is_b : B → Type 0} {wb : ℕ} {fb : List ℕ → Option UleError} {cb : B → List ℕ}
    {vb : List ℕ → B} → IsSpelling is_b wb fb cb vb
    → IsSpelling {V = A × B} (λ v. is_a v.0 × is_b v.1) (wa + wb) (pair_fault wa fa fb)
    (λ v. ca v.0 ++ cb v.1) (read_pair wa va vb)
both_spelling {wa = wa} {fa = fa} {ca = ca} s {wb = wb} {fb = fb} {cb = cb} t =
    let parts : (b : List ℕ) → IsChunk (wa + wb) (pair_fault wa fa fb) b →
    IsChunk wa fa (take wa b) × IsChunk wb fb (drop wa b) = λ b h.
    let le : wa ≤ length b = omega (arith, h.long) in
    let good = or_none (fa (take wa b)) (fb (drop wa b)) h.good in (
      record { each = front_bytes wa b h.each le; long = length-take-le wa b le; good = good.0 },
      record {
        each = back_bytes wa b h.each;
        long = length-drop wa b ∙ omega (arith, h.long);
        good = good.1;
      },
    ) in
    record {
      writes = λ v h.
          let p = s.writes v.0 h.0 in
          let q = t.writes v.1 h.1 in
          record {
            each = joined_bytes (ca v.0) (cb v.1) p.each q.each;
            long = length-append (ca v.0) (cb v.1) ∙ omega (arith, p.long, q.long);
            good = rw (front_of wa _ (cb v.1) p.long, back_of wa _ (cb v.1) p.long, p.good) q.good;
          };
      back = λ v h.
          let p = s.writes v.0 h.0 in
          rw (front_of wa _ (cb v.1) p.long, back_of wa _ (cb v.1) p.long)
          (λ i. (s.back v.0 h.0 i, t.back v.1 h.1 i));
      reads = λ b h. (s.reads (take wa b) (parts b h).0, t.reads (drop wa b) (parts b h).1);
      again = λ b h. rw (s.again (take wa b) (parts b h).0, t.again (drop wa b) (parts b h).1)
          (take-append-drop wa b);
    }

-- two values, each stored and loaded
pub both_twin : {A B C D : Type 0}
    → {is_a : A → Type 0} {is_c : C → Type 0} {to_a : A → C} {from_a : C → A} →
    IsTwin is_a is_c to_a from_a
    → {is_b : B → Type 0} {is_d : D → Type 0} {to_b : B → D} {from_b : D → B} →
    IsTwin is_b is_d to_b from_b
    → IsTwin {V = A × B} {U = C × D} (λ v. is_a v.0 × is_b v.1) (λ u. is_c u.0 × is_d u.1)
    (λ v. (to_a v.0, to_b v.1)) (λ u. (from_a u.0, from_b u.1))
both_twin s t = record {
  stored = λ v h. (s.stored v.0 h.0, t.stored v.1 h.1);
  back = λ v h i. (s.back v.0 h.0 i, t.back v.1 h.1 i);
  taken = λ u h. (s.taken u.0 h.0, t.taken u.1 h.1);
  again = λ u h i. (s.again u.0 h.0 i, t.again u.1 h.1 i);
}
