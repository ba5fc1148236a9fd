-- Bytes that are chunks of one width, seen as the elements of a kind.
use Rattle.std.proofs.Common.{◌*◌, ◌+◌, ◌/◌, Option, IsTrue, length-append, length-drop, length-take-le}
use Rattle.std.proofs.Math.Nat.{suc-mul, div-mul-le_self, mul-le-mul_right}
use Rattle.std.proofs.lemmas.Option.{gets}
use Rattle.zv_ule.proofs.At.{place, chunk_of, good_at, length-chunks}
use Rattle.std.specs.List.{concat}
use Rattle.zv_ule.specs.Chunks.{chunks, chunks_of, first_fault, chunks_fault}
use Rattle.zv_ule.specs.Fixed.{is_width}
use Rattle.zv_ule.specs.Kinds.{IsFixedKind, one_fault}
use Rattle.zv_ule.specs.declared.error.TyName.{TyName}
use Rattle.zv_ule.specs.declared.error.UleError.{UleError}
use Rattle.zv_map.proofs.Common.{◌≡◌, ℕ, zero, suc, ◌≤◌, Bool, List, length, take, drop, None, refl, arith, common_steps, nat_tests, Fixed}
use Rattle.zv_map.specs.Layouts.{spells_in}

-- where chunks lie, how many there are, and that they are good
pub ruleset chunk_places = (common_steps, gets, place, chunk_of, good_at, length-chunks)

-- so many chunks have so many bytes
length-first_chunks : (w n i : ℕ) (b : List ℕ) → n * w ≤ length b → i ≤ n → length (concat (take i (chunks w n b))) ≡ i * w
length-first_chunks w n zero b fits h = let none : 0 ≡ 0 * w = omega arith in none
length-first_chunks w zero (suc i) b fits h = absurd (omega arith)
length-first_chunks w (suc n) (suc i) b fits h =
    let more : suc n * w ≡ w + n * w = omega (arith, suc-mul n w) in
    omega (
      arith,
      length-append (take w b) (concat (take i (chunks w n (drop w b)))),
      length-take-le w b (omega (arith, more)),
      suc-mul i w,
      length-first_chunks w n i (drop w b) (omega (arith, more, length-drop w b)) (omega arith),
    )

module _ (w i : ℕ) (b : List ℕ) (h : i ≤ length (chunks_of w b)) where
  -- where a chunk starts
  pub chunk_starts_at : length (concat (take i (chunks_of w b))) ≡ i * w
  chunk_starts_at = length-first_chunks w (length b / w) i b (div-mul-le_self (length b) w) (omega (arith, h, length-chunks w (length b / w) b))

  pub chunk_within : i * w ≤ length b
  chunk_within =
      let few : i ≤ length b / w = omega (arith, h, length-chunks w (length b / w) b) in
      omega (arith, mul-le-mul_right w few, div-mul-le_self (length b) w)

pub ruleset chunk_starts = (common_steps, chunk_starts_at, chunk_within)

module _ {usable : Bool} {fault f : List ℕ → Option UleError} {ty : TyName} {w : ℕ} (kind : IsFixedKind usable fault ty w f) where
  -- chunks of that width have the faults of elements
  same_fault : (n : ℕ) (b : List ℕ) → n * w ≤ length b → first_fault fault (chunks w n b) ≡ first_fault f (chunks w n b)
  same_fault zero b fits = refl
  same_fault (suc n) b fits =
      let long : length (take w b) ≡ w = length-take-le w b (omega (arith, suc-mul n w)) in
      let one : one_fault ty w f (take w b) ≡ f (take w b) = grind (arith, nat_tests) in
      rw (kind.errors (take w b), one, same_fault n (drop w b) (omega (arith, suc-mul n w, length-drop w b)))

  -- a list without a fault spells elements in the layout of its width
  pub spells_fixed : (b : List ℕ) → IsTrue (is_width w) → chunks_fault ty w f b ≡ None → IsTrue (spells_in (Fixed w) fault b)
  spells_fixed b wide h = rw (same_fault (length b / w) b (div-mul-le_self (length b) w)) (grind (arith, nat_tests, common_steps))

  -- and back
  pub fault_fixed : (b : List ℕ) → IsTrue (spells_in (Fixed w) fault b) → chunks_fault ty w f b ≡ None
  fault_fixed b h =
      let same = same_fault (length b / w) b (div-mul-le_self (length b) w) in
      grind (arith, nat_tests, common_steps)
