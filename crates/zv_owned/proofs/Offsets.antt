-- Where the elements of a list start.
use Rattle.zv_owned.proofs.Common.{[], ◌++◌, ◌+◌, ◌∙◌, ◌∷◌, ◌≡◌, ◌≤◌, List, ap, append_assoc, arith, concat, concat-append, length, length-append, suc, sym}
use Rattle.zv_owned.proofs.Common.{take, take_at, zero, ℕ}

-- where an element starts among the bytes of all elements, and for the place after the last one where it ends
abbrev pub offset_of : List (List ℕ) → ℕ → ℕ
offset_of xs i = length (concat (take i xs))

pub offset_rises : (xs : List (List ℕ)) (a b : ℕ) → a ≤ b → offset_of xs a ≤ offset_of xs b
offset_rises xs zero b h = omega arith
offset_rises [] (suc a) b h = omega arith
offset_rises (x ∷ xs) (suc a) zero h = absurd (omega arith)
offset_rises (x ∷ xs) (suc a) (suc b) h = omega (arith, length-append {A = ℕ}, offset_rises xs a b (omega arith))

-- A list in three parts: n elements, i before the place and j in the middle, and b bytes before the place and o before the last part.
pub record IsParted (front mid back : List (List ℕ)) (n i j b o : ℕ) : Type 0 where
  pub count : length front + length mid + length back ≡ n
  pub first : length front ≡ i
  pub second : length mid ≡ j
  pub before : length (concat front) ≡ b
  pub end : b + length (concat mid) ≡ o

-- the code asks for the offsets of the whole
pub parted : (front mid back : List (List ℕ)) {xs : List (List ℕ)} {n i j b o : ℕ} → xs ≡ front ++ (mid ++ back) → length front ≡ i → length mid ≡ j →
    n ≡ length xs → b ≡ offset_of xs i → o ≡ offset_of xs (i + j) → IsParted front mid back n i j b o
parted front mid back {xs} {n} {i} {j} {b} {o} is first second count before end =
    let front_of : take i xs ≡ front = ap (λ (l : List (List ℕ)). take i l) is ∙ take_at front (mid ++ back) i first in
    let both : take (i + j) xs ≡ front ++ mid = ap (λ (l : List (List ℕ)). take (i + j) l) (is ∙ sym (append_assoc front mid back))
    ∙ take_at (front ++ mid) back (i + j) (omega (arith, length-append front mid)) in
    let lead : b ≡ length (concat front) = rw front_of at before in
    let all : o ≡ length (concat front ++ concat mid) = rw (both, concat-append) at end in
    record {
      count = omega (arith, ap length is, length-append {A = List ℕ});
      first = first;
      second = second;
      before = sym lead;
      end = omega (arith, length-append {A = ℕ});
    }
