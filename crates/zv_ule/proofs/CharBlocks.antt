-- Characters in three bytes each, tested a block of 16 at a time.
use Rattle.zv_ule.proofs.Common.{◌≡◌, ℕ, zero, suc, ◌+◌, ◌-◌, ◌*◌, ◌/◌, ◌%◌, ◌<◌, ◌≤◌, List, [], ◌∷◌, length, take, drop, get_or, Bool, true, false}
use Rattle.zv_ule.proofs.Common.{Option, is_none, refl, ap, sym, ◌∙◌, ◌&&◌, arith, drop-drop, length-drop, suc-mul, nat_tests, UleError}
use Rattle.zv_ule.proofs.Common.{chunks, chunks_of, first_fault}
use Rattle.zv_ule.proofs.ChunkFaults.{none_of_two}
use Rattle.zv_ule.specs.Chars.{char_fault}
use Rattle.std.proofs.Common.{not, ◌||◌, nat_eq}
use Rattle.std.proofs.Math.Bool.{and_assoc}
use Rattle.std.proofs.lemmas.List.{drop_more}

-- whether those of a block's 16 chunks are good that begin at index or later
abbrev pub rest_good : List ℕ → ℕ → Bool
rest_good b index = is_none (first_fault char_fault (chunks 3 ((48 - index) / 3) (drop (3 * ((index + 2) / 3)) b)))

-- the chunk that begins at i
three : (b : List ℕ) (i : ℕ) → i + 3 ≤ length b → take 3 (drop i b) ≡ get_or b i 0 ∷ (get_or b (i + 1) 0 ∷ (get_or b (i + 2) 0 ∷ []))
three b i le =
    let p : i < length b = omega arith in
    let q : i + 1 < length b = omega arith in
    let r : i + 2 < length b = omega arith in
    let two : i + 1 + 1 ≡ i + 2 = omega arith in
    rw (drop_more b i 0 p, drop_more b (i + 1) 0 q, two, drop_more b (i + 2) 0 r) refl

-- n chunks are good where the first is and the other m are
first_apart : (f : List ℕ → Option UleError) (n m : ℕ) (b chunk after : List ℕ) → n ≡ suc m → chunk ≡ take 3 b → after ≡ drop 3 b →
    is_none (first_fault f (chunks 3 n b)) ≡ (is_none (f chunk) && is_none (first_fault f (chunks 3 m after)))
first_apart f n m b chunk after more front back = rw (more, front, back) (none_of_two (f (take 3 b)) (first_fault f (chunks 3 m (drop 3 b))))

-- a chunk begins at i
head_good : (b : List ℕ) (i : ℕ) → i < 48 → 50 ≤ length b → i % 3 ≡ 0 →
    rest_good b i ≡ (is_none (char_fault (get_or b i 0 ∷ (get_or b (i + 1) 0 ∷ (get_or b (i + 2) 0 ∷ [])))) && rest_good b (i + 1))
head_good b i lt long first =
    let n : (48 - i) / 3 ≡ suc ((48 - (i + 1)) / 3) = omega arith in
    let at : 3 * ((i + 2) / 3) ≡ i = omega arith in
    let next : 3 * ((i + 1 + 2) / 3) ≡ i + 3 = omega arith in
    let le : i + 3 ≤ length b = omega arith in
    let front : get_or b i 0 ∷ (get_or b (i + 1) 0 ∷ (get_or b (i + 2) 0 ∷ [])) ≡ take 3 (drop (3 * ((i + 2) / 3)) b) = rw at (sym (three b i le)) in
    let back : drop (3 * ((i + 1 + 2) / 3)) b ≡ drop 3 (drop (3 * ((i + 2) / 3)) b) = rw (at, next) (sym (drop-drop 3 i b)) in
    first_apart char_fault _ _ _ _ _ n front back

-- no chunk begins at i
inside_good : (b : List ℕ) (i : ℕ) → i < 48 → 0 < i % 3 → rest_good b (i + 1) ≡ rest_good b i
inside_good b i lt some =
    let n : (48 - (i + 1)) / 3 ≡ (48 - i) / 3 = omega arith in
    let at : (i + 1 + 2) / 3 ≡ (i + 2) / 3 = omega arith in
    rw (n, at) refl

-- the index goes one on, where a chunk begins at it or none does
step_by : (b : List ℕ) (i : ℕ) (good ends first : Bool) → i < 48 → 50 ≤ length b → nat_eq (i % 3) 0 ≡ first →
    ends ≡ is_none (char_fault (get_or b i 0 ∷ (get_or b (i + 1) 0 ∷ (get_or b (i + 2) 0 ∷ [])))) →
    ((good && (not first || ends)) && rest_good b (i + 1)) ≡ (good && rest_good b i)
step_by b i good ends true lt long h is =
    let at : i % 3 ≡ 0 = grind (arith, nat_tests, h) in
    and_assoc good ends _ ∙ ap (λ t. good && t) (rw is (sym (head_good b i lt long at)))
step_by b i good ends false lt long h is =
    let at : 0 < i % 3 = grind (arith, nat_tests, h) in
    and_assoc good true _ ∙ ap (λ t. good && t) (inside_good b i lt at)

pub block_step : (b : List ℕ) (i : ℕ) (good ends : Bool) → i < 48 → 50 ≤ length b →
    ends ≡ is_none (char_fault (get_or b i 0 ∷ (get_or b (i + 1) 0 ∷ (get_or b (i + 2) 0 ∷ [])))) →
    ((good && (not (nat_eq (i % 3) 0) || ends)) && rest_good b (i + 1)) ≡ (good && rest_good b i)
block_step b i good ends lt long is = step_by b i good ends (nat_eq (i % 3) 0) lt long refl is

-- at the block's end no chunk is left
pub block_end : (b : List ℕ) (i : ℕ) (good all : Bool) → i ≡ 48 → (good && rest_good b i) ≡ all → good ≡ all
block_end b i true all e h = rw e at h
block_end b i false all e h = h

-- n + m chunks are good where the first n and the other m are
good_apart : (w n m t : ℕ) (f : List ℕ → Option UleError) (b : List ℕ) → t ≡ n + m →
    is_none (first_fault f (chunks w t b)) ≡ (is_none (first_fault f (chunks w n b)) && is_none (first_fault f (chunks w m (drop (n * w) b))))
good_apart w zero m t f b e =
    let t_is : t ≡ m = omega (arith, e) in
    let none : 0 * w ≡ 0 = omega arith in
    rw (t_is, none) refl
good_apart w (suc n) m t f b e =
    let t_is : t ≡ suc (n + m) = omega (arith, e) in
    let moved : suc n * w ≡ w + n * w = grind (arith, suc-mul n w) in
    let after = drop-drop (n * w) w b in
    let first = is_none (f (take w b)) in
    let both = none_of_two (f (take w b)) (first_fault f (chunks w (n + m) (drop w b))) in
    let fewer = none_of_two (f (take w b)) (first_fault f (chunks w n (drop w b))) in
    let others = is_none (first_fault f (chunks w m (drop (n * w) (drop w b)))) in
    let rest = good_apart w n m (n + m) f (drop w b) refl in
    rw (t_is, moved, ← after) (both ∙ ap (λ t. first && t) rest ∙ sym (and_assoc first _ _) ∙ ap (λ t. t && others) (sym fewer))

-- 16 chunks more
pub block_more : (b after : List ℕ) (good ok : Bool) → 50 ≤ length b → after ≡ drop 48 b → ok ≡ is_none (first_fault char_fault (chunks 3 16 b)) →
    ((good && ok) && is_none (first_fault char_fault (chunks_of 3 after))) ≡ (good && is_none (first_fault char_fault (chunks_of 3 b)))
block_more b after good ok long back is =
    let n : length b / 3 ≡ 16 + length (drop 48 b) / 3 = omega (arith, length-drop 48 b) in
    let both = good_apart 3 16 (length (drop 48 b) / 3) (length b / 3) char_fault b n in
    and_assoc good ok _ ∙ rw (is, back) (ap (λ t. good && t) (sym both))
