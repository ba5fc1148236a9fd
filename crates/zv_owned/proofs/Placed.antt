-- A change of a list at a place that the list has.
use Rattle.zv_owned.proofs.Common.{[], ◌+◌, ◌<◌, ◌^◌, ◌∷◌, ◌≡◌, ◌≤◌, List, None, Option, Some, add-one, ap, arith, codable, length}
use Rattle.zv_owned.proofs.Common.{append-nil, max_of, new_bytes, option_map, refl, size, slice_index_or, splice, sym, true, ℕ}
use Rattle.std.proofs.Common.{Bor}
use Rattle.std.proofs.lemmas.List.{drop_all}
use Rattle.std.specs.Option.{ForSome}
use Rattle.zv_owned.proofs.Codable.{insert_codable, remove_codable, replace_codable, size_set}
use Rattle.zv_owned.proofs.SizeRule.{size_splice, splice_set}
use Rattle.zv_owned.proofs.Sizes.{one_encoded}
use Rattle.zv_owned.specs.Changes.{HasPlace, change_steps, changed, gone_of, growth, takes_change, value_of}
use Rattle.zv_owned.specs.Splices.{most_steps, new_elements}
use Rattle.zv_owned.specs.declared.change.Change.{Change}
use Rattle.zv_owned.specs.declared.change.Change.TheVariants.{Insert, Replace, Remove}

-- where a splice takes all elements, what comes is the list
pub nothing_kept : (xs : List (List ℕ)) (i j : ℕ) (es : List (List ℕ)) → i + j ≤ length xs → length xs ≡ j → splice xs i (i + j) es ≡ es
nothing_kept xs i j es inside e =
    let k : i ≡ 0 = omega arith in
    rw (k, drop_all (0 + j) xs (omega arith)) (append-nil es)

module _ {Q : Type 0} (f : Q → List ℕ) where
  -- It is a splice: n elements go, and what is written for v comes.
  pub record IsPlaced (c : Change Q) (xs : List (List ℕ)) (i n : ℕ) (v : Option (Bor Q)) : Type 0 where
    pub one : n ≤ 1
    pub inside : i + n ≤ length xs
    pub brings : n ≡ 0 → new_bytes f v ≡ None → ⊥
    pub is : changed f c xs i ≡ splice xs i (i + n) (new_elements f v)

  pub placed : (c : Change Q) (xs : List (List ℕ)) (i n : ℕ) (v : Option (Bor Q)) → n ≡ gone_of c → v ≡ value_of c → HasPlace f c (length xs) i →
      IsPlaced c xs i n v
  placed (Insert a) xs i n v en ev h =
      let k : i + n ≡ i = omega arith in
      record { one = omega arith; inside = omega arith; brings = λ z e. let none = rw ev at e in absurd cc; is = rw (k, ev) refl }
  placed (Replace a) xs i n v en ev h =
      record { one = omega arith; inside = omega arith; brings = λ z e. absurd (omega arith); is = rw (en, ev) (sym (splice_set xs i (f a.now) h)) }
  placed Remove xs i n v en ev h =
      record { one = omega arith; inside = omega arith; brings = λ z e. absurd (omega arith); is = rw (en, ev, add-one) refl }

  -- what comes, where the size rule takes it
  pub taken_short : (w : ℕ) (c : Change Q) (xs : List (List ℕ)) (i : ℕ) (v : Option (Bor Q)) → v ≡ value_of c → takes_change f w c xs i ≡ true →
      ForSome v (λ b. length (f b.now) < max_of w)
  taken_short w (Insert a) [] i v ev taken = λ b e. let same : a ≡ b = cc in rw (← same) (grind arith)
  taken_short w (Insert a) (x ∷ xs) i v ev taken = λ b e. let same : a ≡ b = cc in rw (← same) (grind arith)
  taken_short w (Replace a) xs i v ev taken = λ b e. let same : a ≡ b = cc in rw (← same) (grind arith)
  taken_short w Remove xs i v ev taken = λ b e. absurd cc

  pub taken_codable : (w : ℕ) → 0 < w → 256 ^ w ≤ 2 ^ 32 → (c : Change Q) (xs : List (List ℕ)) (i : ℕ) → codable w xs ≡ true →
      HasPlace f c (length xs) i → takes_change f w c xs i ≡ true → codable w (changed f c xs i) ≡ true
  taken_codable w some narrow (Insert a) xs i can h taken = insert_codable w some narrow xs i (f a.now) h taken
  taken_codable w some narrow (Replace a) xs i can h taken = replace_codable w some narrow xs i (f a.now) h can taken
  taken_codable w some narrow Remove xs i can h taken = remove_codable w some narrow xs i can

  -- the encoding gets longer by the growth at most
  pub size_changed : (w : ℕ) (c : Change Q) (xs : List (List ℕ)) (i : ℕ) → HasPlace f c (length xs) i →
      size w (changed f c xs i) ≤ size w xs + growth f w c
  size_changed w (Insert a) xs i h =
      let p = placed (Insert a) xs i _ _ refl refl h in
      omega (arith, ap (λ (l : List (List ℕ)). size w l) p.is, size_splice w xs i 0 (f a.now ∷ []), one_encoded w (f a.now))
  size_changed w (Replace a) xs i h = omega (arith, size_set w xs i (f a.now) h)
  size_changed w Remove xs i h =
      let p = placed Remove xs i _ _ refl refl h in
      omega (arith, ap (λ (l : List (List ℕ)). size w l) p.is, size_splice w xs i 1 [])

  -- the most steps of the splice are those of the change
  pub steps_of : (w : ℕ) (c : Change Q) (xs : List (List ℕ)) (i long n t u : ℕ) (v : Option (Bor Q)) → n ≡ gone_of c → v ≡ value_of c →
      t ≤ u + most_steps w (length xs) long i n (option_map (λ x. length x) (new_bytes f v)) →
      ((e : List ℕ) → new_bytes f v ≡ Some e → n ≡ 1 → length e ≡ length (slice_index_or xs i []) → t ≤ u + length e) →
      t ≤ u + change_steps f w c xs long i
  steps_of w (Insert a) xs i long n t u v en ev most in_place = rw (en, ev) at most
  steps_of w (Replace a) xs i long n t u v en ev most in_place =
      let all = rw (en, ev) at most in
      let still = in_place (f a.now) (rw ev refl) en in
      grind arith
  steps_of w Remove xs i long n t u v en ev most in_place = rw (en, ev) at most

pub ruleset splicing = (placed, taken_short, nothing_kept)
