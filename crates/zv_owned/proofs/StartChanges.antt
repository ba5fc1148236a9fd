-- What a change of a list changes in the starts of its elements.
use Rattle.zv_owned.proofs.Common.{[], ◌++◌, ◌+◌, ◌-◌, ◌<◌, ◌∙◌, ◌∷◌, ◌≡◌, ◌≤◌, AllByRecursion, Edit, IsEdit, List, None, Option, Some, append_assoc, arith}
use Rattle.zv_owned.proofs.Common.{concat, length, length-append, length-starts_from, map, max, option_map, option_to_list, refl, shifted, starts, starts_from}
use Rattle.zv_owned.proofs.Common.{ℕ}
use Rattle.zv_owned.proofs.Offsets.{IsParted}
use Rattle.zv_owned.proofs.Starts.{starts_from-append}
use Rattle.zv_owned.specs.Splices.{HasCounts}

-- starts that move together
moved_starts : (a b n m : ℕ) (xs : List (List ℕ)) → n + a ≡ m + b → starts_from m xs ≡ map (shifted a b) (starts_from n xs)
moved_starts a b n m [] e = refl
moved_starts a b n m (x ∷ xs) e =
    let k : n + a - b ≡ m = omega arith in
    rw (k, moved_starts a b (n + length x) (m + length x) xs (omega arith)) refl

starts_above : (a b n : ℕ) (xs : List (List ℕ)) → b ≤ n + a → AllByRecursion (λ s. b ≤ s + a) (starts_from n xs)
starts_above a b n [] h = tt
starts_above a b n (x ∷ xs) h = (h, starts_above a b (n + length x) xs (omega arith))

-- the starts of `later` move from n to m
edit_at : {front gone back : List (List ℕ)} {o : Option (List ℕ)} {e : Edit} (ps gs : List ℕ) (n m : ℕ) (later : List (List ℕ)) →
    starts (front ++ (gone ++ back)) ≡ ps ++ (gs ++ starts_from n later) →
    starts (front ++ (option_to_list o ++ back)) ≡ ps ++ (option_to_list e.start ++ starts_from m later) →
    n + e.into ≡ m + e.out → HasCounts front gone back o e ps gs (starts_from n later) → IsEdit front gone back o e
edit_at {e = e} ps gs n m later old new moves counts = record {
  ps = ps;
  gs = gs;
  ss = starts_from n later;
  old = old;
  new = rw (← moved_starts e.into e.out n m later moves) new;
  above = starts_above e.into e.out n later (omega arith);
  counts = counts;
}

starts_append : (x : List ℕ) (xs ys : List (List ℕ)) → starts (x ∷ (xs ++ ys)) ≡ starts (x ∷ xs) ++ starts_from (length (concat (x ∷ xs))) ys
starts_append x xs ys = rw length-append (starts_from-append (length x) xs ys)

one_long : (y : List ℕ) → length (concat (y ∷ [])) ≡ length y
one_long y = length-append y [] ∙ omega arith

module _ {n i j b c : ℕ} where
  -- y comes: first, or after others
  pub insertion_is : (front gone back : List (List ℕ)) (o : Option (List ℕ)) → IsParted front gone back n i j b c → (k s len : ℕ) →
      option_map (λ x. length x) o ≡ Some len → j ≡ 0 → 0 < n → k ≡ max i 1 → (i ≡ 0 → s ≡ len) → (0 < i → s ≡ b) → IsEdit front gone back o
      (record { kept = k; gone = 0; start = Some s; later = n - k; before = b; out = 0; into = len })
  insertion_is front gone back None p k s len new none some hk first later = absurd cc
  insertion_is front (z ∷ gone) back (Some y) p k s len new none some hk first later = absurd (omega (arith, p.second))
  insertion_is [] [] [] (Some y) p k s len new none some hk first later = absurd (omega (arith, p.count))
  insertion_is [] [] (x ∷ back) (Some y) p k s len new none some hk first later =
      let l : length y ≡ len = cc in
      let e : s ≡ length y = omega (arith, p.first) in
      edit_at [] [] (length x) (length y + length x) back refl (rw e refl) (omega arith) (omega (arith, one_long y, length-starts_from))
  insertion_is (x ∷ front) [] back (Some y) p k s len new none some hk first later =
      let l : length y ≡ len = cc in
      let m : ℕ = length (concat (x ∷ front)) in
      let e : s ≡ m = omega (arith, p.first, p.before) in
      edit_at (starts (x ∷ front)) [] m (m + length y) back (starts_append x front back) (rw e (starts_append x front (y ∷ back))) (omega arith)
      (omega (arith, one_long y, length-starts_from))

  -- y takes the place of one
  pub replacement_is : (front gone back : List (List ℕ)) (o : Option (List ℕ)) → IsParted front gone back n i j b c → (len : ℕ) →
      option_map (λ x. length x) o ≡ Some len → 0 < j → j ≤ 1 → IsEdit front gone back o
      (record { kept = i + 1; gone = 0; start = None; later = n - i - 1; before = b; out = c - b; into = len })
  replacement_is front gone back None p len new some one = absurd cc
  replacement_is front [] back (Some y) p len new some one = absurd (omega (arith, p.second))
  replacement_is front (z ∷ u ∷ gone) back (Some y) p len new some one = absurd (omega (arith, p.second))
  replacement_is [] (z ∷ []) back (Some y) p len new some one =
      let l : length y ≡ len = cc in
      let long = one_long z in
      edit_at [] [] (length z) (length y) back refl refl (omega (arith, p.before)) (omega (arith, one_long y, length-starts_from))
  replacement_is (x ∷ front) (z ∷ []) back (Some y) p len new some one =
      let l : length y ≡ len = cc in
      let long = one_long z in
      let m : ℕ = length (concat (x ∷ front)) in
      edit_at (starts (x ∷ front) ++ (m ∷ [])) [] (m + length z) (m + length y) back (rw append_assoc (starts_append x front (z ∷ back)))
      (rw append_assoc (starts_append x front (y ∷ back))) (omega arith)
      (omega (arith, one_long y, length-starts_from, length-append {A = ℕ}))

  -- one goes, and it is not the only one
  pub removal_is : (front gone back : List (List ℕ)) (o : Option (List ℕ)) → IsParted front gone back n i j b c → (k : ℕ) →
      option_map (λ x. length x) o ≡ None → 0 < j → j ≤ 1 → 1 < n → k ≡ max i 1 → IsEdit front gone back o
      (record { kept = k; gone = 1; start = None; later = n - k - 1; before = b; out = c - b; into = 0 })
  removal_is front gone back (Some y) p k new order one some hk = absurd cc
  removal_is front [] back None p k new order one some hk = absurd (omega (arith, p.second))
  removal_is front (z ∷ u ∷ gone) back None p k new order one some hk = absurd (omega (arith, p.second))
  removal_is [] (z ∷ []) [] None p k new order one some hk = absurd (omega (arith, p.count))
  removal_is [] (z ∷ []) (x ∷ back) None p k new order one some hk =
      let long = one_long z in
      edit_at [] (length z ∷ []) (length z + length x) (length x) back refl refl (omega arith) (omega (arith, length-starts_from))
  removal_is (x ∷ front) (z ∷ []) back None p k new order one some hk =
      let long = one_long z in
      let m : ℕ = length (concat (x ∷ front)) in
      edit_at (starts (x ∷ front)) (m ∷ []) (m + length z) m back (starts_append x front (z ∷ back)) (starts_append x front back) (omega arith)
      (omega (arith, length-starts_from))
