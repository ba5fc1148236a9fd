-- The elements of a list as pieces of their bytes, one after another.
use Rattle.std.proofs.Common.{◌∷◌, ◌++◌, Option, IsTrue, is_none, slice_range, length-append}
use Rattle.std.proofs.lemmas.List.{append-nil, drop_at, drop_more, take-append-drop, take_all, take_at, take_more}
use Rattle.std.proofs.lemmas.List.Folds.{concat-append}
use Rattle.std.specs.List.{concat}
use Rattle.zv_ule.proofs.At.{good_at}
use Rattle.zv_ule.specs.declared.error.UleError.{UleError}
use Rattle.zv_var.specs.Format.{list_fault, elements, elements_after, count}
use Rattle.zv_var.proofs.Fields.{fault_some}
use Rattle.zv_var.proofs.Lists.{element_after, length-elements_after}
use Rattle.zv_map.proofs.Common.{◌≡◌, ℕ, ◌+◌, ◌-◌, ◌<◌, ◌≤◌, List, [], length, take, drop, None, ap, refl, sym, ◌∙◌, arith, nat_tests, Bytes, nth, Fixed}
use Rattle.zv_map.specs.Laws.{fixed_parts, no_fault}
use Rattle.zv_map.specs.Layouts.{list_in, spells_in}
use Rattle.zv_map.specs.declared.view.Layout.{Layout}
use Rattle.zv_map.specs.declared.view.Layout.TheVariants.{Index16, Index32}

module _ (xs : List Bytes) (i : ℕ) where
  module _ (h : i < length xs) where
    rest : concat xs ≡ concat (take i xs) ++ (nth xs i ++ concat (drop (i + 1) xs))
    rest = ap concat (sym (take-append-drop i xs) ∙ ap (λ l. take i xs ++ l) (drop_more xs i [] h))
        ∙ concat-append (take i xs) (nth xs i ∷ drop (i + 1) xs)

    end : length (concat (take (i + 1) xs)) ≡ length (concat (take i xs)) + length (nth xs i)
    end =
        ap (λ l. length (concat l)) (take_more xs i [] h) ∙ ap length (concat-append (take i xs) (nth xs i ∷ []))
        ∙ length-append (concat (take i xs)) (nth xs i ++ []) ∙ ap (λ l. length (concat (take i xs)) + length l) (append-nil (nth xs i))

    -- an element is what lies between where it starts and where the next one does
    pub piece : (b : List ℕ) (s e : ℕ) → b ≡ concat xs → s ≡ length (concat (take i xs)) → e ≡ length (concat (take (i + 1) xs)) →
        slice_range b s e ≡ nth xs i
    piece b s e joined start stop =
        let long : length (nth xs i) ≡ e - s = omega (arith, end, start, stop) in
        ap (λ d. take (e - s) (drop s d)) (joined ∙ rest)
        ∙ ap (take (e - s)) (drop_at (concat (take i xs)) (nth xs i ++ concat (drop (i + 1) xs)) s (sym start))
        ∙ take_at (nth xs i) (concat (drop (i + 1) xs)) (e - s) long

    pub in_order : length (concat (take i xs)) ≤ length (concat (take (i + 1) xs))
    in_order = omega (arith, end)

  pub within : length (concat (take i xs)) ≤ length (concat xs)
  within =
      let all : length (concat xs) ≡ length (concat (take i xs)) + length (concat (drop i xs)) =
      ap (λ l. length (concat l)) (sym (take-append-drop i xs)) ∙ ap length (concat-append (take i xs) (drop i xs))
      ∙ length-append (concat (take i xs)) (concat (drop i xs)) in
      omega (arith, all)

  -- where the last element ends
  pub last : (b : List ℕ) → b ≡ concat xs → i ≡ length xs → length b ≡ length (concat (take i xs))
  last b joined all = ap length joined ∙ ap (λ l. length (concat l)) (sym (take_all i xs (omega (arith, all))))

module _ (K : Bytes → Option UleError) (i : ℕ) where
  no_fault_after : (w : ℕ) (b : List ℕ) → IsTrue (is_none (list_fault w K b)) → i < length (elements w b) → K (nth (elements w b) i) ≡ None
  no_fault_after w [] sound inside = absurd (omega (arith, inside))
  no_fault_after w (x ∷ xs) sound inside =
      let b : List ℕ = x ∷ xs in
      let none : list_fault w K (x ∷ xs) ≡ None = no_fault _ sound in
      let long : w ≤ length (x ∷ xs) = grind (arith, nat_tests) in
      let are : elements w (x ∷ xs) ≡ elements_after w (count w (x ∷ xs)) (drop w (x ∷ xs)) = grind arith in
      let n : ℕ = count w (x ∷ xs) in
      let few : i < n = omega (arith, inside, ap length are, length-elements_after w n (drop w b)) in
      let element = element_after w K n (drop w b) i _ _ (sym (fault_some w K b (omega arith) long) ∙ none) few refl refl in
      ap (λ ys. K (nth ys i)) are ∙ ap K element.is ∙ element.valid

  -- an element of bytes that spell a list is valid
  pub no_fault_at : (layout : Layout) (b : List ℕ) → IsTrue (spells_in layout K b) → i < length (list_in layout b) → K (nth (list_in layout b) i) ≡ None
  no_fault_at (Fixed w) b h inside = good_at K _ i (fixed_parts w K b h).1 inside
  no_fault_at Index16 b h inside = no_fault_after 2 b h inside
  no_fault_at Index32 b h inside = no_fault_after 4 b h inside
