-- Composed elements that compare Equal have parts that do.
use Rattle.std.proofs.Common.{◌≡◌, ℕ, zero, suc, ◌+◌, ◌<◌, ◌≤◌, List, [], ◌∷◌, ◌++◌, length, take, drop, Option, None, refl, ap, ◌∙◌, sym, arith}
use Rattle.std.proofs.Common.{inl, inr}
use Rattle.std.proofs.lemmas.List.{drop_all, drop_more, take-append-drop}
use Rattle.std.specs.List.{concat, flat_map}
use Rattle.std.specs.Option.{option_cmp, option_or}
use Rattle.std.specs.Ordering.{ordering_then}
use Rattle.std.proofs.lemmas.Bool.{cases_lt}
use Rattle.std.specs.declared.cmp.Ordering.{Ordering}
use Rattle.std.specs.declared.cmp.Ordering.TheVariants.{Equal}
use Rattle.zv_ule.proofs.ComposedOrders.{both_equal}
use Rattle.zv_ule.proofs.Lists.{back_bytes, front_bytes}
use Rattle.zv_ule.specs.Bytes.{IsBytes, le}
use Rattle.zv_ule.specs.Kinds.{EqualIsSame}
use Rattle.zv_ule.specs.declared.error.UleError.{UleError}
use Rattle.zv_var.proofs.Exact.{parted}
use Rattle.zv_var.specs.Format.{elements_after, starts}
use Rattle.zv_var.specs.Serialize.{lengthless}
use Rattle.zv_multi.specs.Laws.{AreExact}
use Rattle.zv_multi.specs.Options.{option_fault, option_of}
use Rattle.zv_multi.specs.Records.{field_at, fields_fault, fields_order, record_fault}
use Rattle.zv_multi.specs.VarTuples.{var_tuple_fault}
use Rattle.zv_multi.proofs.Reading.{neither, record_from_none}

field_bytes : (xs : List (List ℕ)) → IsBytes (concat xs) → (i : ℕ) → IsBytes (field_at xs i)
field_bytes [] h i = h
field_bytes (x ∷ xs) h zero = (parted x (concat xs) h).0
field_bytes (x ∷ xs) h (suc i) = field_bytes xs (parted x (concat xs) h).1 i

module _ (xs ys : List (List ℕ)) (each_x : (i : ℕ) → IsBytes (field_at xs i)) (each_y : (i : ℕ) → IsBytes (field_at ys i)) where
  same_from : (Ks : List (List ℕ → Option UleError)) (cmps : List (List ℕ → List ℕ → Ordering)) (i : ℕ) → AreExact Ks cmps →
      length xs ≡ i + length Ks → length ys ≡ i + length Ks → fields_fault Ks i xs ≡ None → fields_fault Ks i ys ≡ None →
      fields_order cmps i xs ys ≡ Equal → drop i xs ≡ drop i ys
  same_from [] [] i e lx ly fx fy o = drop_all i xs (omega arith) ∙ sym (drop_all i ys (omega arith))
  same_from [] (cmp ∷ cmps) i e lx ly fx fy o = absurd e
  same_from (K ∷ Ks) [] i e lx ly fx fy o = absurd e
  same_from (K ∷ Ks) (cmp ∷ cmps) i e lx ly fx fy o =
      let x = neither (K (field_at xs i)) (fields_fault Ks (i + 1) xs) fx in
      let y = neither (K (field_at ys i)) (fields_fault Ks (i + 1) ys) fy in
      let parts = both_equal (cmp (field_at xs i) (field_at ys i)) (fields_order cmps (i + 1) xs ys) o in
      let first = e.0 (field_at xs i) (field_at ys i) (each_x i) (each_y i) x.0 y.0 parts.0 in
      let rest = same_from Ks cmps (i + 1) e.1 (omega arith) (omega arith) x.1 y.1 parts.1 in
      drop_more xs i [] (omega arith) ∙ (λ j. first j ∷ rest j) ∙ sym (drop_more ys i [] (omega arith))

module _ (w : ℕ) (Ks : List (List ℕ → Option UleError)) (cmps : List (List ℕ → List ℕ → Ordering)) (some : 0 < length Ks) (e : AreExact Ks cmps) where
  pub same_records : (a b : List ℕ) → IsBytes a → IsBytes b → record_fault w (length Ks) Ks a ≡ None → record_fault w (length Ks) Ks b ≡ None →
      fields_order cmps 0 (elements_after w (length Ks) a) (elements_after w (length Ks) b) ≡ Equal → a ≡ b
  same_records a b bytes_a bytes_b fa fb o =
      let ra = record_from_none w Ks a some bytes_a fa in
      let rb = record_from_none w Ks b some bytes_b fb in
      let spelled_a = ra.spelled in
      let spelled_b = rb.spelled in
      let data_a = (parted (flat_map (le w) (starts (elements_after w (length Ks) a))) _ (rw spelled_a at bytes_a)).1 in
      let data_b = (parted (flat_map (le w) (starts (elements_after w (length Ks) b))) _ (rw spelled_b at bytes_b)).1 in
      let same = same_from _ _ (field_bytes _ data_a) (field_bytes _ data_b) Ks cmps 0 e (ra.many ∙ omega arith) (rb.many ∙ omega arith) ra.valid rb.valid o in
      spelled_a ∙ ap (lengthless w) same ∙ sym spelled_b

module _ (K : List ℕ → Option UleError) (cmp : List ℕ → List ℕ → Ordering) (e : EqualIsSame K cmp) where
  pub same_options : (a b : List ℕ) → IsBytes a → IsBytes b → option_fault K a ≡ None → option_fault K b ≡ None →
      option_cmp cmp (option_of a) (option_of b) ≡ Equal → a ≡ b
  same_options [] b ha hb fa fb o = absurd cc
  same_options (zero ∷ x ∷ a) b ha hb fa fb o = absurd cc
  same_options (suc (suc n) ∷ a) b ha hb fa fb o = absurd cc
  same_options (zero ∷ []) [] ha hb fa fb o = absurd cc
  same_options (zero ∷ []) (zero ∷ y ∷ b) ha hb fa fb o = absurd cc
  same_options (zero ∷ []) (suc n ∷ b) ha hb fa fb o = absurd cc
  same_options (zero ∷ []) (zero ∷ []) ha hb fa fb o = refl
  same_options (suc zero ∷ a) [] ha hb fa fb o = absurd cc
  same_options (suc zero ∷ a) (zero ∷ b) ha hb fa fb o = absurd cc
  same_options (suc zero ∷ a) (suc (suc n) ∷ b) ha hb fa fb o = absurd cc
  same_options (suc zero ∷ a) (suc zero ∷ b) ha hb fa fb o =
      ap (λ (l : List ℕ). 1 ∷ l) (e a b (back_bytes 1 (1 ∷ a) ha) (back_bytes 1 (1 ∷ b) hb) fa fb o)

-- a value and an element behind it, by their faults
parts_of : (w : ℕ) (S V : List ℕ → Option UleError) (b : List ℕ) → var_tuple_fault w S V b ≡ None →
    (w ≤ length b) × ((S (take w b) ≡ None) × (V (drop w b) ≡ None))
parts_of w S V b f =
    elim (cases_lt (length b) w) [
      | inl h ↦ absurd (grind arith)
      | inr h ↦ let or : option_or (S (take w b)) (V (drop w b)) ≡ None = grind arith in (h, neither (S (take w b)) (V (drop w b)) or)
    ]

module _ (w : ℕ) (S V : List ℕ → Option UleError) (s v : List ℕ → List ℕ → Ordering) (es : EqualIsSame S s) (ev : EqualIsSame V v) where
  pub same_var_tuples : (a b : List ℕ) → IsBytes a → IsBytes b → var_tuple_fault w S V a ≡ None → var_tuple_fault w S V b ≡ None →
      ordering_then (s (take w a) (take w b)) (v (drop w a) (drop w b)) ≡ Equal → a ≡ b
  same_var_tuples a b ha hb fa fb o =
      let pa = parts_of w S V a fa in
      let pb = parts_of w S V b fb in
      let both = both_equal (s (take w a) (take w b)) (v (drop w a) (drop w b)) o in
      let sized = es (take w a) (take w b) (front_bytes w a ha pa.0) (front_bytes w b hb pb.0) pa.1.0 pb.1.0 both.0 in
      let variable = ev (drop w a) (drop w b) (back_bytes w a ha) (back_bytes w b hb) pa.1.1 pb.1.1 both.1 in
      sym (take-append-drop w a) ∙ (λ i. sized i ++ variable i) ∙ take-append-drop w b
