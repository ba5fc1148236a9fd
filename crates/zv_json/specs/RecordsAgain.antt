-- Records that are written and read again.
use Rattle.std.proofs.Common.{◌≡◌, ℕ, zero, suc, ◌+◌, ◌<◌, ◌≤◌, ◌^◌, ◌==◌, List, [], ◌∷◌, length}
use Rattle.std.proofs.Common.{Bool, true, false, ◌&&◌, IsTrue, Option, Some, None, is_some, Result}
use Rattle.std.proofs.Common.{Ok, Err, if◌then◌else◌, refl, sym, ap, subst, ◌∙◌, arith}
use Rattle.std.proofs.lemmas.Bool.Decides.{nat_tests}
use Rattle.std.proofs.lemmas.Grind.{common_steps}
use Rattle.std.proofs.lemmas.List.{map-id}
use Rattle.std.specs.List.{AllByRecursion, concat, flat_map}
use Rattle.std.specs.Option.{option_or}
use Rattle.serde_json.specs.Data.{Data}
use Rattle.zv_multi.specs.Records.{field_at, fields_fault, no_fault, record_fault}
use Rattle.zv_ule.specs.Bytes.{IsBytes, le}
use Rattle.zv_ule.specs.Fixed.{is_width}
use Rattle.zv_ule.specs.declared.error.UleError.{UleError}
use Rattle.zv_var.proofs.Encoding.{has_starts, read_lengthless}
use Rattle.zv_var.proofs.Exact.{parted}
use Rattle.zv_var.proofs.Read.{lengthless_back}
use Rattle.zv_var.specs.Format.{elements_after, starts}
use Rattle.zv_var.specs.Nested.{lengthless_fault}
use Rattle.zv_var.specs.Serialize.{lengthless, lengthless_len}
use Rattle.zv_json.specs.Again.{IsAgain, ReadsAgain, then_again}
use Rattle.zv_json.specs.Arrays.{all_written, array_written}
use Rattle.zv_json.specs.Back.{array_items, split}
use Rattle.zv_json.specs.Json.{and_then, items_in}
use Rattle.zv_json.specs.Nested.{record_of_fields}
use Rattle.zv_json.specs.Records.{fields_in, read_field}
use Rattle.zv_json.specs.declared.error.JsonError.{JsonError}
use Rattle.zv_json.specs.declared.error.JsonError.TheVariants.{TooLarge}

-- of the first of some fields a fact holds, and of those behind it another
abbrev pub FirstAlike : (List ℕ → Type 0) → (List (List ℕ) → Type 0) → List (List ℕ) → Type 0
FirstAlike first behind [] = ⊥
FirstAlike first behind (x ∷ xs) = first x × behind xs

-- what the fields from a place on are written as is as many items, which are read as as many fields
-- alike, the tests being those of their kinds
abbrev pub FieldsAgain : List (List ℕ → Option UleError) → (ℕ → List (List ℕ) → List (List ℕ) →
    Type 0) → (ℕ → List (List ℕ) → List (Option Data)) →
    (List Data → Result (List (List ℕ)) JsonError) → Type 0
FieldsAgain faults alike written read = (i : ℕ) (xs : List (List ℕ)) (ds : List Data) →
    AllByRecursion IsBytes xs → fields_fault faults i xs ≡ None →
    all_written (written i xs) ≡ Some ds → (length ds ≡ length faults)
    × IsAgain (λ ys. (length ys ≡ length faults) × alike i xs ys) (read ds)

pub no_fields_again : FieldsAgain [] (λ i xs ys. ys ≡ []) (λ i xs. []) (λ ds. Ok [])
no_fields_again i xs ds bytes good is = let none : [] ≡ ds = cc in
    (sym (ap length none), (refl, refl))

field_bytes : (xs : List (List ℕ)) (i : ℕ) → AllByRecursion IsBytes xs → IsBytes (field_at xs i)
field_bytes [] i h = record { at = λ j. omega arith }
field_bytes (x ∷ xs) zero h = h.0
field_bytes (x ∷ xs) (suc i) h = field_bytes xs i h.1

first_none : (o p : Option UleError) → option_or o p ≡ None → (o ≡ None) × (p ≡ None)
first_none None p h = (refl, h)
first_none (Some e) p h = cc

pub first_usable : (a b : Bool) → IsTrue (a && b) → IsTrue a
first_usable true b h = refl
first_usable false b h = cc

module _ (fault : List ℕ → Option UleError) (alike : List ℕ → List ℕ → Type 0)
    (written : List ℕ → Option Data) (read : Data → Result (List ℕ) JsonError)
    (again : ReadsAgain fault alike written read) (faults : List (List ℕ → Option UleError))
    (alikes : ℕ → List (List ℕ) → List (List ℕ) → Type 0)
    (writes : ℕ → List (List ℕ) → List (Option Data))
    (reads : List Data → Result (List (List ℕ)) JsonError)
    (behind : FieldsAgain faults alikes writes reads) where
  pub field_again : FieldsAgain (fault ∷ faults)
      (λ i xs ys. FirstAlike (alike (field_at xs i)) (alikes (i + 1) xs) ys)
      (λ i xs. written (field_at xs i) ∷ writes (i + 1) xs) (read_field read reads)
  field_again i xs ds bytes good is =
      let none = first_none (fault (field_at xs i)) (fields_fault faults (i + 1) xs) good in
      let s = split (written (field_at xs i)) (writes (i + 1) xs) ds is in
      let rest = behind (i + 1) xs s.rest bytes none.1 s.rest_is in
      let P : List (List ℕ) → Type 0 = λ ys. (length ys ≡ length (fault ∷ faults))
      × FirstAlike (alike (field_at xs i)) (alikes (i + 1) xs) ys in
      subst (λ zs. (length zs ≡ length (fault ∷ faults)) × IsAgain P (read_field read reads zs))
      s.both (
        omega (arith, rest.0),
        then_again (alike (field_at xs i)) P (read s.first) _
            (again (field_at xs i) s.first (field_bytes xs i bytes) none.0 s.first_is)
            (λ x p. then_again (λ ys. (length ys ≡ length faults) × alikes (i + 1) xs ys) P
            (reads s.rest) _ rest.1 (λ ys q. (omega (arith, q.0), (p, q.1)))),
      )

-- the fields of bytes without a fault are bytes
are_bytes : (xs : List (List ℕ)) → IsBytes (concat xs) → AllByRecursion IsBytes xs
are_bytes [] h = tt
are_bytes (x ∷ xs) h = let p = parted x (concat xs) h in (p.0, are_bytes xs p.1)

no_lengthless : (o : _) → lengthless_fault o ≡ None → o ≡ None
no_lengthless None e = refl
no_lengthless (Some f) e = cc

-- a record that is not too large is read as its fields
encoded_again : (w : ℕ) (P : List (List ℕ) → Type 0) (ys : List (List ℕ)) → 256 ^ w ≤ 2 ^ 32 →
    P ys → IsAgain (λ x. P (elements_after w (length ys) x)) (record_of_fields w ys)
encoded_again w P ys narrow p = by (is_some (lengthless_len (λ _. true) (λ x. x) w ys)) refl
  where
    by : (b : Bool) → is_some (lengthless_len (λ _. true) (λ x. x) w ys) ≡ b →
        IsAgain (λ x. P (elements_after w (length ys) x))
        (if b then Ok (lengthless w ys) else Err TooLarge)
    by true e =
        let same = map-id ys in
        let below : length (lengthless w ys) < 256 ^ w = grind (arith, nat_tests, common_steps) in
        subst P (sym (read_lengthless w ys (has_starts w ys narrow below)).0) p
    by false e = refl

module _ (w n : ℕ) (faults : List (List ℕ → Option UleError))
    (alikes : ℕ → List (List ℕ) → List (List ℕ) → Type 0)
    (writes : ℕ → List (List ℕ) → List (Option Data))
    (reads : List Data → Result (List (List ℕ)) JsonError) (narrow : 256 ^ w ≤ 2 ^ 32)
    (usable : IsTrue (is_width n && (length faults == n)))
    (again : FieldsAgain faults alikes writes reads) where
  pub record_again : ReadsAgain (record_fault w n faults)
      (λ e x. alikes 0 (elements_after w n e) (elements_after w n x))
      (λ e. array_written (writes 0 (elements_after w n e)))
      (λ d. and_then (and_then (items_in d) (fields_in n reads)) (record_of_fields w))
  record_again e d bytes good is =
      let some : 0 < n = grind (arith, nat_tests) in
      let many : length faults ≡ n = grind (arith, nat_tests) in
      let xs = elements_after w n e in
      let none = first_none _ (fields_fault faults 0 xs) good in
      let back = lengthless_back w no_fault n e some bytes (no_lengthless _ none.0) in
      let each : AllByRecursion IsBytes xs = are_bytes xs
      (parted (flat_map (le w) (starts xs)) (concat xs) (rw back.0 at bytes)).1 in
      let i = array_items (writes 0 xs) d is in
      let f = again 0 xs i.items each none.1 i.all in
      let P : List (List ℕ) → Type 0 = λ ys. (length ys ≡ length faults) × alikes 0 xs ys in
      let count : (length i.items == n) ≡ true = grind (arith, nat_tests, f.0) in
      rw (i.items_are, count) (then_again P (λ x. alikes 0 xs (elements_after w n x))
      (reads i.items) (record_of_fields w) f.1 (λ ys p. subst
      (λ m. IsAgain (λ x. alikes 0 xs (elements_after w m x)) (record_of_fields w ys)) (p.0 ∙ many)
      (encoded_again w (alikes 0 xs) ys narrow p.1)))
