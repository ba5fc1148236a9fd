-- What values are written as, by the lengths of their spellings.
use Rattle.std.proofs.Common.{◌≡◌, ℕ, ◌+◌, ◌-◌, ◌*◌, ◌^◌, ◌<◌, ◌≤◌, Bool, true, List, [], ◌∷◌, ◌++◌, length, map, sum, Option, None, Some, is_some, refl, ap}
use Rattle.std.proofs.Common.{◌∙◌, sym, arith, length-append, take}
use Rattle.std.proofs.lemmas.List.{length-map, take_at}
use Rattle.std.proofs.lemmas.List.Concat.{concat_is, length-flat_map}
use Rattle.std.proofs.lemmas.List.Sums.{sum-map}
use Rattle.std.specs.List.{concat, flat_map}
use Rattle.zv_ule.specs.Bytes.{le}
use Rattle.zv_ule.specs.declared.error.UleError.{UleError}
use Rattle.zv_var.proofs.Encoding.{has_starts, length-starts_from, read_lengthless}
use Rattle.zv_var.proofs.Fields.{length-flat_map-le}
use Rattle.zv_var.specs.Format.{elements_after, fault_after, starts, starts_from}
use Rattle.zv_var.specs.Laws.{AreValid, HasStarts}
use Rattle.zv_var.specs.Serialize.{lengthless}
use Rattle.zv_multi.specs.Records.{encoded_len, fields_fault, no_fault, offsets, offsets_from, record_fault, record_len}

offsets_from_lengths : (n : ℕ) (xs : List (List ℕ)) → offsets_from n (map length xs) ≡ starts_from n xs
offsets_from_lengths n [] = refl
offsets_from_lengths n (x ∷ xs) = ap (λ (l : List ℕ). n ∷ l) (offsets_from_lengths (n + length x) xs)

pub offsets_of_lengths : (xs : List (List ℕ)) → offsets (map length xs) ≡ starts xs
offsets_of_lengths [] = refl
offsets_of_lengths (x ∷ xs) = offsets_from_lengths (length x) xs

pub length-concat : (xs : List (List ℕ)) → length (concat xs) ≡ sum (map length xs)
length-concat xs = ap length (concat_is xs) ∙ length-flat_map (λ x. x) xs ∙ sym (sum-map length xs)

pub length-starts : (xs : List (List ℕ)) → length (starts xs) ≡ length xs - 1
length-starts [] = refl
length-starts (x ∷ xs) = length-starts_from (length x) xs ∙ omega arith

pub length-lengthless : (w : ℕ) (xs : List (List ℕ)) → length (lengthless w xs) ≡ w * (length xs - 1) + sum (map length xs)
length-lengthless w xs = simp (length-append, length-flat_map-le, length-starts, length-concat) refl

pub all_valid : (xs : List (List ℕ)) → AreValid no_fault xs
all_valid [] = tt
all_valid (x ∷ xs) = (refl, all_valid xs)

pub some_len : (w : ℕ) (ls : List ℕ) (m : ℕ) → encoded_len w ls ≡ Some m → (w * (length ls - 1) + sum ls ≡ m) × (m < 256 ^ w - 1)
some_len w ls m h = (grind arith, grind arith)

-- values that fit take as many bytes as are written
pub fitting : (w : ℕ) (fits : List Bool) (xs : List (List ℕ)) → is_some (record_len w fits xs) ≡ true →
    record_len w fits xs ≡ Some (length (lengthless w xs))
fitting w fits xs h = let l = length-lengthless w xs in let n = length-map xs length in grind arith

pub fitting_starts : (w : ℕ) (fits : List Bool) (xs : List (List ℕ)) → 256 ^ w ≤ 2 ^ 32 → is_some (record_len w fits xs) ≡ true → HasStarts w xs
fitting_starts w fits xs narrow fit =
    let l = length-lengthless w xs in
    let k = length-map xs length in
    has_starts w xs narrow (grind arith)

-- n values that fit, and how long their spellings are
module _ (w n : ℕ) (fits : List Bool) (xs : List (List ℕ)) (ls : List ℕ) (is : ls ≡ map length xs) (many : length ls ≡ n)
    (fit : is_some (record_len w fits xs) ≡ true) where
  count_is : length xs ≡ n
  count_is = sym (length-map xs length) ∙ sym (ap length is) ∙ many

  pub spelled_len : length (lengthless w xs) - w * (n - 1) ≡ length (concat xs)
  spelled_len = let c = count_is in let l = length-lengthless w xs in let k = length-concat xs in rw (← c) (omega arith)

  -- the starts before the spellings
  pub written : (out rest front back : List ℕ) → out ≡ flat_map (le w) (offsets ls) ++ rest → front ≡ take (w * (n - 1)) out → back ≡ concat xs →
      front ++ back ≡ lengthless w xs
  written out rest front back e f b =
      let c = count_is in
      let starts_are : offsets ls ≡ starts xs = rw is (offsets_of_lengths xs) in
      let long : length (flat_map (le w) (starts xs)) ≡ w * (n - 1) = simp (length-flat_map-le, length-starts, c) refl in
      rw (f, b, e, starts_are, take_at (flat_map (le w) (starts xs)) rest _ long) refl

  -- a record of values is read as their spellings
  pub read_record : 256 ^ w ≤ 2 ^ 32 → (elements_after w n (lengthless w xs) ≡ xs) × (fault_after w no_fault n (lengthless w xs) ≡ None)
  read_record narrow =
      let r = read_lengthless w xs (fitting_starts w fits xs narrow fit) in
      rw (← count_is) (r.0, r.1 no_fault (all_valid xs))

  pub sound : (Ks : List (List ℕ → Option UleError)) → 256 ^ w ≤ 2 ^ 32 → fields_fault Ks 0 xs ≡ None → record_fault w n Ks (lengthless w xs) ≡ None
  sound Ks narrow valid = let r = read_record narrow in rw (r.1, r.0) valid
