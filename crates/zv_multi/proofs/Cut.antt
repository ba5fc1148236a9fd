-- Bytes that are cut into fields of given lengths.
use Rattle.std.proofs.Common.{◌≡◌, ℕ, ◌+◌, ◌-◌, ◌*◌, ◌^◌, ◌<◌, ◌≤◌, List, [], ◌∷◌, ◌++◌, length, map, sum, take, drop, Some, None, refl, ap, ap₂, ◌∙◌, sym}
use Rattle.std.proofs.Common.{arith, length-drop}
use Rattle.std.proofs.lemmas.List.{length-map, length-take-le, take-append-drop}
use Rattle.std.proofs.lemmas.List.Sums.{sum_by-cons}
use Rattle.std.specs.List.{concat, flat_map}
use Rattle.zv_ule.specs.Bytes.{le}
use Rattle.zv_var.proofs.Encoding.{has_starts, read_lengthless}
use Rattle.zv_var.specs.Format.{elements_after, fault_after, starts}
use Rattle.zv_var.specs.Serialize.{lengthless}
use Rattle.zv_multi.specs.Records.{encoded_len, no_fault, offsets, shape_fault}
use Rattle.zv_multi.proofs.Written.{all_valid, length-lengthless, offsets_of_lengths, some_len}

cut : List ℕ → List ℕ → List (List ℕ)
cut d [] = []
cut d (l ∷ ls) = take l d ∷ cut (drop l d) ls

cut_parts : (d ls : List ℕ) → sum ls ≡ length d → (map length (cut d ls) ≡ ls) × (concat (cut d ls) ≡ d)
unfolding cut
cut_parts [] [] h = (refl, refl)
cut_parts (x ∷ d) [] h = absurd (omega arith)
cut_parts d (l ∷ ls) h =
    let whole : sum (l ∷ ls) ≡ l + sum ls = sum_by-cons (λ n. n) l ls in
    let rest = cut_parts (drop l d) ls (omega (arith, length-drop l d)) in
    (ap₂ (λ (n : ℕ) (ns : List ℕ). n ∷ ns) (length-take-le l d (omega arith)) rest.0, ap (λ (b : List ℕ). take l d ++ b) rest.1 ∙ take-append-drop l d)

-- n fields of these lengths, whose starts are written
module _ (w n : ℕ) (ls out new : List ℕ) (narrow : 256 ^ w ≤ 2 ^ 32) (many : length ls ≡ n) (fit : encoded_len w ls ≡ Some (length out))
    (is : new ≡ flat_map (le w) (offsets ls) ++ drop (w * (n - 1)) out) where
  pub cut_read : (map length (elements_after w n new) ≡ ls) × (shape_fault w n new ≡ None)
  cut_read =
      let d : List ℕ = drop (w * (n - 1)) out in
      let took = some_len w ls (length out) fit in
      let all = took.0 in
      let start : w * (n - 1) + sum ls ≡ length out = rw many at all in
      let parts = cut_parts d ls (omega (arith, start, length-drop (w * (n - 1)) out)) in
      let xs : List (List ℕ) = cut d ls in
      let starts_are : offsets ls ≡ starts xs = ap offsets (sym parts.0) ∙ offsets_of_lengths xs in
      let written : new ≡ lengthless w xs = is ∙ rw (starts_are, parts.1) refl in
      let count_is : length xs ≡ n = sym (length-map xs length) ∙ ap length parts.0 ∙ many in
      let total = length-lengthless w xs in
      let sized = rw (parts.0, count_is) at total in
      let long : length (lengthless w xs) < 256 ^ w = omega (arith, sized, start, took.1) in
      let r = read_lengthless w xs (has_starts w xs narrow long) in
      let read = r.0 in
      let sound = r.1 no_fault (all_valid xs) in
      let read_n : elements_after w n new ≡ xs = rw written (rw count_is at read) in
      let sound_n : fault_after w no_fault n new ≡ None = rw written (rw count_is at sound) in
      (rw read_n parts.0, rw sound_n refl)
