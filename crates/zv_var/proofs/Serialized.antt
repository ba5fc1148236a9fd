-- What values are written as, one after another.
use Rattle.zv_var.proofs.Common.{◌≡◌, ℕ, zero, suc, ◌+◌, ◌-◌, ◌*◌, ◌^◌, ◌<◌, ◌≤◌, Bool, true, List, [], ◌∷◌, ◌++◌, length, take, get_or, map, refl, ap}
use Rattle.zv_var.proofs.Common.{◌∙◌, sym, arith, length-append, Option, Some, None, inr, is_some}
use Rattle.zv_var.proofs.Common.{take_at, flat_map, concat, list_all, le, length-le, UleError, Part}
use Rattle.zv_var.proofs.Common.{codable, elements_after, fault_after, fits, list_fault, starts, starts_from, AreValid, suc-mul}
use Rattle.std.proofs.Common.{add-one, IfSome}
use Rattle.std.proofs.Math.Nat.{le-mul_of_pos_right}
use Rattle.std.proofs.lemmas.List.{take_all, length-map}
use Rattle.std.proofs.lemmas.List.Concat.{concat_is}
use Rattle.std.proofs.lemmas.List.Folds.{flat_map-map, length-flat_map-take}
use borrow.Rule.Slice.PartMut.{put_mid}
use Rattle.zv_ule.proofs.Written.{flat_map-more, written_more}
use Rattle.zv_var.specs.Serialize.{lengthless_len, lengthless, serialized, serialized_len}
use Rattle.zv_var.proofs.Encoding.{has_starts, length-starts_from, read_lengthless}
use Rattle.zv_var.proofs.Fields.{length-flat_map-le, le_zero}
use Rattle.zv_var.proofs.Read.{fault_from_Part}

pub on_some : {X P : Type 0} (o : Option X) → P → IfSome o (λ _. P)
on_some None h = tt
on_some (Some x) h = h

-- what is written stands for the list
pub Part_from_serialized : (w : ℕ) (xs : List (List ℕ)) → codable w xs ≡ true → Part w (serialized w xs) xs
Part_from_serialized w [] h = inr (take_at (le w 0) [] w (length-le w 0) ∙ le_zero w)
Part_from_serialized w (x ∷ xs) h = (h, rw add-one refl)

length-starts : (xs : List (List ℕ)) → length (starts xs) ≡ length xs - 1
length-starts [] = refl
length-starts (x ∷ xs) = length-starts_from (length x) xs ∙ omega arith

module _ {X : Type 0} (f : X → List ℕ) where
  pub joined : (xs : List X) → concat (map f xs) ≡ flat_map f xs
  joined xs = concat_is (map f xs) ∙ flat_map-map (λ x. x) f xs

  -- the spellings up to a place and the one there are within the whole
  pub within : (xs : List X) (i : ℕ) (x : X) → i < length xs → x ≡ get_or xs i x →
      length (flat_map f (take i xs)) + length (f x) ≤ length (flat_map f xs)
  within xs i x h e = omega (arith, length-flat_map-take f xs i x h, ap (λ y. length (f y)) e)

  pub spelled_more : (xs : List X) (i : ℕ) (x : X) → i < length xs → x ≡ get_or xs i x →
      length (flat_map f (take (i + 1) xs)) ≡ length (flat_map f (take i xs)) + length (f x)
  spelled_more xs i x h e = ap length (flat_map-more f xs i x h e) ∙ length-append (flat_map f (take i xs)) (f x)

  -- the start at a place is where the spelling before it ends
  starts_from_at : (n : ℕ) (xs : List X) (i d : ℕ) → i < length xs → get_or (starts_from n (map f xs)) i d ≡ n + length (flat_map f (take i xs))
  starts_from_at n [] i d h = absurd (omega arith)
  starts_from_at n (x ∷ xs) zero d h = omega arith
  starts_from_at n (x ∷ xs) (suc i) d h =
      starts_from_at (n + length (f x)) xs i d (omega arith) ∙ omega (arith, length-append (f x) (flat_map f (take i xs)))

  start_at : (xs : List X) (i d : ℕ) → i + 1 < length xs → get_or (starts (map f xs)) i d ≡ length (flat_map f (take (i + 1) xs))
  start_at [] i d h = absurd (omega arith)
  start_at (x ∷ xs) i d h = rw (add-one, length-append) (starts_from_at (length (f x)) xs i d (omega arith))

  module _ (w : ℕ) where
    pub length_spelled : (xs : List X) → length (lengthless w (map f xs)) ≡ w * (length xs - 1) + length (flat_map f xs)
    length_spelled xs = simp (length-append, length-flat_map-le, length-starts, joined, length-map) refl

    -- one start more is written
    pub start_more : (xs : List X) (v i at s : ℕ) (x : X) (out new : List ℕ) → i + 1 < length xs → x ≡ get_or xs i x → v ≡ w → at ≡ i * w →
        s ≡ length (flat_map f (take i xs)) → length out ≡ w * (length xs - 1) → new ≡ le w (s + length (f x)) →
        take at out ≡ flat_map (le w) (take i (starts (map f xs))) →
        take (at + v) (put_mid at (at + v - at) out new) ≡ flat_map (le w) (take (i + 1) (starts (map f xs)))
    start_more xs v i at s x out new h e ev ea es long is before =
        let n : length (starts (map f xs)) ≡ length xs - 1 = simp (length-starts, length-map) refl in
        let end : at + v ≡ (i + 1) * w = omega (arith, suc-mul i w) in
        let here : s + length (f x) ≡ get_or (starts (map f xs)) i (s + length (f x)) =
        omega (arith, spelled_more xs i x (omega arith) e, start_at xs i (s + length (f x)) h) in
        let whole : length out ≡ length (starts (map f xs)) * w = rw n (omega arith) in
        rw (end, ea) (written_more (le w) (starts (map f xs)) w i (s + length (f x)) out new (omega arith) here whole (length-le w _) is (rw ea at before))

    -- and all of them are
    pub starts_written : (xs : List X) (i at : ℕ) (out : List ℕ) → at ≡ i * w → i ≡ length xs - 1 →
        length out ≡ w * (length xs - 1) → take at out ≡ flat_map (le w) (take i (starts (map f xs))) → out ≡ flat_map (le w) (starts (map f xs))
    starts_written xs i at out ea ei long done =
        let n : length (starts (map f xs)) ≡ length xs - 1 = simp (length-starts, length-map) refl in
        let all : length out ≤ at = rw (ea, ei) (omega arith) in
        sym (take_all at out all) ∙ done ∙ ap (flat_map (le w)) (take_all i (starts (map f xs)) (omega arith))

    starts_fit : (n : ℕ) (xs : List X) → n + length (flat_map f xs) < 256 ^ w → list_all (fits w) (starts_from n (map f xs)) ≡ true
    starts_fit n [] h = refl
    starts_fit n (x ∷ xs) h = let rest = starts_fit (n + length (f x)) xs (omega (arith, length-append (f x) (flat_map f xs))) in grind arith

    -- a list whose starts and elements are below what a field holds can be written
    pub below_codable : 0 < w → 256 ^ w ≤ 2 ^ 32 → (xs : List X) → w * (length xs - 1) + length (flat_map f xs) < 256 ^ w - 1 → codable w (map f xs) ≡ true
    below_codable some narrow [] h = refl
    below_codable some narrow (x ∷ xs) h =
        let n : length (x ∷ xs) - 1 ≡ length xs = omega arith in
        let short = rw n at h in
        let rest = starts_fit (length (f x)) xs (omega (arith, length-append (f x) (flat_map f xs))) in
        let count = le-mul_of_pos_right (length xs) some in
        let m = length-map xs f in
        grind arith

module _ {X : Type 0} (p : X → Bool) (f : X → List ℕ) (w : ℕ) (xs : List X) where
  sound : (K : List ℕ → Option UleError) → 0 < w → 256 ^ w ≤ 2 ^ 32 → w * (length xs - 1) + length (flat_map f xs) < 256 ^ w - 1 →
      AreValid K (map f xs) → list_fault w K (serialized w (map f xs)) ≡ None
  sound K some narrow below valid =
      fault_from_Part w K _ (map f xs) some (Part_from_serialized w (map f xs) (below_codable f w some narrow xs below)) valid

  -- where a length is found, what is written has no fault, if the spellings are elements
  pub lengthless_sound : (K : List ℕ → Option UleError) (n : ℕ) → 0 < w → 256 ^ w ≤ 2 ^ 32 → lengthless_len p f w xs ≡ Some n →
      AreValid K (map f xs) → list_fault w K (serialized w (map f xs)) ≡ None
  lengthless_sound K n some narrow e valid = let l = length_spelled f w xs in sound K some narrow (grind arith) valid

  -- and the starts and the spellings, as they are written, are read again
  pub read_measured : (n : ℕ) (ss es : List ℕ) → 256 ^ w ≤ 2 ^ 32 → lengthless_len p f w xs ≡ Some n →
      ss ≡ flat_map (le w) (starts (map f xs)) → es ≡ flat_map f xs → (elements_after w (length xs) (ss ++ es) ≡ map f xs) ×
      ((K : List ℕ → Option UleError) → AreValid K (map f xs) → fault_after w K (length xs) (ss ++ es) ≡ None)
  read_measured n ss es narrow e is_starts is_spelled = rw (is_starts, is_spelled, ← joined f xs, ← length-map xs f)
      (read_lengthless w (map f xs) (has_starts w (map f xs) narrow (grind arith)))

  pub serialized_sound : (K : List ℕ → Option UleError) (m : ℕ) → 0 < w → 256 ^ w ≤ 2 ^ 32 → serialized_len p f w xs ≡ Some m →
      AreValid K (map f xs) → list_fault w K (serialized w (map f xs)) ≡ None
  serialized_sound K m some narrow e valid = let l = length_spelled f w xs in sound K some narrow (grind arith) valid

  pub serialized_some : is_some (serialized_len p f w xs) ≡ true → serialized_len p f w xs ≡ Some (length (serialized w (map f xs)))
  serialized_some h = let l = length-append (le w (length (map f xs))) (lengthless w (map f xs)) in let c = length-le w (length (map f xs)) in grind arith

  -- the count fits a field
  pub count_fits : (m : ℕ) → 0 < w → serialized_len p f w xs ≡ Some m → length xs < 256 ^ w
  count_fits m some e =
      let l = length_spelled f w xs in
      let k = le-mul_of_pos_right (length xs - 1) some in
      grind arith

-- what the function that measures names
pub ruleset measured = (length_spelled, below_codable)
