-- What the code asks of a list's size, and what a change that it takes leaves.
use Rattle.zv_owned.proofs.Common.{[], ◌*◌, ◌++◌, ◌+◌, ◌-◌, ◌<◌, ◌^◌, ◌∷◌, ◌≡◌, ◌≤◌, All-from_recursion, AreValid, List, None, Option, Part, add-one, ap}
use Rattle.zv_owned.proofs.Common.{append-nil, arith, codable, concat, concat-append, drop, drop-drop, elements, enc, get_or, length, length-append}
use Rattle.zv_owned.proofs.Common.{refl, set, size, slice_index_or, splice, sym, take, take-append-drop, true}
use Rattle.zv_owned.proofs.Common.{ℕ}
use Rattle.std.proofs.Math.Nat.{mul-le-mul_right}
use Rattle.std.proofs.lemmas.Grind.{pieces}
use Rattle.std.proofs.lemmas.List.{drop_more, set_split, take_more}
use Rattle.std.proofs.lemmas.List.Elements.{recursion_from_All}
use Rattle.zv_ule.specs.declared.error.UleError.{UleError}
use Rattle.zv_var.proofs.Encoding.{codable_from_Part, elements-enc, fault-enc}
use Rattle.zv_var.specs.Format.{list_fault}
use Rattle.zv_owned.proofs.Codable.{fields_fit}
use Rattle.zv_owned.proofs.Offsets.{offset_of}
use Rattle.zv_owned.proofs.Sizes.{size_append, size_of}

pub size_from_Part : (w : ℕ) (b : List ℕ) (xs : List (List ℕ)) → Part w b xs → 0 < length xs → size w xs ≡ length b
size_from_Part w b [] p h = absurd (omega arith)
size_from_Part w b (x ∷ xs) p h = ap length (sym p.1)

-- Of a list in fields of w bytes, in bytes b, in fields of v bytes.
pub record IsSized (w v : ℕ) (b : List ℕ) (xs : List (List ℕ)) : Type 0 where
  pub inside : w * length xs ≤ length b
  pub few : v * length xs < 2 ^ 34
  pub is : size v xs ≡ length b - w * length xs + v * length xs

pub sized : (w v : ℕ) (b : List ℕ) (xs : List (List ℕ)) → Part w b xs → 256 ^ w ≤ 2 ^ 32 → v ≤ 4 → 0 < length xs → IsSized w v b xs
sized w v b xs part narrow small some =
    let s = size_from_Part w b xs part some in
    let count = (fields_fit w xs (codable_from_Part w b xs part)).count in
    let most : v * length xs ≤ 4 * length xs = mul-le-mul_right (length xs) small in
    record {
      inside = omega (arith, s, size_of w xs);
      few = omega (arith, count);
      is = omega (arith, s, size_of w xs, size_of v xs);
    }

pub size_within : (w : ℕ) (b : List ℕ) (xs : List (List ℕ)) → Part w b xs → size w xs ≤ length b
size_within w b [] p = omega arith
size_within w b (x ∷ xs) p = omega (arith, ap length p.1)

-- A list is its parts.
pub in_parts : (xs : List (List ℕ)) (i j : ℕ) → take i xs ++ (take j (drop i xs) ++ drop (i + j) xs) ≡ xs
in_parts xs i j = rw (← drop-drop j i xs, take-append-drop, take-append-drop) refl

pub size_splice : (w : ℕ) (xs : List (List ℕ)) (i j : ℕ) (es : List (List ℕ)) → size w (splice xs i (i + j) es) ≤ size w xs + size w es
size_splice w xs i j es = omega (arith, size_append, ap (λ (l : List (List ℕ)). size w l) (in_parts xs i j))

-- the length of the element at a place
pub length_seen : (xs : List (List ℕ)) (i p q : ℕ) → i < length xs → p ≡ offset_of xs (i + 1) → q ≡ offset_of xs i → p - q ≡ length (get_or xs i [])
length_seen xs i p q h ep eq = rw (ep, eq, take_more xs i [] h, concat-append) (omega (arith, length-append {A = ℕ}))

-- what a replacement takes the place of
pub replaced_length : (xs : List (List ℕ)) (i n : ℕ) → n ≡ 1 → i < length xs → length (slice_index_or xs i []) ≡ length (concat (take n (drop i xs)))
replaced_length xs i n k h = rw (k, drop_more xs i [] h, append-nil) refl

-- a splice of one element is a replacement
pub splice_set : (xs : List (List ℕ)) (i : ℕ) (e : List ℕ) → i < length xs → splice xs i (i + 1) (e ∷ []) ≡ set xs i e
splice_set xs i e h = rw (add-one, set_split xs i e h) refl

pub splice_valid : (K : List ℕ → Option UleError) (xs new : List (List ℕ)) (i j : ℕ) → AreValid K xs → AreValid K new → AreValid K (splice xs i j new)
splice_valid K xs new i j v u = recursion_from_All (λ x. K x ≡ None) (splice xs i j new) (search (pieces, All-from_recursion))

-- The bytes that are the encoding of ys are sound, and read as that.
pub record Made (w : ℕ) (K : List ℕ → Option UleError) (bytes : List ℕ) (ys : List (List ℕ)) : Type 0 where
  pub sound : list_fault w K bytes ≡ None
  pub reads : elements w bytes ≡ ys

pub made : (w : ℕ) (K : List ℕ → Option UleError) (bytes : List ℕ) (ys : List (List ℕ)) → 0 < w → bytes ≡ enc w ys → codable w ys ≡ true → AreValid K ys →
    Made w K bytes ys
made w K bytes ys some e c v = record { sound = rw e (fault-enc w K ys some c v); reads = rw e (elements-enc w ys some c) }
