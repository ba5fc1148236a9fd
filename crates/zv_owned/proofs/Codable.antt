-- A list that was changed within the size rule can still be written.
use Rattle.zv_owned.proofs.Common.{[], ◌*◌, ◌+◌, ◌-◌, ◌<◌, ◌^◌, ◌∷◌, ◌≡◌, ◌≤◌, List, arith, codable, drop, from_codable, length, length-append, length-drop}
use Rattle.zv_owned.proofs.Common.{mul-zero, refl, remove, set, size, slice_index_or, starts_from, suc, take, take-append-drop, takes_insert, true}
use Rattle.zv_owned.proofs.Common.{zero, ℕ}
use Rattle.std.proofs.Common.{mul-le-mul_left, inl, inr, length-set, length-take}
use Rattle.std.proofs.Math.Nat.{le-mul_of_pos_right, mul_comm, pow-suc}
use Rattle.std.proofs.lemmas.Bool.{cases_lt}
use Rattle.std.proofs.lemmas.List.Sums.{sum_by-set}
use Rattle.std.specs.List.{insert}
use Rattle.zv_owned.proofs.Sizes.{one_encoded, size_append, size_of, size_total}
use Rattle.zv_owned.proofs.Starts.{AreBelow, all_fit, below_set, below_remove, below_end}
use Rattle.zv_owned.specs.Size.{takes_replace}

below_power : (v : ℕ) → v < 256 ^ v
below_power zero = omega arith
below_power (suc v) = omega (arith, below_power v, pow-suc 256 v)

-- What codable says, of any list.
pub record FitsFields (w : ℕ) (xs : List (List ℕ)) : Type 0 where
  pub count : length xs < 256 ^ w
  pub short : w * (length xs - 1) < 2 ^ 32
  pub starts : AreBelow (256 ^ w) 0 xs

pub fields_fit : (w : ℕ) (xs : List (List ℕ)) → codable w xs ≡ true → FitsFields w xs
fields_fit w [] c = record { count = omega (arith, below_power w); short = omega (arith, mul-zero w); starts = tt }
fields_fit w (x ∷ xs) c =
    let r = from_codable w x xs c in
    let n : length (x ∷ xs) - 1 ≡ length xs = omega arith in
    let z : 0 + length x ≡ length x = omega arith in
    record { count = omega (arith, r.count_fits); short = rw n r.starts_short; starts = (omega (arith, below_power w), rw z r.starts_fit) }

pub can_write : (w : ℕ) (xs : List (List ℕ)) → FitsFields w xs → codable w xs ≡ true
can_write w [] f = refl
can_write w (x ∷ xs) f =
    let z : 0 + length x ≡ length x = omega arith in
    let fit = all_fit w (starts_from (length x) xs) (rw z at f.starts.1) in
    let n : length (x ∷ xs) - 1 ≡ length xs = omega arith in
    let short : w * length xs < 2 ^ 32 = rw n at f.short in
    let count : length xs + 1 < 256 ^ w = omega (arith, f.count) in
    grind arith

-- an element that comes in place of another
pub size_set : (w : ℕ) (xs : List (List ℕ)) (i : ℕ) (e : List ℕ) → i < length xs → size w (set xs i e) + length (slice_index_or xs i []) ≡ size w xs + length e
size_set w xs i e h = rw (size_total w (set xs i e), size_total w xs, length-set xs i e) (omega (arith, sum_by-set (λ x. length x) xs i e [] h))

module _ (w : ℕ) (some : 0 < w) (narrow : 256 ^ w ≤ 2 ^ 32) where
  -- a list whose encoding is no longer than the largest number
  pub codable_from_size : (xs : List (List ℕ)) → size w xs < 256 ^ w → codable w xs ≡ true
  codable_from_size xs h =
      let long = size_of w xs in
      let fewer : w * (length xs - 1) ≤ w * length xs = mul-le-mul_left w (omega arith) in
      can_write w xs (record {
        count = omega (arith, le-mul_of_pos_right (length xs) some, mul_comm w (length xs));
        short = omega arith;
        starts = below_end (256 ^ w) 0 xs (omega arith);
      })

  -- one element of any length
  pub codable_one : (e : List ℕ) → codable w (e ∷ []) ≡ true
  codable_one e = can_write w (e ∷ []) (record {
    count = omega (arith, below_power w);
    short = omega (arith, mul-zero w);
    starts = (omega (arith, below_power w), tt);
  })

  -- after an insertion, and after a replacement, that the size rule takes, and after any removal
  pub insert_codable : (xs : List (List ℕ)) (i : ℕ) (e : List ℕ) → i ≤ length xs → takes_insert w xs (length e) ≡ true → codable w (insert xs i e) ≡ true
  insert_codable [] zero e h k = codable_one e
  insert_codable [] (suc i) e h k = codable_one e
  insert_codable (x ∷ xs) i e h k =
      let long = size_append w (take i (x ∷ xs)) (e ∷ drop i (x ∷ xs)) in
      let rest = size_append w (e ∷ []) (drop i (x ∷ xs)) in
      let was = size_append w (take i (x ∷ xs)) (drop i (x ∷ xs)) in
      let short : size w (x ∷ xs) + length e + w < 256 ^ w = grind (arith, below_power w) in
      codable_from_size (insert (x ∷ xs) i e) (omega (arith, one_encoded w e, rw take-append-drop at was))

  pub replace_codable : (xs : List (List ℕ)) (i : ℕ) (e : List ℕ) → i < length xs → codable w xs ≡ true →
      takes_replace w xs (length (slice_index_or xs i [])) (length e) ≡ true → codable w (set xs i e) ≡ true
  replace_codable xs i e h c k = elim (cases_lt (length (slice_index_or xs i [])) (length e)) [
    | inl longer ↦
        let short : size w xs + length e < 256 ^ w + length (slice_index_or xs i []) = grind (arith, below_power w) in
        codable_from_size (set xs i e) (omega (arith, size_set w xs i e h))
    | inr shorter ↦
        let f = fields_fit w xs c in
        can_write w (set xs i e) (record {
          count = rw (length-set xs i e) f.count;
          short = rw (length-set xs i e) f.short;
          starts = below_set (256 ^ w) 0 xs i e shorter f.starts;
        })
  ]

  pub remove_codable : (xs : List (List ℕ)) (i : ℕ) → codable w xs ≡ true → codable w (remove xs i) ≡ true
  remove_codable xs i c =
      let f = fields_fit w xs c in
      let fewer : length (remove xs i) ≤ length xs = omega (arith, length-append {A = List ℕ}, length-take {A = List ℕ}, length-drop {A = List ℕ}) in
      let less : w * (length (remove xs i) - 1) ≤ w * (length xs - 1) = mul-le-mul_left w (omega arith) in
      can_write w (remove xs i) (record {
        count = omega (arith, f.count);
        short = omega (arith, f.short);
        starts = below_remove (256 ^ w) 0 xs i f.starts;
      })
