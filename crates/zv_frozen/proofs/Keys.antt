-- The key of two texts, and the order of keys.
use Rattle.zv_frozen.proofs.Common.{◌++◌, ◌+◌, ◌-◌, ◌<◌, ◌^◌, ◌∙◌, ◌∷◌, ◌≡◌, ◌≤◌, Bytes, Equal, IsBytes, IsKey, IsKeyOf, List, [], ap, arith, by_bytes, drop}
use Rattle.zv_frozen.proofs.Common.{drop-drop, exact_bytes, first_len, is_key, key_hashed, key_order, le, length, length-append, length-drop, length-take, map}
use Rattle.zv_frozen.proofs.Common.{map-id, nat_cmp, nat_tests, ordering_then, pair_key, read_bytes, refl, slice_cmp, slice_index, suc, sym, take}
use Rattle.zv_frozen.proofs.Common.{take-append-drop, text0, text1, true, zero, ℕ}
use Rattle.std.proofs.lemmas.List.Concat.{flat_map_single}
use Rattle.zv_ule.proofs.Fields.{le-number_at, number_below}
use Rattle.zv_ule.proofs.Lists.{front_bytes}
use Rattle.zv_ule.specs.Chunks.{chunks}
use Rattle.zv_var.proofs.Common.{drop_at, number-le, take_at}

-- ---- keys are their bytes

read_each : (n : ℕ) (b : List ℕ) → length b ≡ n → map (λ c. slice_index c 0) (chunks 1 n b) ≡ b
read_each zero [] e = refl
read_each zero (x ∷ b) e = absurd (omega arith)
read_each (suc n) [] e = absurd (omega arith)
read_each (suc n) (x ∷ b) e = ap (λ r. x ∷ r) (read_each n b (omega arith))

read_back : (b : Bytes) → read_bytes b ≡ b
read_back b = read_each _ b (omega arith)

pub same_order : (a b : Bytes) → key_order a b ≡ by_bytes a b
same_order a b = rw (read_back a, read_back b) refl

pub same_hash : (b : Bytes) → key_hashed b ≡ b
same_hash b = rw (read_back b) (flat_map_single (λ v. v) b ∙ map-id b)

-- keys that compare Equal are the same
pub exact_keys : (a b : Bytes) → key_order a b ≡ Equal → a ≡ b
exact_keys a b e = exact_bytes a b (sym (same_order a b) ∙ e)

-- bytes compare with two pieces as their start compares with the first, or else as the rest with the second
in_two : (a x y : List ℕ) → slice_cmp nat_cmp a (x ++ y)
    ≡ ordering_then (slice_cmp nat_cmp (take (length x) a) x) (slice_cmp nat_cmp (drop (length x) a) y)
in_two a [] y = refl
in_two [] (b ∷ x) y = refl
in_two (c ∷ a) (b ∷ x) y = let more = in_two a x y in grind arith

pub in_three : (a k0 k1 : Bytes) → by_bytes a (pair_key k0 k1)
    ≡ ordering_then (slice_cmp nat_cmp (take 4 a) (le 4 (length k0)))
    (ordering_then (slice_cmp nat_cmp (take (length k0) (drop 4 a)) k0) (slice_cmp nat_cmp (drop (length k0) (drop 4 a)) k1))
in_three a k0 k1 = in_two a (le 4 (length k0)) (k0 ++ k1) ∙ ap (ordering_then (slice_cmp nat_cmp (take 4 a) (le 4 (length k0)))) (in_two (drop 4 a) k0 k1)

-- ---- the texts of a key

module _ (k0 k1 : Bytes) (short : length k0 < 2 ^ 32) where
  first_long : first_len (pair_key k0 k1) ≡ length k0
  first_long = number-le 4 (length k0) short

  pub first_back : text0 (pair_key k0 k1) ≡ k0
  first_back = rw first_long (take_at k0 k1 (length k0) refl)

  pub second_back : text1 (pair_key k0 k1) ≡ k1
  second_back = sym (drop-drop (first_len (pair_key k0 k1)) 4 (pair_key k0 k1)) ∙ rw first_long (drop_at k0 k1 (length k0) refl)

-- keys that are the same are those of the same texts
pub same_texts : (j0 j1 k0 k1 : Bytes) → length j0 < 2 ^ 32 → length k0 < 2 ^ 32 → pair_key j0 j1 ≡ pair_key k0 k1 → (j0 ≡ k0) × (j1 ≡ k1)
same_texts j0 j1 k0 k1 s t same =
    (sym (first_back j0 j1 s) ∙ ap text0 same ∙ first_back k0 k1 t, sym (second_back j0 j1 s) ∙ ap text1 same ∙ second_back k0 k1 t)

-- a key is that of no other texts
pub key_back : {key k0 k1 : Bytes} → IsKeyOf key k0 k1 → (text0 key ≡ k0) × (text1 key ≡ k1)
key_back {key} {k0} {k1} is = rw is.is (first_back k0 k1 is.short, second_back k0 k1 is.short)

pub key_shown : {key k0 k1 : Bytes} → IsKeyOf key k0 k1 → IsKey key
key_shown is = let back = key_back is in rw (back.0, back.1) is

-- the test of a key shows its texts, and those of any two texts pass it
pub tested : (key : Bytes) → IsBytes key → is_key key ≡ true → IsKey key
tested key bytes passes =
    let long : 4 ≤ length key = grind (arith, nat_tests) in
    let within : first_len key ≤ length (drop 4 key) = grind (arith, nat_tests, length-drop) in
    let front : length (take 4 key) ≡ 4 = omega (arith, length-take 4 key) in
    let four = front_bytes 4 key bytes long in
    let first : length (text0 key) ≡ first_len key = omega (arith, length-take (first_len key) (drop 4 key), within) in
    let behind : text0 key ++ text1 key ≡ drop 4 key =
    ap (λ r. text0 key ++ r) (sym (drop-drop (first_len key) 4 key)) ∙ take-append-drop (first_len key) (drop 4 key) in
    record {
      text0 = grind arith;
      text1 = grind arith;
      short = rw first (number_below 4 (take 4 key) front four);
      is = cc (first, le-number_at 4 (take 4 key) front four, behind, take-append-drop 4 key);
    }

pub passes : {key k0 k1 : Bytes} → IsKeyOf key k0 k1 → is_key key ≡ true
passes {key} is =
    let shown : IsKey key = key_shown is in
    let whole : length key ≡ 4 + (length (text0 key) + length (text1 key)) = omega (arith, ap length shown.is, length-append (text0 key) (text1 key)) in
    let first : first_len key ≡ length (text0 key) = ap first_len shown.is ∙ first_long (text0 key) (text1 key) shown.short in
    grind (arith, nat_tests)
