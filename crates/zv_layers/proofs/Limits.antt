-- No overlay of the images of an input within the limit is refused.
use Rattle.zv_layers.proofs.Common.{◌*◌, ◌+◌, ◌-◌, ◌<◌, ◌^◌, ◌∙◌, ◌∷◌, ◌≡◌, ◌≤◌, AreAccepted, Bytes, IfSome, IsInOrder, IsMap, IsRow, List, NeverRefused, None}
use Rattle.zv_layers.proofs.Common.{Rows, [], arith, by_bytes, field_is, firsts, keys_of, laid_pairs, laid_rows, later, length, lengths, none_well, overlay}
use Rattle.zv_layers.proofs.Common.{refl, refusal, seconds, size, suc, sum_by, sum_by-cons, sum_by_push, values, values_of, with_layer, ℕ, ⊤}
use Rattle.zv_edit.proofs.Lines.{asked_size}
use Rattle.zv_map2d_laws.proofs.Laid.{anything, overlay_in_order, overlay_laid}
use Rattle.zv_map2d_laws.proofs.Sizes.{image_holds}
use Rattle.zv_map2d_laws.specs.Sizes.{wide_size}
use Rattle.zv_owned.proofs.Sizes.{one_encoded, size_append}
use Rattle.zv_layers.proofs.Laid.{laid_weight}
use Rattle.zv_layers.proofs.Refusals.{refusal_is, small_taken}

-- ---- how many bytes pairs and rows take

abbrev pair_size : Bytes × Bytes → ℕ
pair_size p = 8 + length p.0 + length p.1

abbrev row_size : Bytes × List (Bytes × Bytes) → ℕ
row_size r = 4 + length r.0 + sum_by pair_size r.1

one_more : (x : Bytes) (xs : List Bytes) → size 4 (x ∷ xs) ≡ 4 + length x + size 4 xs
one_more x xs = omega (arith, size_append 4 (x ∷ []) xs, one_encoded 4 x)

pairs_size : (ps : List (Bytes × Bytes)) → size 4 (keys_of ps) + size 4 (values_of ps) ≡ sum_by pair_size ps
pairs_size [] = refl
pairs_size (p ∷ ps) = omega (arith, pairs_size ps, one_more p.0 (keys_of ps), one_more p.1 (values_of ps), sum_by-cons pair_size p ps)

rows_size : (m : Rows) → wide_size m ≡ sum_by row_size m
rows_size [] = refl
rows_size (r ∷ m) = omega (
  arith,
  rows_size m,
  pairs_size r.1,
  one_more r.0 (firsts m),
  size_append 4 (keys_of r.1) (seconds m),
  size_append 4 (values_of r.1) (values m),
  sum_by-cons row_size r m,
)

-- ---- what is laid adds no more than its size

pairs_grow : (ps qs : List (Bytes × Bytes)) → IsMap by_bytes ps → IsMap by_bytes qs →
    sum_by pair_size (laid_pairs ps qs) ≤ sum_by pair_size ps + sum_by pair_size qs
pairs_grow ps qs mp mq =
    laid_weight later (λ p. ⊤) pair_size (λ b o h k. omega arith) (suc (lengths (ps, qs))) ps qs (omega arith) (mp, anything ps) (mq, anything qs)

rows_grow : (m o : Rows) → IsInOrder m → IsInOrder o → sum_by row_size (laid_rows m o) ≤ sum_by row_size m + sum_by row_size o
rows_grow m o wm wo =
    laid_weight laid_pairs (IsRow by_bytes) row_size (λ b o h k. omega (arith, pairs_grow b.1 o.1 h.1 k.1)) (suc (lengths (m, o))) m o (omega arith) wm wo

grows : (m o : Rows) → IsInOrder m → IsInOrder o → wide_size (overlay m o) ≤ wide_size m + wide_size o
grows m o wm wo = rw (overlay_laid o m wo.1, rows_size (laid_rows m o), rows_size m, rows_size o) (rows_grow m o wm wo)

-- ---- layers

accepted : (m : Rows) → IsInOrder m → wide_size m < 2 ^ 32 - 1 → refusal m ≡ None
accepted m well small =
    refusal_is m well ∙ rw (small_taken (firsts m) (omega arith), small_taken (seconds m) (omega arith), small_taken (values m) (omega arith)) refl

all_accepted : (m : Rows) (images : List (List ℕ)) → IsInOrder m → wide_size m + 2 * sum_by length images < 2 ^ 32 - 1 → AreAccepted m images
all_accepted m [] well small = tt
all_accepted m (image ∷ images) well small = λ o stands.
    let sum = sum_by-cons length image images in
    let large = image_holds image o stands in
    let more = grows m o well stands.map.in_order in
    let upper = overlay_in_order m o well in
    (accepted (overlay m o) upper (omega (arith, more)), all_accepted (overlay m o) images upper (omega (arith, more)))

-- ---- the images of an input are no larger than it

image_grows : (images : List (List ℕ)) (line : List ℕ) → IfSome (with_layer images line) (λ all. sum_by length all ≤ sum_by length images + length line)
image_grows images line = let one = field_is line in let pushed = λ (image : List ℕ). sum_by_push length images image in grind arith

pub never_refused : NeverRefused
never_refused input first more short is =
    all_accepted [] (first ∷ more) (none_well by_bytes by_bytes refl)
    (omega (arith, asked_size with_layer (sum_by length) image_grows [] more input first is, sum_by-cons length first more))
