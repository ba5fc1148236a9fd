-- Ranges of lists, and the pairs of two ranges: the last, and how many there are.
use Rattle.std.proofs.Common.{◌++◌, zip}
use Rattle.std.proofs.lemmas.List.{take_all}
use Rattle.std.proofs.lemmas.List.Edits.{between_more, length-between}
use Rattle.std.proofs.lemmas.Slice.Zip.{length-zip}
use Rattle.zv_map.proofs.Common.{◌≡◌, ℕ, ◌+◌, ◌-◌, ◌<◌, ◌≤◌, List, [], ◌∷◌, length, slice_range, refl, arith, ap, ◌∙◌, common_steps, Bytes, nth}

-- all of a list
pub range_all : {A : Type 0} (xs : List A) (e : ℕ) → e ≡ length xs → slice_range xs 0 e ≡ xs
range_all xs e h = take_all (e - 0) xs (omega (arith, h))

zip_push : {A B : Type 0} (xs : List A) (ys : List B) (x : A) (y : B) → length xs ≡ length ys → zip (xs ++ x ∷ []) (ys ++ y ∷ []) ≡ zip xs ys ++ (x, y) ∷ []
zip_push [] [] x y h = refl
zip_push [] (b ∷ ys) x y h = absurd (omega (arith, h))
zip_push (a ∷ xs) [] x y h = absurd (omega (arith, h))
zip_push (a ∷ xs) (b ∷ ys) x y h = rw (zip_push xs ys x y (omega (arith, h)))

module _ (xs ys : List Bytes) (i e : ℕ) (a : e ≤ length xs) (b : e ≤ length ys) where
  -- all pairs but the last, and that
  pub pairs_last : i < e → zip (slice_range xs i e) (slice_range ys i e)
      ≡ zip (slice_range xs i (e - 1)) (slice_range ys i (e - 1)) ++ (nth xs (e - 1), nth ys (e - 1)) ∷ []
  pairs_last h =
      let end : e ≡ (e - 1) + 1 = omega arith in
      let last : (zs : List Bytes) → e ≤ length zs → slice_range zs i e ≡ slice_range zs i (e - 1) ++ nth zs (e - 1) ∷ [] =
      λ zs c. ap (slice_range zs i) end ∙ between_more zs i (e - 1) [] (omega arith) (omega arith) in
      rw (last xs a, last ys b) (zip_push _ _ _ _ (rw (length-between xs i (e - 1) (omega arith), length-between ys i (e - 1) (omega arith))))

-- and how many pairs there are
pub ruleset pairs = (common_steps, pairs_last, length-zip, length-between)
