-- The image in an answer is read back.
use Rattle.std.proofs.Common.{◌≡◌, ℕ, zero, suc, ◌+◌, ◌-◌, ◌/◌, ◌%◌, ◌<◌, ◌≤◌, true, false, List, [], ◌∷◌, ◌++◌, length, slice_index, take, drop, Ok, inl, inr}
use Rattle.std.proofs.Common.{refl, ap, arith, length-append}
use Rattle.std.proofs.Math.Seq.{drop-append-add, get_or-append_right}
use Rattle.std.proofs.lemmas.Bool.{cases_lt}
use Rattle.std.proofs.lemmas.List.{get_or-append-add, take_at, take_rest}
use Rattle.std.specs.List.{AllPass}
use Rattle.std.specs.Prelude.{codes}
use Rattle.hex.proofs.HexLemmas.{decode_of-encode_lower, decode_of-ok}
use Rattle.hex.specs.Hex.{IsBytes, decode_of, encode_lower, is_hex_digit, lower_digits}
unfoldable use Rattle.hex.specs.Hex.{encode_with}
use Rattle.memchr.specs.Find.{NoneAfter, Passes, is_byte}
use Rattle.zv_image.specs.Text.{image_line}

-- bytes alone have nothing but digits
bytes : (c : List ℕ) → AllPass is_hex_digit (encode_lower c) → IsBytes c
unfolding encode_with
bytes [] all i = omega arith
bytes (b ∷ c) all zero = let high = all 0 0 (omega arith) in grind arith
bytes (b ∷ c) all (suc i) = bytes c (λ k d h. all (suc (suc k)) d (omega arith)) i

-- no `x` stands among digits and LF
lacks_mark : (c : List ℕ) (k : ℕ) → is_byte 120 (slice_index (encode_lower c ++ 10 ∷ []) k) ≡ false
unfolding encode_with
lacks_mark [] zero = refl
lacks_mark [] (suc k) = refl
lacks_mark (b ∷ c) zero = grind arith
lacks_mark (b ∷ c) (suc zero) = grind arith
lacks_mark (b ∷ c) (suc (suc k)) = lacks_mark c k

module _ (front image : List ℕ) where
  -- the last `x` of a text that an image's line ends is that of the line
  place : (k : ℕ) → NoneAfter (Passes (is_byte 120) (front ++ image_line image)) 0 (length (front ++ image_line image)) k
      → Passes (is_byte 120) (front ++ image_line image) k → k + 1 ≡ length front + 7
  place k none is =
      let size = length-append front (image_line image) in
      let six = get_or-append-add front (image_line image) 6 0 in
      let within = get_or-append_right front (image_line image) k 0 in
      let behind = get_or-append_right (codes "image x") (encode_lower image ++ 10 ∷ []) (k - length front) 0 in
      let lacks = lacks_mark image (k - length front - 7) in
      let last = none.after (length front + 6) in
      grind arith

  -- and what its digits stand for is the image
  pub image_read : (answer digits d : List ℕ) (k : ℕ) → answer ≡ front ++ image_line image
      → NoneAfter (Passes (is_byte 120) answer) 0 (length answer) k × Passes (is_byte 120) answer k
      → let tail = take (length answer - (k + 1)) (drop (k + 1) answer) in digits ≡ take (length tail - 1) tail → decode_of digits ≡ Ok d → d ≡ image
  image_read answer digits d k whole at cut is =
      let tail : drop (k + 1) answer ≡ encode_lower image ++ 10 ∷ [] =
      rw (place k (rw whole at at.0) (rw whole at at.1), whole) (drop-append-add front (image_line image) 7) in
      let size = length-append (encode_lower image) (10 ∷ []) in
      let all = take_at (encode_lower image) (10 ∷ []) (length (encode_lower image ++ 10 ∷ []) - 1) (omega arith) in
      let ok = rw (cut, take_rest answer (k + 1), tail, all) at is in
      cc (decode_of-encode_lower image (bytes image (decode_of-ok (encode_lower image) d ok).1))
