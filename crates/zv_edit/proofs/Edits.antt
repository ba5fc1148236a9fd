-- Edits with no commands.
use Rattle.zv_edit.proofs.Common.{arith, ◌≡◌, ℕ, List, [], ◌∷◌, ◌++◌, Ok, sym, ◌∙◌, ap, codes, decode_of, encode_lower, canon, answers}
use Rattle.zv_edit.proofs.Common.{image_line, append_cancel_left, append_cancel_right, decode_of-encode_lower, decode_of-same, canon_again, same_canon}
use Rattle.zv_edit.proofs.Common.{SameEdits, WrittenBack}
use Rattle.zv_ule.specs.Bytes.{IsBytes}
use Rattle.zv_map2d_laws.proofs.Canon.{canon_bounded}

-- bytes with the same digits are the same
same_digits : (a b : List ℕ) → IsBytes a → IsBytes b → encode_lower a ≡ encode_lower b → a ≡ b
same_digits a b bytes_a bytes_b e =
    let back : decode_of (encode_lower b) ≡ Ok a = ap decode_of (sym e) ∙ decode_of-encode_lower a bytes_a.at in
    decode_of-same (encode_lower b) a b back (decode_of-encode_lower b bytes_b.at)

-- images with the same line are the same
same_lines : (a b : List ℕ) → IsBytes a → IsBytes b → image_line a ≡ image_line b → a ≡ b
same_lines a b bytes_a bytes_b e =
    let texts = append_cancel_right (codes "image x" ++ encode_lower a) (codes "image x" ++ encode_lower b) (10 ∷ []) e in
    same_digits a b bytes_a bytes_b (append_cancel_left (codes "image x") (encode_lower a) (encode_lower b) texts)

pub same_edits : SameEdits
same_edits image other m n bytes_image bytes_other short_image short_other stands_m stands_n =
    let same = same_canon image other m n short_image short_other stands_m stands_n in
    let bytes_m = (canon_bounded image m bytes_image (omega arith) stands_m).0 in
    let bytes_n = (canon_bounded other n bytes_other (omega arith) stands_n).0 in
    (ap (λ x. answers x []), λ e. same.1 (same_lines (canon m) (canon n) bytes_m bytes_n e))

pub written_back : WrittenBack
written_back m n texts lists short stands = ap (λ x. answers x []) ((canon_again m texts lists short).1 n stands)
