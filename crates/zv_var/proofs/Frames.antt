-- Parts in their frames.
use Rattle.zv_var.proofs.Common.{◌≡◌, ℕ, ◌^◌, ◌<◌, List, ◌++◌, length, refl, ap, ◌∙◌, arith, length-append, append_assoc, Some, take_at, drop_at, le, number}
use Rattle.zv_var.proofs.Common.{length-le, number-le}
use Rattle.zv_var.specs.Frame.{framed, first_part}

-- a part after a field that holds its length
first_part-field : (field p r : List ℕ) → length field ≡ 8 → number field ≡ length p → first_part (field ++ (p ++ r)) ≡ Some (p, r)
first_part-field field p r e is =
    let t = take_at field (p ++ r) 8 e in
    let d = drop_at field (p ++ r) 8 e in
    let front = take_at p r (length p) refl in
    let back = drop_at p r (length p) refl in
    let long = length-append field (p ++ r) in
    let rest = length-append p r in
    grind arith

-- A framed part is taken, whatever follows it.
pub first_part_of_framed : (p r : List ℕ) → length p < 256 ^ 8 → first_part (framed p ++ r) ≡ Some (p, r)
first_part_of_framed p r h =
    ap first_part (append_assoc (le 8 (length p)) p r) ∙ first_part-field (le 8 (length p)) p r (length-le 8 (length p)) (number-le 8 (length p) h)
