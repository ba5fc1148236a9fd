-- Chunks that are written one after another.
use Rattle.zv_ule.proofs.Common.{◌≡◌, ℕ, ◌+◌, ◌-◌, ◌*◌, ◌<◌, ◌≤◌, List, [], ◌∷◌, ◌++◌, length, take, get_or, ap, sym, ◌∙◌, arith, suc-mul, take_more, mul-le}
use Rattle.zv_ule.proofs.Common.{flat_map}
use Rattle.std.proofs.lemmas.Grind.{flat_map-append}
use Rattle.std.proofs.lemmas.List.{append-nil}
use Rattle.std.proofs.lemmas.Slice.{take-put_mid}
use borrow.Rule.Slice.PartMut.{put_mid}

-- one value more
pub flat_map-more : {V : Type 0} (chunk : V → List ℕ) (vs : List V) (i : ℕ) (v : V) → i < length vs → v ≡ get_or vs i v →
    flat_map chunk (take (i + 1) vs) ≡ flat_map chunk (take i vs) ++ chunk v
flat_map-more chunk vs i v h e =
    ap (flat_map chunk) (take_more vs i v h ∙ ap (λ u. take i vs ++ u ∷ []) (sym e))
    ∙ flat_map-append chunk (take i vs) (v ∷ []) ∙ ap (λ b. flat_map chunk (take i vs) ++ b) (append-nil (chunk v))

-- the chunk of the next value is written after those before it
pub written_more : {V : Type 0} (chunk : V → List ℕ) (vs : List V) (w i : ℕ) (v : V) (out new : List ℕ) → i < length vs → v ≡ get_or vs i v →
    length out ≡ length vs * w → length (chunk v) ≡ w → new ≡ chunk v → take (i * w) out ≡ flat_map chunk (take i vs) →
    take ((i + 1) * w) (put_mid (i * w) ((i + 1) * w - i * w) out new) ≡ flat_map chunk (take (i + 1) vs)
written_more chunk vs w i v out new h e long whole is before =
    let end : (i + 1) * w ≡ i * w + length new = omega (arith, suc-mul i w, ap length is) in
    let within : i * w ≤ length out = omega (arith, mul-le i w (length vs) w (omega (arith, h)) (omega arith)) in
    take-put_mid (i * w) ((i + 1) * w - i * w) out new ((i + 1) * w) end within
    ∙ ap (λ b. b ++ new) before ∙ ap (λ b. flat_map chunk (take i vs) ++ b) is ∙ sym (flat_map-more chunk vs i v h e)
