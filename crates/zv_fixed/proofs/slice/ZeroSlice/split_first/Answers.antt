use Rattle.std.proofs.Common.{◌≡◌, List, ◌∷◌, map, refl, ap, sym, ◌∙◌}
use Rattle.std.proofs.lemmas.Simd.{map-map}
use Rattle.zv_fixed.proofs.slice.ZeroSlice.split_first.Goals as goal

first_of : {B U T : Type 0} (value : B → U) (from : U → T) (xs ys : List B) (u : U) (t : T) → map value xs ≡ u ∷ map value ys → t ≡ from u →
    map (λ b. from (value b)) xs ≡ t ∷ map (λ b. from (value b)) ys
first_of value from xs ys u t h e = sym (map-map from value xs) ∙ ap (map from) h ∙ rw (e, ← map-map from value ys) refl

pub returns : goal.returns
returns g c = first_of g.T.ULE.ULE.value g.T.AsULE.loaded _ _ _ _ c.in_ok-stored.ensures.values c.from_unaligned.ensures.same

pub returns-in_err-stored : goal.returns-in_err-stored
returns-in_err-stored g c =
    rw c.from_residual.ensures (sym (map-map g.T.AsULE.loaded g.T.ULE.ULE.value _) ∙ ap (map g.T.AsULE.loaded) c.in_err-stored.ensures.values)
