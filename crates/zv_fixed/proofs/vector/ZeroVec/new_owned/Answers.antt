use Rattle.std.proofs.Common.{ap, sym, ◌∙◌, map, List, ℕ}
use Rattle.std.proofs.lemmas.Simd.{map-map}
use Rattle.zv_ule.specs.Chunks.{values_of}
use Rattle.zv_fixed.proofs.vector.ZeroVec.new_owned.Goals as goal

pub returns-clause-values : goal.returns-clause-values
returns-clause-values g c =
    let u = g.T.ULE.ULE in
    c.of_owned.ensures.values ∙ ap (values_of u.width (λ (b : List ℕ). g.T.AsULE.loaded (u.value b))) c.in_ok-joined.ensures
    ∙ (sym (map-map g.T.AsULE.loaded u.value _) ∙ ap (map g.T.AsULE.loaded) c.all_known.ensures.back)
