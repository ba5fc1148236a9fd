-- A map that isn't empty has one spelling in each format.
use Rattle.zv_map2d.proofs.Common.{[], ◌∷◌, refl, arith}
use Rattle.zv_map2d_laws.specs.Laws.{OneSpelling}

-- a first row, which isn't empty, makes each of the four lists begin with an element
pub one_spelling : OneSpelling
one_spelling image [] s some = absurd (some refl)
one_spelling image ((k, []) ∷ m) s some = absurd (omega (arith, s.map.in_order.1.0.0))
one_spelling image ((k, q ∷ row) ∷ m) s some = rw (s.spelled.keys0.1, s.spelled.joiner, s.spelled.keys1.1, s.spelled.values.1) refl
