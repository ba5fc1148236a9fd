-- Containers that are written and read again.
use Rattle.std.specs.Prelude.{◌≡◌, List, [], ◌∷◌, ⊤}
use Rattle.std.specs.declared.cmp.Ordering.TheVariants.{Equal}
use Rattle.zv_json.specs.Again.{EachAlike}
use Rattle.zv_map1.specs.Views.{Bytes, Order}
use Rattle.zv_map2d.specs.Rows.{Rows}

-- two maps have as many entries, with keys of which one fact holds, and what they have of which
-- another does
abbrev pub EntriesAlike : {X : Type 0} → (Bytes → Bytes → Type 0) → (X → X → Type 0) →
    List (Bytes × X) → List (Bytes × X) → Type 0
EntriesAlike keys alike [] [] = ⊤
EntriesAlike keys alike (e ∷ es) (f ∷ fs) =
    keys e.0 f.0 × (alike e.1 f.1 × EntriesAlike keys alike es fs)
EntriesAlike keys alike [] (f ∷ fs) = ⊥
EntriesAlike keys alike (e ∷ es) [] = ⊥

-- two maps have the same keys, and what these have is alike
abbrev pub SameKeys : {X : Type 0} → (X → X → Type 0) → List (Bytes × X) → List (Bytes × X) → Type 0
SameKeys alike m n = EntriesAlike (λ a b. a ≡ b) alike m n

-- two maps in two levels have the same keys, with values that are alike
abbrev pub RowsAlike : (Bytes → Bytes → Type 0) → Rows → Rows → Type 0
RowsAlike alike m n = SameKeys (SameKeys alike) m n

-- elements that are alike compare Equal
abbrev pub AlikeIsEqual : (Bytes → Bytes → Type 0) → Order → Type 0
AlikeIsEqual alike order = (a x : Bytes) → alike a x → order a x ≡ Equal

-- three lists have the displacements ds, and keys and values that are alike to ks and vs
abbrev pub TableAlike : {A : Type 0} → (Bytes → Bytes → Type 0) → (Bytes → Bytes → Type 0) →
    List A → List Bytes → List Bytes → List A × List Bytes × List Bytes → Type 0
TableAlike keys values ds ks vs t =
    (t.0 ≡ ds) × (EachAlike keys ks t.1 × EachAlike values vs t.2)
