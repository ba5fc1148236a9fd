-- A walk over two lists of entries, of which one is laid over the other.
use Rattle.std.specs.Prelude.{ℕ, ◌+◌, List, [], ◌∷◌, length, Option, Some, None}
use Rattle.std.specs.declared.cmp.Ordering.{Ordering}
use Rattle.std.specs.declared.cmp.Ordering.TheVariants.{Less, Equal, Greater}
use Rattle.zv_map2d.specs.Image.{by_bytes}
use Rattle.zv_map2d.specs.Keys.{Bytes}
use Rattle.zv_map2d.specs.Views.{Row}
use Rattle.zv_layers.specs.declared.walk.Next.{Next}
use Rattle.zv_layers.specs.declared.walk.Next.TheVariants.{One, Both}
use Rattle.zv_layers.specs.declared.walk.Walk.{Walk}

-- the entries from the one at hand on, if there is one
abbrev pub ahead : {T E : Type 0} → (T → E) → Option T → List E → List E
ahead entry None es = es
ahead entry (Some t) es = entry t ∷ es

-- the two lists of a walk
abbrev pub lists_left : {T I E : Type 0} → (T → E) → (I → List E) → Walk T I → List E × List E
lists_left entry left w = (ahead entry w.lower (left w.base), ahead entry w.upper (left w.over))

-- how many entries two lists have
abbrev pub lengths : {E : Type 0} → List E × List E → ℕ
lengths lists = length lists.0 + length lists.1

-- what comes next, as entries
abbrev pub seen : {T E : Type 0} → (T → E) → Next T → Next E
seen entry (One t) = One (entry t)
seen entry (Both base over) = Both (entry base) (entry over)

-- what is taken of two lists, by how the upper head's key compares with the lower one's, and what
-- is left of them
abbrev pub taken_by : {E : Type 0} → E → List E → E → List E → Ordering →
    Option (Next E) × (List E × List E)
taken_by b bs o os Less = (Some (One o), (b ∷ bs, os))
taken_by b bs o os Equal = (Some (Both b o), (bs, os))
taken_by b bs o os Greater = (Some (One b), (bs, o ∷ os))

-- the entry with the least key, or both where both lists have that key
abbrev pub next_by : {X : Type 0} → List (Bytes × X) → List (Bytes × X) →
    Option (Next (Bytes × X)) × (List (Bytes × X) × List (Bytes × X))
next_by [] [] = (None, ([], []))
next_by (b ∷ bs) [] = (Some (One b), (bs, []))
next_by [] (o ∷ os) = (Some (One o), ([], os))
next_by (b ∷ bs) (o ∷ os) = taken_by b bs o os (by_bytes o.0 b.0)

-- of two lists
abbrev pub next_of : {X : Type 0} → List (Bytes × X) × List (Bytes × X) →
    Option (Next (Bytes × X)) × (List (Bytes × X) × List (Bytes × X))
next_of lists = next_by lists.0 lists.1

-- the entry that comes of what was taken
abbrev pub entry_of : {X : Type 0} → (X → X → X) → Next (Bytes × X) → Bytes × X
entry_of join (One e) = e
entry_of join (Both b o) = (o.0, join b.1 o.1)

-- how much was taken
abbrev pub weight_of : {E : Type 0} → (E → ℕ) → Next E → ℕ
weight_of weight (One e) = weight e
weight_of weight (Both b o) = weight b + weight o

-- P holds of each entry that was taken
abbrev pub HoldsOf : {E : Type 0} → (E → Type 0) → Next E → Type 0
HoldsOf P (One e) = P e
HoldsOf P (Both b o) = P b × P o

-- a row of a map as an entry
abbrev pub row_entry : Row → Bytes × List (Bytes × Bytes)
row_entry row = (row.key, row.pairs)

-- how many pairs it has
abbrev pub pair_count : Bytes × List (Bytes × Bytes) → ℕ
pair_count row = length row.1
