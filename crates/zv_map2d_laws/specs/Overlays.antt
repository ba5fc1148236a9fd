-- One map laid over another, and the laws of that.
use Rattle.std.specs.Prelude.{◌≡◌, List, [], ◌∷◌, Option, Some, None, flat_map, map}
use Rattle.std.specs.Option.{option_or}
use Rattle.zv_map.specs.Maps.{insert_entry, look_up}
use Rattle.zv_map2d.specs.Appending.{Triple, put_all}
use Rattle.zv_map2d.specs.Image.{by_bytes}
use Rattle.zv_map2d.specs.Keys.{Bytes}
use Rattle.zv_map2d.specs.Rows.{IsWell, Rows, find}

-- the first key of a row with each of its pairs of a second key and a value
abbrev pub row_triples : Bytes → List (Bytes × Bytes) → List Triple
row_triples k0 pairs = map (λ p. (k0, p.0, p.1)) pairs

-- the pairs of a map with their values, in order
abbrev pub triples : Rows → List Triple
triples m = flat_map (λ r. row_triples r.0 r.1) m

-- the map with the values that another one gives put into it
abbrev pub overlay : Rows → Rows → Rows
overlay m o = put_all by_bytes by_bytes m (triples o)

-- ---- rows and pairs laid over others

-- what a key then has: what is put for it alone, or joined with what it had
abbrev pub joined : {X : Type 0} → (X → X → X) → Option X → X → X
joined join None new = new
joined join (Some old) new = join old new

-- the entries after others were put among them, in order
abbrev pub laid : {X : Type 0} → (X → X → X) → List (Bytes × X) → List (Bytes × X) →
    List (Bytes × X)
laid join m [] = m
laid join m (e ∷ es) =
    laid join (insert_entry by_bytes m e.0 (joined join (look_up by_bytes m e.0) e.1)) es

-- of values the later one counts
abbrev pub later : {X : Type 0} → X → X → X
later old new = new

-- of pairs
abbrev pub laid_pairs : List (Bytes × Bytes) → List (Bytes × Bytes) → List (Bytes × Bytes)
laid_pairs = laid later

-- of rows: both rows are joined
abbrev pub laid_rows : Rows → Rows → Rows
laid_rows = laid laid_pairs

-- ---- laws

-- first keys and the second keys of each row ascend, and no row is empty
abbrev pub IsInOrder : Rows → Type 0
IsInOrder m = IsWell by_bytes by_bytes m

-- the value of a pair of keys
abbrev pub found : Rows → Bytes → Bytes → Option Bytes
found m k0 k1 = find by_bytes by_bytes m k0 k1

-- a pair of keys has what it has in the upper map, or else what it has in the lower one
abbrev pub FoundInUpper : Type 0
FoundInUpper = (m o : Rows) (k0 k1 : Bytes) → IsInOrder m → IsInOrder o →
    found (overlay m o) k0 k1 ≡ option_or (found o k0 k1) (found m k0 k1)

-- the overlay of maps in order is in order
abbrev pub OverlayInOrder : Type 0
OverlayInOrder = (m o : Rows) → IsInOrder m → IsInOrder (overlay m o)

-- and no other such map has for each pair of keys what the upper map has, or else the lower one
abbrev pub OnlyOverlay : Type 0
OnlyOverlay = (m o n : Rows) → IsInOrder m → IsInOrder o → IsInOrder n →
    ((k0 k1 : Bytes) → found n k0 k1 ≡ option_or (found o k0 k1) (found m k0 k1)) → n ≡ overlay m o

-- of three maps it is the same which two are laid over one another first
abbrev pub Associative : Type 0
Associative = (m o p : Rows) → IsInOrder m → IsInOrder o → IsInOrder p →
    overlay (overlay m o) p ≡ overlay m (overlay o p)

-- a map over itself
abbrev pub OverItself : Type 0
OverItself = (m : Rows) → IsInOrder m → overlay m m ≡ m

-- the empty map under a map, and over it
abbrev pub EmptyUnder : Type 0
EmptyUnder = (m : Rows) → IsInOrder m → overlay [] m ≡ m

abbrev pub EmptyOver : Type 0
EmptyOver = (m : Rows) → overlay m [] ≡ m
