-- A vector of a map: its bytes, and what a change finds and leaves of its room.
use Rattle.std.specs.Prelude.{◌≡◌, ℕ, ◌+◌, ◌≤◌, List, Bool, true}
use Rattle.zv_map.specs.Reserved.{HasRoom}
use Rattle.zv_map.specs.declared.view.Layout.{Layout}
use Rattle.zv_map.specs.declared.view.Layout.TheVariants.{Fixed}

-- its bytes, in which layout they are, by how many bytes it can grow without memory, whether it
-- owns them, and whether a change may come that takes no memory
pub record Vector : Type 0 where
  pub bytes : List ℕ
  pub layout : Layout
  pub spare : ℕ
  pub owned : Bool
  pub ready : Bool

-- a container as a vector, by the container's meanings
abbrev pub vector_of : {C : Type 0} → (C → List ℕ) → (C → Layout) → (C → ℕ) → (C → Bool) →
    (C → Bool) → C → Vector
vector_of bytes layout spare owned ready c = record {
  bytes = bytes c;
  layout = layout c;
  spare = spare c;
  owned = owned c;
  ready = ready c;
}

-- a vector of elements of one width, which is ready where it owns its bytes
abbrev pub fixed_vector : ℕ → List ℕ → ℕ → Bool → Vector
fixed_vector width bytes spare owned = record {
  bytes = bytes;
  layout = Fixed width;
  spare = spare;
  owned = owned;
  ready = owned;
}

-- ---- changes

-- what owned its bytes still does, and what was ready still is
pub record StaysOwned (before after : Vector) : Type 0 where
  pub owned : before.owned ≡ true → after.owned ≡ true
  pub ready : before.ready ≡ true → after.ready ≡ true

-- the same bytes in the same layout, which may have become owned, and can grow by no less
pub record IsSameVector (before after : Vector) : Type 0 where
  pub bytes : after.bytes ≡ before.bytes
  pub layout : after.layout ≡ before.layout
  pub spare : before.spare ≤ after.spare
  pub stays : StaysOwned before after

-- it owns its bytes exactly if it did before, is ready if it was, and can grow by as much at least
pub record KeepsItsRoom (before after : Vector) : Type 0 where
  pub owned : after.owned ≡ before.owned
  pub ready : before.ready ≡ true → after.ready ≡ true
  pub spare : before.spare ≤ after.spare

-- ---- room

-- it owns its bytes, and can grow by n of them without memory
abbrev pub CanGrow : Vector → ℕ → Type 0
CanGrow v n = HasRoom v.owned v.spare n

-- after a change it still owns its bytes, and can grow by at most n fewer
pub record Spends (n : ℕ) (before after : Vector) : Type 0 where
  pub owned : after.owned ≡ true
  pub spare : before.spare ≤ after.spare + n
