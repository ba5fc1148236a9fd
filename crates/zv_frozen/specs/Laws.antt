-- The laws of frozen images.
use Rattle.std.specs.Prelude.{◌≡◌, ◌↔◌, ℕ, ◌≤◌, true, List, [], length, None}
use Rattle.zv_ule.specs.Bytes.{IsBytes}
use Rattle.zv_map.specs.Keys.{Bytes}
use Rattle.zv_hashmap.specs.Table.{Table}
use Rattle.zv_map2d.specs.Appending.{first_refusal}
use Rattle.zv_map2d.specs.Fits.{texts_rule}
use Rattle.zv_map2d.specs.Image.{by_bytes}
use Rattle.zv_map2d.specs.Rows.{Rows, find}
use Rattle.zv_command.specs.declared.reader.TheConstants.{MAX_INPUT}
use Rattle.zv_frozen.specs.Faults.{frozen_fault}
use Rattle.zv_frozen.specs.Keys.{IsKeyOf, is_key}
use Rattle.zv_frozen.specs.Tables.{IsFrozen, IsReadAs, IsSound, thawed, triples_of, value_of}

-- bytes are parsed as a frozen image, which has for each pair of texts what a map has, and thaws to
-- the map
pub record AnswersAs (m : Rows) (bytes : List ℕ) : Type 0 where
  pub parsed : frozen_fault bytes ≡ None
  pub found : (t : Table) → IsReadAs bytes t → (k0 k1 : Bytes) →
      value_of t k0 k1 ≡ find by_bytes by_bytes m k0 k1
  pub thaws : (t : Table) → IsReadAs bytes t → thawed t ≡ m

-- bytes pass the test of a key exactly where they are the key of two texts
abbrev pub KeyTested : Type 0
KeyTested = (key : Bytes) → IsBytes key →
    (is_key key ≡ true) ↔ ((k0 : Bytes) × (k1 : Bytes) × IsKeyOf key k0 k1)

-- the key of two texts is that of no others
abbrev pub KeyOfOnePair : Type 0
KeyOfOnePair = (key j0 j1 k0 k1 : Bytes) → IsKeyOf key j0 j1 → IsKeyOf key k0 k1 →
    (j0 ≡ k0) × (j1 ≡ k1)

-- the frozen image of a map depends on its pairs alone
abbrev pub OneFrozen : Type 0
OneFrozen = (m : Rows) (bytes other : List ℕ) → IsFrozen m bytes → IsFrozen m other → bytes ≡ other

-- a map that is thawed has for each pair of texts what the frozen image has
abbrev pub ThawedAlike : Type 0
ThawedAlike = (t : Table) → length t.values ≡ length t.keys → IsSound t → (k0 k1 : Bytes) →
    find by_bytes by_bytes (thawed t) k0 k1 ≡ value_of t k0 k1

-- where a frozen image is no longer than an input may be, none of its pairs is refused as it thaws,
-- neither as too large nor as one too many
abbrev pub NeverRefused : Type 0
NeverRefused = (bytes : List ℕ) (t : Table) → length bytes ≤ MAX_INPUT →
    frozen_fault bytes ≡ None → IsReadAs bytes t →
    first_refusal texts_rule by_bytes by_bytes [] (triples_of t) ≡ None
