-- What is hashed for keys.
use Rattle.std.specs.Prelude.{ℕ, List, [], ◌∷◌, ◌++◌}
use Rattle.zv_xxhash.specs.Digest.{xxh64}
use Rattle.zv_xxhash.specs.Held.{Holds}
use Rattle.zv_xxhash.specs.declared.hasher.XxHash64.{XxHash64}

-- from one state of a hasher to another these bytes were written
abbrev pub Writes : XxHash64 → XxHash64 → List ℕ → Type 0
Writes before after bytes = (seed : ℕ) (written : List ℕ) → Holds before seed written
    → Holds after seed (written ++ bytes)

-- the hash of a key for which a kind's elements are hashed as `hashed` says
abbrev pub key_hash : (List ℕ → List ℕ) → List ℕ → ℕ
key_hash hashed key = xxh64 0xAABBCCDD (hashed key)

-- what is hashed for a text: its bytes, and 0xFF behind them
abbrev pub hashed_text : List ℕ → List ℕ
hashed_text text = text ++ 0xFF ∷ []

-- what is hashed for a tuple: its parts in turn
abbrev pub hashed_two : {A B : Type 0} → (A → List ℕ) → (B → List ℕ) → A × B → List ℕ
hashed_two hash0 hash1 v =
    hash0 v.0 ++ hash1 v.1

abbrev pub hashed_three : {A B C : Type 0} → (A → List ℕ) → (B → List ℕ) → (C → List ℕ) →
    A × B × C → List ℕ
hashed_three hash0 hash1 hash2 v =
    hash0 v.0 ++ (hash1 v.1 ++ hash2 v.2)

abbrev pub hashed_four : {A B C D : Type 0} → (A → List ℕ) → (B → List ℕ) → (C → List ℕ) →
    (D → List ℕ) → A × B × C × D → List ℕ
hashed_four hash0 hash1 hash2 hash3 v =
    hash0 v.0 ++ (hash1 v.1 ++ (hash2 v.2 ++ hash3 v.3))

abbrev pub hashed_five : {A B C D E : Type 0} → (A → List ℕ) → (B → List ℕ) → (C → List ℕ) →
    (D → List ℕ) → (E → List ℕ) → A × B × C × D × E → List ℕ
hashed_five hash0 hash1 hash2 hash3 hash4 v =
    hash0 v.0 ++ (hash1 v.1 ++ (hash2 v.2 ++ (hash3 v.3 ++ hash4 v.4)))

abbrev pub hashed_six : {A B C D E F : Type 0} → (A → List ℕ) → (B → List ℕ) → (C → List ℕ) →
    (D → List ℕ) → (E → List ℕ) → (F → List ℕ) → A × B × C × D × E × F → List ℕ
hashed_six hash0 hash1 hash2 hash3 hash4 hash5 v =
    hash0 v.0 ++ (hash1 v.1 ++ (hash2 v.2 ++ (hash3 v.3 ++ (hash4 v.4 ++ hash5 v.5))))
