-- Keys whose hashes differ are not Equal.
use Rattle.zv_hashmap.proofs.Common.{◌≡◌, ℕ, List, length, arith, get_or-map, Ordering, Bytes, nth, AreApartBelow, hashes_of}
use Rattle.std.proofs.Common.{◌≤◌}
use Rattle.zv_hash.specs.Repeats.{AreDistinctBelow}
use Rattle.zv_hashmap.proofs.Lookups.{AreHashedAlike}

pub apart_if : (order : Bytes → Bytes → Ordering) (hashed : List ℕ → List ℕ) → AreHashedAlike order hashed → (ks : List Bytes) (n : ℕ) → n ≤ length ks
    → AreDistinctBelow (hashes_of hashed ks) n → AreApartBelow order ks n
apart_if order hashed alike ks n within distinct i j less below equal =
    let same : hashed (nth ks i) ≡ hashed (nth ks j) = alike (nth ks i) (nth ks j) equal in
    grind (arith, get_or-map, distinct i j less below)
