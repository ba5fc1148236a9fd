-- Bytes that are written to a hasher one after another.
use Rattle.std.proofs.Common.{ℕ, List, ◌++◌, subst, append_assoc}
use Rattle.zv_xxhash.specs.Held.{Holds}
use Rattle.zv_xxhash.specs.declared.hasher.XxHash64.{XxHash64}
use Rattle.zv_hashmap.specs.Hashed.{Writes}

pub then_written : (a b c : XxHash64) (x y : List ℕ) → Writes a b x → Writes b c y → Writes a c (x ++ y)
then_written a b c x y first second seed written held =
    subst (λ l. Holds c seed l) (append_assoc written x y) (second seed (written ++ x) (first seed written held))
