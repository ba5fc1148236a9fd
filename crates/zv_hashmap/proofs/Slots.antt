-- The bucket and the slot that a hash leads to are the table's.
use Rattle.zv_hashmap.proofs.Common.{ℕ, ◌<◌, List, arith, IfSome}
use Rattle.zv_hashmap.specs.Table.{slot_of_hash}
use Rattle.std.proofs.lemmas.Bool.Decides.{nat_tests}
use Rattle.std.proofs.lemmas.Nat.{mod_below}
use Rattle.zv_hash.specs.Splitting.{bucket_of, slot_of}

pub bucket_below : (n hash : ℕ) → 0 < n → bucket_of n hash < n
unfolding bucket_of
bucket_below n hash some = mod_below _ n some

pub slot_below : (ds : List (ℕ × ℕ)) (n hash : ℕ) → IfSome (slot_of_hash ds n hash) (λ s. s < n)
unfolding slot_of
slot_below ds n hash = grind (arith, nat_tests, mod_below)
