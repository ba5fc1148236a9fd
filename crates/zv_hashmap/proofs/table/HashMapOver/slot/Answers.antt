use Rattle.zv_hashmap.proofs.Common.{arith, length, refl, sym, ℕ}
use Rattle.std.proofs.Common.{ap}
use Rattle.std.proofs.lemmas.Option.{get_or_from_slice_get}
use Rattle.zv_hashmap.proofs.Slots.{bucket_below, slot_below}
use Rattle.zv_hashmap.proofs.table.HashMapOver.slot.Goals as goal

pub at-requires : goal.at-requires
at-requires g c =
    let within = bucket_below c.zvl_len-count.result c.args.hash (omega (arith, c.if-count-eq0.false)) in
    omega (arith, ap (λ (t : ℕ × ℕ × ℕ). t.0) c.split_hash64-bucket.ensures, within, c.zvl_len-count.ensures, c.self.invariant.displacement_count)

pub returns-clause-slot : goal.returns-clause-slot
returns-clause-slot g c =
    let read = rw c.split_hash64-bucket.ensures at c.at.ensures.read in
    let d = sym (get_or_from_slice_get c.self.inside.displacements.values _ c.at.result (0, 0) read) in
    rw (← c.self.view_is, ← c.zvl_len-count.ensures, c.compute_index.ensures, c.split_hash64-bucket.ensures, d) refl

pub returns-clause-within : goal.returns-clause-within
returns-clause-within g c = rw (returns-clause-slot g c) (slot_below c.args.self.now.displacements (length c.args.self.now.keys) c.args.hash)
