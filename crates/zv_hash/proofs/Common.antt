-- The names that several proofs cite, passed on from one place. Declares nothing.
pub use Rattle.std.proofs.Common.{length, ◌≡◌, arith, ℕ, ◌<◌, ◌≤◌, ◌∙◌, get_or, sym, ◌+◌, List, inl, inr, refl, ◌-◌, ◌==◌, ap, cond, get_or-set_other}
pub use Rattle.std.proofs.Common.{get_or-set_same, length-set, suc, zero, ◌⊎◌, [], replicate, set, ◌%◌, ◌&&◌, ◌^◌, ◌↔◌, Bool, add-one, count_by, append-nil}
pub use Rattle.std.proofs.Common.{false, length-append, max, nat_eq, slice_index, subst, take, true, ◌*◌, ◌++◌, ◌/◌, ◌∷◌}
pub use Rattle.std.proofs.lemmas.Bool.{cases_eq, ne_eqb, cases_Bool, eq-eqb, eqb-true}
pub use Rattle.std.proofs.lemmas.Grind.{common_steps, get_or-set_at}
pub use Rattle.std.proofs.lemmas.List.{get_or-replicate, length-replicate, get_or_default, map-id, nil_from_length}
pub use Rattle.std.proofs.lemmas.List.Sums.{count_by-le-length, get_or-le-sum_by, sum_by-le}
pub use Rattle.zv_hash.specs.Chains.{AreChains, FitsFree}
pub use Rattle.zv_hash.specs.Filling.{Filled, IsDone}
pub use Rattle.zv_hash.specs.Placement.{bucket_at, IsMember, sent_to, size, IsBefore, IsCandidate, displacement, slot_at, Chosen, Fits, IsChoice, IsEarlier}
pub use Rattle.zv_hash.specs.Placement.{IsStuck, Placed}
pub use Rattle.zv_hash.specs.Splitting.{bucket_of}
