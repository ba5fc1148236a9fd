-- The names that several proofs cite, passed on from one place. Declares nothing.
pub use Rattle.std.proofs.Common.{◌≡◌, length, sym, ◌∙◌, arith, ap, ◌≤◌, ◌<◌, List, ℕ, ◌-◌, ◌∷◌, [], ◌+◌, drop, take, None, refl, ◌*◌, map, slice_range, ◌%◌}
pub use Rattle.std.proofs.Common.{◌/◌, Option, get_or, ◌&&◌, Bool, Some, length-drop, subst, suc, is_none, true, zero, ◌++◌, add-one, drop-drop, false, ◌^◌}
pub use Rattle.std.proofs.Math.Nat.{suc-mul}
pub use Rattle.std.proofs.lemmas.Bool.Decides.{nat_tests}
pub use Rattle.std.proofs.lemmas.Grind.{common_steps}
pub use Rattle.std.proofs.lemmas.List.{take_more}
pub use Rattle.std.proofs.lemmas.List.Edits.{get_or-between}
pub use Rattle.std.proofs.lemmas.Map.Lookups.{exact_bytes}
pub use Rattle.std.proofs.lemmas.Nat.{mul-le}
pub use Rattle.std.proofs.lemmas.Result.{err_from_is_err_and}
pub use Rattle.std.specs.Bool.{IsTrue}
pub use Rattle.std.specs.Cmp.{nat_cmp_is}
pub use Rattle.std.specs.Cmp.Lexicographic.{slice_cmp}
pub use Rattle.std.specs.Fn.{ComputesKey}
pub use Rattle.std.specs.List.{AllByRecursion}
pub use Rattle.std.specs.Ordering.{nat_cmp, ordering_then, is_lt}
pub use Rattle.std.specs.Prelude.{flat_map}
pub use Rattle.std.specs.Result.{result_err}
pub use Rattle.std.specs.Str.{IsUtf8}
pub use Rattle.std.specs.declared.cmp.Ordering.{Ordering}
pub use Rattle.std.specs.declared.cmp.Ordering.TheVariants.{Equal, Greater, Less}
pub use Rattle.zv_ule.specs.Bytes.{IsBytes}
pub use Rattle.zv_ule.specs.Chunks.{first_fault, chunks_of, chunks_fault, chunks, values_of, or_fault}
pub use Rattle.zv_ule.specs.Fixed.{IsChunk, IsSpelling}
pub use Rattle.zv_ule.specs.Kinds.{text_fault}
pub use Rattle.zv_ule.specs.Niches.{niche_fault}
pub use Rattle.zv_ule.specs.Search.{Bytes, nth, Rises, answer_at, ascends}
pub use Rattle.zv_ule.specs.declared.error.TyName.{TyName}
pub use Rattle.zv_ule.specs.declared.error.UleError.{UleError}
