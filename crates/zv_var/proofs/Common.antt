-- The names that several proofs cite, passed on from one place. Declares nothing.
pub use Rattle.std.proofs.Common.{◌≡◌, length, ◌-◌, arith, ℕ, ◌*◌, ◌∙◌, ◌∷◌, ◌≤◌, List, [], refl, sym, ◌+◌, Option, true, ◌++◌, None, ap, drop, ◌<◌, Some, suc}
pub use Rattle.std.proofs.Common.{◌^◌, take, length-append, slice_range, zero, get_or, length-drop, map, Bool, append_assoc, inr, ◌&&◌, inl, is_some, nat_le}
pub use Rattle.std.proofs.Common.{rules, subst}
pub use Rattle.std.proofs.Math.Nat.{mul-suc, mul-zero, suc-mul}
pub use Rattle.std.proofs.lemmas.Bool.{and_parts}
pub use Rattle.std.proofs.lemmas.List.{take_at, append-nil, drop-drop, drop_at, drop_more, length-take-le, take_rest}
pub use Rattle.std.specs.Cmp.Lexicographic.{pointwise}
pub use Rattle.std.specs.List.{flat_map, AllByRecursion, concat, list_all}
pub use Rattle.zv_ule.proofs.Fields.{length-le, number-le}
pub use Rattle.zv_ule.specs.Bytes.{le, number}
pub use Rattle.zv_ule.specs.declared.error.UleError.{UleError}
pub use Rattle.zv_var.specs.Compared.{is_same}
pub use Rattle.zv_var.specs.Format.{fields, elements_fault, fault_after, list_fault, body, elements, elements_after, IsElement, Part, count, ends, fits, pieces}
pub use Rattle.zv_var.specs.Format.{starts_from, codable, starts}
pub use Rattle.zv_var.specs.Iters.{left_of}
pub use Rattle.zv_var.specs.Laws.{AreValid}
pub use Rattle.zv_var.specs.Order.{in_order}
pub use Rattle.zv_var.specs.Views.{list_of}
pub use Rattle.zv_var.specs.declared.error.VarZeroVecFormatError.{VarZeroVecFormatError}
