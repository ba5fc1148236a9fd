-- The names that several proofs cite, passed on from one place. Declares nothing.
pub use Rattle.std.proofs.Common.{[], ◌*◌, ◌++◌, ◌+◌, ◌-◌, ◌<◌, ◌^◌, ◌∙◌, ◌∷◌, ◌≡◌, ◌≤◌, Bool, List, None, Option, Some, add-one, ap, append_assoc, arith, drop}
pub use Rattle.std.proofs.Common.{get_or, length, length-append, length-drop, map, max, refl, rules, set, slice_index_or, suc, sym, take, true, zero, ℕ}
pub use Rattle.std.proofs.Math.Nat.{mul-add, mul-zero}
pub use Rattle.std.proofs.lemmas.Grind.{flat_map-append}
pub use Rattle.std.proofs.lemmas.List.{append-nil, drop-drop, drop_at, length-map, length-take-le, take-append-drop, take-append-le, take_at}
pub use Rattle.std.proofs.lemmas.List.Elements.{All-from_recursion}
pub use Rattle.std.proofs.lemmas.List.Folds.{concat-append}
pub use Rattle.std.specs.List.{AllByRecursion, concat, flat_map, remove, splice}
pub use Rattle.std.specs.Option.{option_map, option_to_list}
pub use Rattle.zv_ule.proofs.Fields.{length-le}
pub use Rattle.zv_ule.specs.Bytes.{le}
pub use Rattle.zv_var.proofs.Encoding.{from_codable, length-starts_from}
pub use Rattle.zv_var.proofs.Fields.{length-flat_map-le}
pub use Rattle.zv_var.proofs.Read.{Part_from_fault}
pub use Rattle.zv_var.specs.Format.{Part, codable, elements, enc, starts, starts_from}
pub use Rattle.zv_var.specs.Laws.{AreValid}
pub use Rattle.zv_var.specs.Views.{list_of}
pub use Rattle.zv_owned.specs.Gaps.{IsRegapped}
pub use Rattle.zv_owned.specs.Size.{max_of, size, takes_insert}
pub use Rattle.zv_owned.specs.Splices.{CanShift, IsEdit, count_after, new_bytes, shifted}
pub use Rattle.zv_owned.specs.declared.writes.Edit.{Edit}
