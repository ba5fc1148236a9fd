-- The names that several proofs cite, passed on from one place. Declares nothing.
pub use Rattle.std.proofs.Common.{◌≡◌, ℕ, zero, suc, ◌+◌, ◌<◌, ◌≤◌, true, List, [], ◌∷◌, length, refl, ◌∙◌, ap, arith, Bool, take, drop, None}
pub use Rattle.std.proofs.Common.{Err, ◌-◌, sym, slice_range, rules}
pub use Rattle.std.proofs.lemmas.Bool.Decides.{nat_tests}
pub use Rattle.std.proofs.lemmas.Grind.{common_steps}
pub use Rattle.std.proofs.lemmas.List.{length-map}
pub use Rattle.std.proofs.lemmas.Map.Keys.{Less-from_sorted}
pub use Rattle.std.specs.Cmp.{IsTotalOrder}
unfoldable pub use Rattle.std.specs.List.Sorted.{IsStrictlySortedBy}
pub use Rattle.std.specs.Ordering.{ordering_reverse}
pub use Rattle.std.specs.declared.cmp.Ordering.{Ordering}
pub use Rattle.std.specs.declared.cmp.Ordering.TheVariants.{Less, Equal}
pub use Rattle.zv_owned.specs.Size.{takes_pushes}
pub use Rattle.zv_ule.specs.Search.{Rises, compared}
pub use Rattle.zv_map.specs.Keys.{Bytes, nth}
pub use Rattle.zv_map.specs.Permuted.{permuted}
pub use Rattle.zv_map.specs.Views.{list_of}
pub use Rattle.zv_map.specs.declared.view.Layout.TheVariants.{Fixed}
