-- The names that several proofs cite, passed on from one place. Declares nothing.
pub use Rattle.std.proofs.Common.{◌≡◌, ℕ, ◌<◌, ◌^◌, Bool, true, List, [], length, map, take, Some, Result, Err}
pub use Rattle.std.proofs.Common.{refl, sym, arith}
pub use Rattle.std.proofs.lemmas.List.{get_or-map, length-map}
pub use Rattle.std.proofs.lemmas.List.Sorted.{IsPermutation-map}
pub use Rattle.std.specs.Cmp.{IsTotalOrder}
pub use Rattle.std.specs.List.{range_with_len}
pub use Rattle.std.specs.Prelude.{IfErr, IfSome, IsPermutation}
pub use Rattle.std.specs.declared.cmp.Ordering.{Ordering}
pub use Rattle.std.specs.declared.cmp.Ordering.TheVariants.{Equal}
pub use Rattle.zv_hashmap.specs.Building.{AreApartBelow, hashes_of}
pub use Rattle.zv_hashmap.specs.Hashed.{key_hash}
pub use Rattle.zv_hashmap.specs.Table.{AreHome, Table, pairs_of, slot_of_key}
pub use Rattle.zv_map.specs.Keys.{Bytes, nth}
pub use Rattle.zv_map.specs.Maps.{keys_of, values_of}
pub use Rattle.zv_map.specs.Permuted.{permuted}
pub use Rattle.zv_map.specs.Views.{list_of}
pub use Rattle.zv_ule.specs.Bytes.{IsBytes}
