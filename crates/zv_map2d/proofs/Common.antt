-- The names that most proofs cite, passed on from one place. Declares nothing.
pub use Rattle.std.proofs.Common.{◌≡◌, ◌⊎◌, inl, inr, ℕ, suc, ◌+◌, ◌-◌, ◌<◌, ◌≤◌, Bool, List, [], length, get_or, slice_index, take, Result, refl, sym, ◌∙◌, ap}
pub use Rattle.std.proofs.Common.{subst, arith, zero-add, ◌∷◌, drop, length-append, length-drop, length-take, Some, true, ◌++◌, None, map, Option, Ok, Err}
pub use Rattle.std.proofs.Common.{option_map, OnOk, OnErr, ◌^◌, zero, ◌&&◌, false, IfErr, is_some, is_none, set, add-suc, ◌==◌, rules, IfSome, slice_range, zip}
pub use Rattle.std.proofs.Common.{length-take-le, append_assoc}
pub use Rattle.std.proofs.lemmas.List.{length-map, take-append-drop, take-take, take_all, drop-map, drop_all, take-map, drop-drop, drop_at, map-append, map-id}
pub use Rattle.std.proofs.lemmas.List.{take_at, append-nil, nil_from_length, ext_get_or, drop_more, take-append-le, drop-append-le, length-set, set_split}
pub use Rattle.std.proofs.lemmas.List.{length_push, get_or-map}
pub use Rattle.std.proofs.lemmas.Option.{slice_get-get_or, same_Some, option_and_then_some}
pub use Rattle.std.specs.Cmp.{IsTotalOrder}
pub use Rattle.std.specs.List.{AllByRecursion, flat_map, insert, remove, slice_get, list_all, splice}
pub use Rattle.std.specs.List.Sorted.{IsStrictlySortedBy}
pub use Rattle.std.specs.declared.cmp.Ordering.{Ordering}
pub use Rattle.std.specs.declared.cmp.Ordering.TheVariants.{Equal, Greater}
pub use Rattle.zv_ule.specs.Bytes.{IsBytes, le, number}
pub use Rattle.zv_ule.specs.Search.{compared, Found, IsGap, ComesToEqual, answer_at, AtMostDigits}
pub use Rattle.zv_fixed.specs.Iters.{left_of}
pub use Rattle.zv_var.specs.Format.{pieces, elements, list_fault, Part}
pub use Rattle.zv_map.proofs.Places.{compared_range, placed, IsMap-insert_entry, IsMap-without_key, values_with, values_without, at_within, look_up_at}
pub use Rattle.zv_map.proofs.Places.{gap_within, look_up_gap, rank_at, insert_entry_at, insert_entry_gap, without_key_at, without_key_gap, entry_at, entry_gap}
pub use Rattle.zv_map.specs.Maps.{IsAt, IsMap, keys_of, values_of, look_up, insert_entry, set_value_at, without_key}
pub use Rattle.zv_map2d.specs.Appending.{last_key, Triple, first_refusal, is_above_key, put_all, written}
pub use Rattle.zv_map2d.specs.Borrowed.{rows_in}
pub use Rattle.zv_map2d.specs.Causes.{last_ascending, Lists, keys_ascend, lists_fault, joiner_fault, numbers, lists_read, read_fault, rows_read}
pub use Rattle.zv_map2d.specs.Fits.{Rule, fits, fits_by, if_found, rule_of}
pub use Rattle.zv_map2d.specs.Keys.{Bytes, Order, nth, ascends}
pub use Rattle.zv_map2d.specs.Places.{IsPlace, del_at, find_at, fits_at, is_pair, put_at}
pub use Rattle.zv_map2d.specs.Predicates.{FoundBy, IsPicked}
pub use Rattle.zv_map2d.specs.Rows.{Rows, firsts, seconds, values, ends, IsFlat, IsRow, IsWell, before, row_at, rows_of, ends_from, row, put, with_row, del}
pub use Rattle.zv_map2d.specs.Rows.{size, find, shift_from}
pub use Rattle.zv_map2d.specs.Views.{AreColumns, Map2d, Row, Vector, row_seen, parts_of, rows_seen, bytes_of}
pub use Rattle.zv_map2d.specs.declared.place.Place.TheVariants.{InRow, NewRow, Pair}
