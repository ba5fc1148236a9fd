-- What several proofs cite, passed on from one place. Declares nothing.
pub use Rattle.std.proofs.Common.{◌&&◌, ◌*◌, ◌++◌, ◌+◌, ◌-◌, ◌<◌, ◌==◌, ◌^◌, ◌∙◌, ◌∷◌, ◌≡◌, ◌≤◌, ◌⊎◌, Bool, Equal, IfSome, Less, List, None, Option, Ordering}
pub use Rattle.std.proofs.Common.{Some, [], ap, append-nil, append_assoc, arith, drop, false, get_or, inl, inr, is_none, length, length-append, length-drop}
pub use Rattle.std.proofs.Common.{length-take, map, nat_lt, not, option_map, refl, rules, slice_range, subst, suc, sum_by, sym, take, true, zero, zip, ℕ}
pub use Rattle.std.proofs.lemmas.Bool.{and_parts, cases_Bool, cases_eq, cases_lt, cond_both, false_from_ne_true, lt-ltb, ltb-false, ltb-true}
pub use Rattle.std.proofs.lemmas.Bool.Decides.{Decides-and, Decides-below_or, Decides-eqb, Decides-like, nat_tests, same_from_decides}
pub use Rattle.std.proofs.lemmas.Cmp.{eq_by_cmp_equiv, nat_list_cmp_total, tied_itself}
pub use Rattle.std.proofs.lemmas.List.{get_or_default, length-map, map-append}
pub use Rattle.std.proofs.lemmas.List.Elements.{All-contains, All-from_get_or, All-from_recursion, All-nil, Contains-append_right, Contains-get_or}
pub use Rattle.std.proofs.lemmas.List.Elements.{recursion_from_All}
pub use Rattle.std.proofs.lemmas.List.Sums.{sum_by-cons}
pub use Rattle.std.proofs.lemmas.Map.{lookup-none}
pub use Rattle.std.proofs.lemmas.Map.Entries.{length-keys_of, none_past_head}
pub use Rattle.std.proofs.lemmas.Map.Keys.{IsDistinct-from_apart, IsDistinct-tail, Less-from_sorted, sorted_head, sorted_tail}
pub use Rattle.std.proofs.lemmas.Map.Lookups.{exact_bytes}
pub use Rattle.std.proofs.lemmas.Slice.Zip.{firsts-zip, seconds-zip}
pub use Rattle.std.specs.BTreeMap.{is_at}
pub use Rattle.std.specs.Bool.{Decides}
pub use Rattle.std.specs.Cmp.Lexicographic.{on_texts, slice_cmp}
pub use Rattle.std.specs.List.{All, AllByRecursion, IsDistinct}
pub use Rattle.std.specs.Option.{option_map_or}
pub use Rattle.std.specs.Ordering.{eq_by_cmp, is_eq, nat_cmp, ordering_then}
pub use Rattle.std.specs.Prelude.{IsPermutation, if◌then◌else◌, option_and_then}
pub use Rattle.zv_command.proofs.Telling.{tells_sent}
pub use Rattle.zv_framed.specs.Faults.{table_fault}
pub use Rattle.zv_framed.specs.Frames.{form_fault, parts_in}
pub use Rattle.zv_framed.specs.Read.{IsReadTable, IsSameTable}
pub use Rattle.zv_framed.specs.declared.error.FormError.{FormError}
pub use Rattle.zv_frozen.specs.Faults.{IsNotFrozen, are_home, first_no_key, frame_error, frame_fault, freeze_error, frozen_fault, is_slot, keys_fault}
pub use Rattle.zv_frozen.specs.Faults.{parts_fault}
pub use Rattle.zv_frozen.specs.Keys.{IsKey, IsKeyOf, first_len, is_key, key_hashed, key_order, pair_key, read_bytes, text0, text1}
pub use Rattle.zv_frozen.specs.Laws.{AnswersAs, NeverRefused, OneFrozen}
pub use Rattle.zv_frozen.specs.Tables.{AreKeys, AreSized, AreSizedTriples, IsFrozen, IsReadAs, IsSound, IsTableFor, entries, entry, fit16, list16, split}
pub use Rattle.zv_frozen.specs.Tables.{table_bytes, thawed, triples_of, value_of}
pub use Rattle.zv_hash.specs.Placement.{Chosen, displacement}
pub use Rattle.zv_hashmap.specs.Building.{AreApartBelow, IsNoTable}
pub use Rattle.zv_hashmap.specs.Table.{AreHome, Table, found, pairs_of, slot_of_hash, slot_of_key}
pub use Rattle.zv_image.proofs.Faults.{told}
pub use Rattle.zv_map.specs.Iters.{left_of}
pub use Rattle.zv_map.specs.Maps.{keys_of, look_up, values_of}
pub use Rattle.zv_map.specs.Views.{list_of}
pub use Rattle.zv_map2d.proofs.Common.{IsBytes, drop-drop, ext_get_or, find, get_or-map, le, map-id, nth, slice_index, take-append-drop, written}
pub use Rattle.zv_map2d.proofs.Well.{none_well, put_well}
pub use Rattle.zv_map2d.specs.Appending.{Triple, first_refusal, last_given, put_all}
pub use Rattle.zv_map2d.specs.Fits.{texts_rule}
pub use Rattle.zv_map2d.specs.Image.{by_bytes, bytes_fault, canon}
pub use Rattle.zv_map2d.specs.Keys.{Bytes}
pub use Rattle.zv_map2d.specs.RowIters.{rows_left}
pub use Rattle.zv_map2d.specs.Rows.{IsRow, IsWell, Rows, put, seconds}
pub use Rattle.zv_map2d.specs.declared.error.Map2dError.{Map2dError}
pub use Rattle.zv_map2d_laws.proofs.FiniteMap.{keeps_last}
pub use Rattle.zv_map2d_laws.proofs.Kept.{fits_alike}
pub use Rattle.zv_map2d_laws.proofs.Laid.{found_same, over_none, puts_in_order}
pub use Rattle.zv_map2d_laws.proofs.Sizes.{put_grows, small_fits}
pub use Rattle.zv_map2d_laws.specs.Overlays.{row_triples, triples}
pub use Rattle.zv_map2d_laws.specs.Sizes.{added_size, wide_size}
pub use Rattle.zv_owned.proofs.Sizes.{size_total}
pub use Rattle.zv_owned.specs.Size.{takes_insert, takes_pushes}
