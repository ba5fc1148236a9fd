-- The names that several proofs cite, passed on from one place. Declares nothing.
pub use Rattle.std.proofs.Common.{◌&&◌, ◌*◌, ◌++◌, ◌+◌, ◌-◌, ◌<◌, ◌^◌, ◌∙◌, ◌∷◌, ◌≡◌, ◌≤◌, ◌⊎◌, All, Bool, Equal, Err, Global, Greater, IfErr, IfSome, IsErrAnd}
pub use Rattle.std.proofs.Common.{Less, List, MatchOption, None, Ok, Option, Ordering, Result, Some, Vec, [], ap, append-nil, append_assoc, arith, codes, drop}
pub use Rattle.std.proofs.Common.{false, get_or, if◌then◌else◌, inl, inr, insert, is_none, length, length-append, map, not, refl, replicate, rules, subst, suc}
pub use Rattle.std.proofs.Common.{sum_by, sym, take, true, unwrap_or, zero, ℕ}
pub use Rattle.std.proofs.lemmas.Cmp.{tied_itself}
pub use Rattle.std.proofs.lemmas.List.{drop_all, drop_more, length-map, map-append}
pub use Rattle.std.proofs.lemmas.List.Sums.{sum_by-cons, sum_by-insert, sum_by_push}
pub use Rattle.std.proofs.lemmas.Map.Lookups.{exact_bytes}
pub use Rattle.std.specs.List.{AllByRecursion}
pub use Rattle.std.specs.Prelude.{⊤}
pub use Rattle.zv_input.proofs.Fields.{field_is}
pub use Rattle.zv_layers.specs.Columns.{AreInOrder, columns_of, rows_in, with_pairs, with_row}
pub use Rattle.zv_layers.specs.Laws.{AreAccepted, NeverRefused}
pub use Rattle.zv_layers.specs.Refusals.{refusal}
pub use Rattle.zv_layers.specs.Requests.{IsLaid, IsRefusalOf, Leaves, bytes_of_all, fault_or, first_fault, laid_due, layer_line, layers_due, with_layer}
pub use Rattle.zv_layers.specs.Walks.{HoldsOf, entry_of, lengths, lists_left, next_of, pair_count, row_entry, weight_of}
pub use Rattle.zv_layers.specs.declared.walk.Next.{Next}
pub use Rattle.zv_map.specs.Iters.{left_of, pair_of}
pub use Rattle.zv_map.specs.Maps.{IsMap, insert_entry, keys_of, look_up, values_of}
pub use Rattle.zv_map2d.proofs.Well.{look_up_holds, none_well, put_well, row_ordered, values_all}
pub use Rattle.zv_map2d.specs.Appending.{Triple, first_refusal, last_given, put_all}
pub use Rattle.zv_map2d.specs.Causes.{Lists, lists_fault}
pub use Rattle.zv_map2d.specs.Image.{by_bytes}
pub use Rattle.zv_map2d.specs.Keys.{Bytes}
pub use Rattle.zv_map2d.specs.RowIters.{rows_left}
pub use Rattle.zv_map2d.specs.Rows.{IsFlat, IsRow, IsWell, Rows, before, ends, ends_from, find, firsts, put, row, seconds, values}
pub use Rattle.zv_map2d_laws.proofs.Kept.{own, place_of}
pub use Rattle.zv_map2d_laws.specs.Overlays.{IsInOrder, joined, laid_pairs, laid_rows, later, overlay, triples}
pub use Rattle.zv_owned.specs.Size.{size, takes_insert, takes_pushes}
pub use Rattle.zv_ule.specs.Views.{element_of}
