-- The names that most proofs cite, passed on from one place. Declares nothing.
pub use Rattle.std.proofs.Common.{sym, ◌∙◌, ap, arith, List, refl, length, ◌≡◌, subst, ℕ, Bool, [], Some, Ok, Err, Option, ◌<◌, ◌∷◌, true, drop, Result, map}
pub use Rattle.std.proofs.Common.{cond, ◌++◌, false, IfErr, OnErr, is_ok, is_some, zero, suc, ◌≤◌, set, zip, ◌-◌, reverse, append_assoc, rules, None}
pub use Rattle.std.proofs.lemmas.Cmp.{tied_itself, eq_by_cmp_equiv}
pub use Rattle.std.proofs.lemmas.List.{length-map, length-set, append-nil, reverse-append}
pub use Rattle.std.proofs.lemmas.List.Edits.{length-insert, length-remove, insert_end}
pub use Rattle.std.proofs.lemmas.Option.{slice_get-get_or}
pub use Rattle.std.proofs.lemmas.Slice.Zip.{firsts-zip, seconds-zip, length-zip}
pub use Rattle.std.specs.Cmp.{IsTotalOrder}
pub use Rattle.std.specs.Fn.{Mut, ComputesKey}
pub use Rattle.std.specs.List.{insert, remove}
pub use Rattle.std.specs.List.Sorted.{IsSearchInRange}
unfoldable pub use Rattle.std.specs.List.Sorted.{IsStrictlySortedBy}
pub use Rattle.std.specs.Ordering.{is_gt, is_lt, is_eq, ordering_index}
pub use Rattle.std.specs.Result.{MatchResult}
pub use Rattle.std.specs.declared.cmp.Ordering.{Ordering}
pub use Rattle.std.specs.declared.cmp.Ordering.TheVariants.{Less, Equal, Greater}
pub use Rattle.zv_ule.specs.Search.{compared, IsGap, Found, AnsweredEqual, answer_at}
pub use Rattle.zv_ule.specs.declared.kind.ZvKind.{Ghosts as KindGhosts}
pub use Rattle.zv_ule.specs.declared.kind.ZvOrd.{Ghosts as OrdGhosts}
pub use Rattle.zv_ule.proofs.Ascents.{compared_at, sorted_rises}
pub use Rattle.zv_map.proofs.Places.{look_up_gap, look_up_at, IsMap-insert_entry, IsMap-without_key, insert_entry_gap, without_key_at, placed, at_within}
pub use Rattle.zv_map.proofs.Places.{insert_entry_at, rank_at, own_place, look_up-insert_entry, look_up-without_key, maps_alike, gap_within, without_key_gap}
pub use Rattle.zv_map.proofs.Ranges.{range_all}
pub use Rattle.zv_map.specs.Maps.{IsAt}
pub use Rattle.zv_map.specs.Views.{list_of}
pub use Rattle.zv_map.specs.declared.error.MapError.{MapError}
pub use Rattle.zv_map.specs.declared.error.MapError.TheVariants.{TooLarge, Memory}
pub use Rattle.zv_map1.specs.Appends.{appended, is_above}
pub use Rattle.zv_map1.specs.Borrowed.{pairs_of}
pub use Rattle.zv_map1.specs.Building.{all_fit, written, insert_all}
pub use Rattle.zv_map1.specs.Fits.{rule_of}
pub use Rattle.zv_map1.specs.Laws.{InsertIsFound}
pub use Rattle.zv_map1.specs.Outcomes.{IsLeftBy}
pub use Rattle.zv_map1.specs.Room.{IsSameMap}
pub use Rattle.zv_map1.specs.Searches.{IsFoundBy, value_found}
pub use Rattle.zv_map1.specs.Views.{Bytes, Map1, Pairs, insert_entry, nth, IsMap, Order, keys_of, look_up, values_of, IsElementOf, AreColumns, Vector}
pub use Rattle.zv_map1.specs.declared.borrowed.ZeroMapBorrowed.{ZeroMapBorrowed}
pub use denote.Ref.{Bor}
