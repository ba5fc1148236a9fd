-- The names that several proofs cite, passed on from one place.
pub use Rattle.std.proofs.Common.{Bool, Bor, List, None, Option, Some, [], ap, append-nil, append_assoc, arith, codes, drop, false, get_or, length}
pub use Rattle.std.proofs.Common.{length-append, lit<, refl, rules, subst, sum_by, sym, take, tests, true, ℕ, ◌*◌, ◌++◌, ◌+◌, ◌-◌, ◌<◌, ◌==◌, ◌^◌, ◌∙◌}
pub use Rattle.std.proofs.Common.{◌∷◌, ◌≡◌, ◌≤◌}
pub use Rattle.std.proofs.lemmas.Iterator.Search.{all_from_yields_List}
pub use Rattle.std.proofs.lemmas.Iterator.Splits.{YieldsList-from_str_split}
pub use Rattle.std.proofs.lemmas.List.{drop_all, length-map, map-append, take-append-drop, drop_more}
pub use Rattle.std.proofs.lemmas.List.Elements.{All-from_get_or, All-get_or}
pub use Rattle.std.proofs.lemmas.List.Splits.{length-slice_split, slice_split-cons_no, slice_split-cons_yes, slice_split_at, slice_split_none}
pub use Rattle.std.specs.Option.{option_map_or}
pub use Rattle.std.specs.Prelude.{IfSome, MatchOption, if◌then◌else◌, map, ◌≢◌}
pub use Rattle.zv_command.proofs.Sending.{Completes, completes_last, sends_more}
pub use Rattle.zv_locale.specs.Asks.{IsAnswered, IsAsk, answers, ask_of}
pub use Rattle.zv_locale.specs.Names.{fronts, names_of, tries}
pub use Rattle.zv_locale.specs.Texts.{left}
pub use Rattle.zv_locale.specs.Wanted.{is_cut, is_locale, is_subtag, locales, subtags}
pub use Rattle.zv_map.specs.Maps.{look_up}
pub use Rattle.zv_map2d.specs.Image.{by_bytes}

-- what is sent piece by piece
pub ruleset sends_each = (sends_more, drop_more)
