-- The names that several proofs cite, passed on from one place. Declares nothing.
pub use Rattle.std.proofs.Common.{◌≡◌, rules, ap, ◌∙◌, ℕ, List, ◌++◌, sym, arith, refl, length, [], ◌+◌, ◌∷◌, Some, take, Ok, ◌≤◌, true, None, Err, Option}
pub use Rattle.std.proofs.Common.{drop, Result, false, subst, ◌-◌, ◌<◌, append_assoc, codes, ◌==◌, ◌*◌, append-nil, take_all, length-take, slice_index}
pub use Rattle.std.proofs.Common.{replicate, get_or, length-append, add-one, slice_set, eq-eqb}
pub use Rattle.std.proofs.Math.Seq.{split_at, take-length}
pub use Rattle.std.proofs.lemmas.Bool.{eqb-true, false_from_ne_true}
pub use Rattle.std.proofs.lemmas.List.{take_rest, get_or-take}
pub use Rattle.std.proofs.lemmas.List.Elements.{All-from_get_or, All-append, All-nil}
pub use Rattle.std.proofs.lemmas.List.Splits.{slice_split_at, slice_split_none, length-slice_split}
pub use Rattle.std.proofs.lemmas.List.Sums.{sum_by-cons, sum_by_push}
pub use Rattle.std.specs.List.{onto_first, slice_split, AllByRecursion}
pub use Rattle.std.specs.Option.{option_and_then}
pub use Rattle.std.specs.Prelude.{IfSome, IfOk, map, unwrap_or, sum_by}
pub use Rattle.std.specs.Result.{result_ok}
pub use Rattle.hex.proofs.HexLemmas.{decode_of-ok}
pub use Rattle.memchr.specs.Find.{is_byte}
pub use Rattle.zv_input.specs.Commands.{total_size, command_size, OfTexts}
pub use Rattle.zv_input.specs.Digits.{bytes_of_digits, ◌>>=◌, content_of}
pub use Rattle.zv_input.specs.Input.{lines, words, command_of_words, field, key, without_empty_last, row, two_keys, put}
pub use Rattle.zv_input.specs.Words.{Lacks, first_of, words_after, after_mark, first_keys, if_last}
pub use Rattle.zv_input.specs.Sizes.{put_sizes, sizes_of, total_of, all_puts}
pub use Rattle.zv_input.specs.declared.command.Command.{Command}
pub use Rattle.zv_input.specs.declared.command.Command.TheVariants.{Get, Put, Del, Row}
