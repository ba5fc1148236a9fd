-- The names that several proofs cite, passed on from one place. Declares nothing.
pub use Rattle.std.proofs.Common.{◌≡◌, rules, ap, ◌∙◌, ℕ, List, ◌++◌, sym, arith, refl, length, [], ◌+◌, ◌∷◌, Some, take, Ok, ◌≤◌, true, None, Err, Option}
pub use Rattle.std.proofs.Common.{drop, Result, Bool, false, subst, inl, inr, ◌<◌, suc, codes, append-nil, take_all, zero, replicate, get_or, OnErr, OnOk}
pub use Rattle.std.proofs.lemmas.List.{drop_more, append_cancel_right, append_cancel_left, drop_all}
pub use Rattle.std.specs.List.{flat_map, AllByRecursion}
pub use Rattle.std.specs.Option.{option_map_or}
pub use Rattle.std.specs.Prelude.{if◌then◌else◌, map}
pub use Rattle.hex.proofs.HexLemmas.{decode_of-same, decode_of-encode_lower}
pub use Rattle.hex.specs.Hex.{encode_lower, decode_of}
pub use Rattle.zv_map.specs.Iters.{left_of}
pub use Rattle.zv_map2d.specs.Fits.{fits_texts}
pub use Rattle.zv_map2d.specs.Frame.{frame}
pub use Rattle.zv_map2d.specs.Image.{by_bytes, canon, fault, Stands, IsTextMap}
pub use Rattle.zv_map2d.specs.Rows.{Rows, find, ends}
pub use Rattle.zv_map2d.specs.Views.{bytes_of, Map2d}
pub use Rattle.zv_map2d_laws.proofs.Kept.{put_texts, put_codable, del_texts, del_codable, same_canon, canon_again}
pub use Rattle.zv_devices.specs.Devices.{CutShort, Rose, Written, Takes}
pub use Rattle.zv_input.specs.Commands.{OfTexts, command_size}
pub use Rattle.zv_input.specs.Sizes.{put_sizes, sizes_of, all_puts}
pub use Rattle.zv_input.specs.declared.command.Command.{Command}
pub use Rattle.zv_input.specs.declared.command.Command.TheVariants.{Get, Put, Del, Row}
pub use Rattle.zv_command.specs.declared.status.Status.TheVariants.{Done}
pub use Rattle.zv_image.specs.Room.{HasRoomOf, SpendsOf}
pub use Rattle.zv_image.specs.Text.{image_line}
pub use Rattle.zv_edit.specs.Answers.{last, reply_lines, next, answers, IsAnswer, reply, replies}
pub use Rattle.zv_edit.specs.Laws.{LeftStands, SameEdits, WrittenBack, KeysAreTexts, NeverTooLarge}
pub use Rattle.zv_edit.specs.Output.{text, missing, added, old, too_large, pair_text, some, pairs, found_line, Reply}
pub use Rattle.zv_edit.specs.Requests.{IsLooked, with_command}
