-- The names that several proofs cite, passed on from one place. Declares nothing.
pub use Rattle.std.proofs.Common.{◌≡◌, rules, ap, ◌∙◌, ℕ, List, ◌++◌, sym, arith, refl, length, [], ◌+◌, ◌∷◌, Some, take, Ok, ◌≤◌, true, None, Err, Option}
pub use Rattle.std.proofs.Common.{drop, Result, Bool, false, subst, inl, inr, ◌<◌, append_assoc, codes, ◌==◌, ◌*◌, append-nil, slice_index, length-append}
pub use Rattle.std.proofs.Common.{◌⊎◌, min, ◌%◌, ◌&&◌, ◌/◌, IsOk, IsErr, OnOk}
pub use Rattle.std.proofs.KnownBytes.{Appends-trans, Appends-nil}
pub use Rattle.std.proofs.Math.Seq.{take-append-add}
pub use Rattle.std.proofs.lemmas.Bool.{eqb-true, and_parts}
pub use Rattle.std.proofs.lemmas.List.{nil_from_length, take_min, take-append-le}
pub use Rattle.std.proofs.lemmas.List.Elements.{All-nil}
pub use Rattle.std.specs.Io.KnownBytes.{Appends}
pub use Rattle.std.specs.Prelude.{IfSome, IsTrue, filter, map}
pub use Rattle.hex.proofs.Pairs.{encode_step, encode_done}
pub use Rattle.hex.specs.Hex.{encode_lower, lower_digits}
pub use Rattle.zv_devices.specs.Devices.{CutShort, Rose, Written, Takes, AppendsPrefix}
pub use Rattle.zv_input.specs.Input.{lines}
pub use Rattle.zv_input.specs.Words.{Lacks}
pub use Rattle.zv_command.specs.Due.{Due, Sent, Tells, is_answer, is_silent, is_written, code_of}
pub use Rattle.zv_command.specs.Reading.{kept_size, outcome_of, outcome_with, size_of}
pub use Rattle.zv_command.specs.Inputs.{due_or, input_due, request_of}
pub use Rattle.zv_command.specs.Runs.{Runs, Wanted, of_input, at_once}
pub use Rattle.zv_command.specs.Text.{bad_line}
pub use Rattle.zv_command.specs.declared.reader.TheConstants.{MAX_INPUT}
pub use Rattle.zv_command.specs.declared.status.Status.{Status}
pub use Rattle.zv_command.specs.declared.status.Status.TheVariants.{BadImage, Done, BadLine, Memory, WriteFault, ReadFault, TooLong, Usage}
