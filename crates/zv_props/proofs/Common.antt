-- The names that several proofs cite, passed on from one place. Declares nothing.
pub use Rattle.std.proofs.Common.{◌≡◌, ℕ, zero, suc, ◌+◌, ◌-◌, ◌*◌, ◌^◌, ◌<◌, ◌≤◌, List, [], ◌∷◌, ◌++◌, length, take, drop, get_or, map, Option, None, Some}
pub use Rattle.std.proofs.Common.{refl, ap, ◌∙◌, arith, append-nil, append_assoc, inl, inr}
pub use Rattle.std.proofs.lemmas.Bool.Decides.{nat_tests}
pub use Rattle.std.proofs.lemmas.Grind.{common_steps}
pub use Rattle.std.proofs.lemmas.List.{drop_all, length-map}
pub use Rattle.std.proofs.lemmas.Option.{get_or_from_slice_get, slice_get_within}
pub use Rattle.std.proofs.Math.Seq.{drop-cons}
pub use Rattle.std.specs.List.{slice_get, AllByRecursion}
pub use Rattle.std.specs.Ordering.{nat_cmp}
pub use Rattle.std.specs.declared.cmp.Ordering.TheVariants.{Equal}
pub use Rattle.std.specs.Prelude.{⊤, Err, Ok, Result, if◌then◌else◌, nat_lt, ◌==◌, ◌||◌, ◌⊎◌}
pub use Rattle.zv_ule.specs.Search.{Found, Rises, answer_at}
pub use Rattle.zv_props.specs.Places.{IsPlace, row_at}
pub use Rattle.zv_props.specs.Stored.{row, rows_of, table_bytes}
pub use Rattle.zv_props.specs.Tables.{AnswerAlike, IsProper, IsRow, MayFollow, Row, value_at, max_code_point}
