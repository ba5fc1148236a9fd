use Rattle.std.proofs.Common.{◌≡◌, ◌∙◌, None, Result, Ok, Err}
use Rattle.std.specs.Prelude.{IfOk, IsOkAnd}
use Rattle.std.specs.Result.{result_err}
use Rattle.zv_callers.proofs.files.load.Goals as goal

accepted : {T E : Type 0} {P Q : T → Type 0} (r : Result T E) → result_err r ≡ None → IfOk r P → ((x : T) → P x → Q x) → IsOkAnd r Q
accepted (Ok x) none read all = all x read
accepted (Err e) none read all = absurd (cc none)

pub returns-clause-kept : goal.returns-clause-kept
returns-clause-kept c pairs keeps = accepted _ (c.parse_framed.ensures.error ∙ keeps.sound) c.parse_framed.ensures.value keeps.same
