use Rattle.zv_frozen.proofs.Common.{◌∙◌, refl, sym}
use Rattle.zv_frozen.proofs.Parsed.{keys_are}
use Rattle.zv_frozen.proofs.frozen.check_keys.Goals as goal

pub returns-then-verify-clause-error : goal.returns-then-verify-clause-error
returns-then-verify-clause-error c =
    let none = rw c.keys.ensures.list at (sym c.first_no_key.ensures.first) ∙ c.in-None.is in
    sym (keys_are c.args.table.now _ none c.verify.ensures ∙ rw c.if-verify.true refl)

pub returns-else-verify-clause-error : goal.returns-else-verify-clause-error
returns-else-verify-clause-error c =
    let none = rw c.keys.ensures.list at (sym c.first_no_key.ensures.first) ∙ c.in-None.is in
    sym (keys_are c.args.table.now _ none c.verify.ensures ∙ rw c.if-verify.false refl)
