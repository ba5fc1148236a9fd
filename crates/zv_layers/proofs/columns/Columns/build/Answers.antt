use Rattle.zv_layers.proofs.Common.{◌∙◌, ◌≡◌, arith, element_of, map, refl, rules}
use Rattle.zv_layers.proofs.Refusals.{accepted, ends_fit, fails, unfaulted}
use Rattle.zv_layers.proofs.columns.Columns.build.Goals as goal

pub returns-in_err-keys0-clause-refused : goal.returns-in_err-keys0-clause-refused
returns-in_err-keys0-clause-refused c =
    let keys0 : map element_of c.deref.result.now ≡ c.args.self.now.keys0 = search rules in
    fails c.requires c.args.self.now.keys0 (λ l. rw l refl) c.in_err-keys0.field-0.0 c.from_residual.result
    (rw keys0 at c.in_err-keys0.ensures.refused) c.from_residual.ensures.1

pub returns-in_err-keys1-clause-refused : goal.returns-in_err-keys1-clause-refused
returns-in_err-keys1-clause-refused c =
    let keys1 : map element_of c.deref-2.result.now ≡ c.args.self.now.keys1 = search rules in
    fails c.requires c.args.self.now.keys1 (λ l. rw l (grind arith)) c.in_err-keys1.field-0.0 c.from_residual-in_err-keys1.result
    (rw keys1 at c.in_err-keys1.ensures.refused) c.from_residual-in_err-keys1.ensures.1

pub returns-in_err-values-clause-refused : goal.returns-in_err-values-clause-refused
returns-in_err-values-clause-refused c =
    let values : map element_of c.deref-3.result.now ≡ c.args.self.now.values = search rules in
    fails c.requires c.args.self.now.values (λ l. rw l (grind arith)) c.in_err-values.field-0.0 c.from_residual-in_err-values.result
    (rw values at c.in_err-values.ensures.refused) c.from_residual-in_err-values.ensures.1

pub joiner_of-requires : goal.joiner_of-requires
joiner_of-requires c =
    let ends : c.deref-4.result.now ≡ c.args.self.now.joiner = search rules in
    let keys1 : map element_of c.deref-2.result.now ≡ c.args.self.now.keys1 = search rules in
    rw ends (ends_fit c.requires (rw keys1 at c.in_ok-keys1.ensures.taken))

pub unreachable-requires : goal.unreachable-requires
unreachable-requires c =
    let keys0 : map element_of c.deref.result.now ≡ c.args.self.now.keys0 = search rules in
    let keys1 : map element_of c.deref-2.result.now ≡ c.args.self.now.keys1 = search rules in
    let values : map element_of c.deref-3.result.now ≡ c.args.self.now.values = search rules in
    let ends : c.in_ok-joiner.joiner.values ≡ c.args.self.now.joiner = search rules in
    let none = unfaulted c.requires in
    let some = rw (c.in_ok-keys0.ensures.list ∙ keys0, ends, c.in_ok-keys1.ensures.list ∙ keys1, c.in_ok-values.ensures.list ∙ values) at c.in-Err.ensures.error
    in absurd cc

pub returns-clause-accepted : goal.returns-clause-accepted
returns-clause-accepted c =
    let keys0 : map element_of c.deref.result.now ≡ c.args.self.now.keys0 = search rules in
    let keys1 : map element_of c.deref-2.result.now ≡ c.args.self.now.keys1 = search rules in
    let values : map element_of c.deref-3.result.now ≡ c.args.self.now.values = search rules in
    accepted c.requires (rw keys0 at c.in_ok-keys0.ensures.taken) (rw keys1 at c.in_ok-keys1.ensures.taken) (rw values at c.in_ok-values.ensures.taken)
