use Rattle.zv_input.proofs.Common.{◌≡◌, ◌∙◌, ◌+◌, ◌++◌, ◌∷◌, [], ◌≤◌, ap, arith, drop, length, rules, None, Some, command_of_words, words}
use Rattle.std.proofs.lemmas.List.{length-drop}
use Rattle.zv_input.proofs.Shapes.{kept_same, kept_size, one_more}
use Rattle.zv_input.specs.Shapes.{command_at, commands_at, shape_size}
use Rattle.zv_input.proofs.command_lines.CommandLines.add_line.Goals as goal

pub decode_at-requires-clause-small : goal.decode_at-requires-clause-small
decode_at-requires-clause-small c =
    let size = rw c.self.view_is at (kept_size _ _ _ _ c.self.invariant) in
    omega (arith, size, c.requires)

pub invariant_of-self : goal.invariant_of-self
invariant_of-self c = (kept_same _ _ _ _ _ c.self.invariant c.decode_at.ensures.longer c.decode_at.ensures.front).1

pub returns-in_err-shape-clause-same : goal.returns-in_err-shape-clause-same
returns-in_err-shape-clause-same c =
    let same = (kept_same _ _ _ _ _ c.self.invariant c.decode_at.ensures.longer c.decode_at.ensures.front).0 ∙ c.self.view_is in
    search rules

pub invariant_of-self-in_default : goal.invariant_of-self-in_default
invariant_of-self-in_default c = (kept_same _ _ _ _ _ c.self.invariant c.decode_at.ensures.longer c.decode_at.ensures.front).1

pub returns-in_default-clause-line : goal.returns-in_default-clause-line
returns-in_default-clause-line c =
    let same = (kept_same _ _ _ _ _ c.self.invariant c.decode_at.ensures.longer c.decode_at.ensures.front).0 ∙ c.self.view_is in
    let none : command_of_words (words c.args.line.now) ≡ None = search rules in
    (none, same)

pub invariant_of-self-then-is_err : goal.invariant_of-self-then-is_err
invariant_of-self-then-is_err c =
    let items : c.push.new.self.items ≡ c.self.inside.shapes.items = search rules in
    rw items (kept_same _ _ _ _ _ c.self.invariant c.decode_at.ensures.longer c.decode_at.ensures.front).1

pub returns-then-is_err-clause-same : goal.returns-then-is_err-clause-same
returns-then-is_err-clause-same c =
    let items : c.push.new.self.items ≡ c.self.inside.shapes.items = search rules in
    ap (λ s. commands_at s c.decode_at.new.bytes.items) items
    ∙ (kept_same _ _ _ _ _ c.self.invariant c.decode_at.ensures.longer c.decode_at.ensures.front).0 ∙ c.self.view_is

pub add-requires : goal.add-requires
add-requires c =
    let s = c.in-Some.shape in
    let new = c.decode_at.new.bytes.items in
    let is : command_of_words (words c.args.line.now) ≡ Some (command_at s (drop c.self.inside.end new)) = search rules in
    (one_more _ _ new _ _ s c.args.line.now c.self.invariant c.decode_at.ensures.front (search rules) (rw c.self.view_is c.requires) is).room

pub invariant_of-self-2 : goal.invariant_of-self-2
invariant_of-self-2 c =
    let s = c.in-Some.shape in
    let new = c.decode_at.new.bytes.items in
    let items : c.push.new.self.items ≡ c.self.inside.shapes.items ++ s ∷ [] = search rules in
    let is : command_of_words (words c.args.line.now) ≡ Some (command_at s (drop c.self.inside.end new)) = search rules in
    let within : c.self.inside.end + shape_size s ≤ length new = search rules in
    let more = one_more _ _ new _ _ s c.args.line.now c.self.invariant c.decode_at.ensures.front within (rw c.self.view_is c.requires) is in
    let puts = c.add.ensures (drop c.self.inside.end new) (omega (arith, within, length-drop c.self.inside.end new)) in
    rw (items, puts, c.shape_size.ensures) more.kept

pub returns-clause-line : goal.returns-clause-line
returns-clause-line c =
    let s = c.in-Some.shape in
    let new = c.decode_at.new.bytes.items in
    let items : c.push.new.self.items ≡ c.self.inside.shapes.items ++ s ∷ [] = search rules in
    let is : command_of_words (words c.args.line.now) ≡ Some (command_at s (drop c.self.inside.end new)) = search rules in
    let more = one_more _ _ new _ _ s c.args.line.now c.self.invariant c.decode_at.ensures.front (search rules) (rw c.self.view_is c.requires) is in
    (_, is, ap (λ t. commands_at t new) items ∙ more.commands ∙ ap (λ cs. cs ++ command_at s (drop c.self.inside.end new) ∷ []) c.self.view_is)

pub returns-clause-size : goal.returns-clause-size
returns-clause-size c =
    let s = c.in-Some.shape in
    let new = c.decode_at.new.bytes.items in
    let items : c.push.new.self.items ≡ c.self.inside.shapes.items ++ s ∷ [] = search rules in
    let is : command_of_words (words c.args.line.now) ≡ Some (command_at s (drop c.self.inside.end new)) = search rules in
    let more = one_more _ _ new _ _ s c.args.line.now c.self.invariant c.decode_at.ensures.front (search rules) (rw c.self.view_is c.requires) is in
    rw (items, ← c.self.view_is) more.size

pub returns-in_default-clause-size : goal.returns-in_default-clause-size
returns-in_default-clause-size c =
    let same = (kept_same _ _ _ _ _ c.self.invariant c.decode_at.ensures.longer c.decode_at.ensures.front).0 ∙ c.self.view_is in
    rw same (omega arith)
