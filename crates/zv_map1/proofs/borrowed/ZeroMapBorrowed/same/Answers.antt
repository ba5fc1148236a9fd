use Rattle.zv_map1.proofs.Common.{refl, sym, ◌∙◌, ap, values_of, true, ◌≡◌, false, keys_of}
use Rattle.zv_map1.proofs.Zipped.{keys_in, values_in}
use Rattle.zv_map1.proofs.borrowed.ZeroMapBorrowed.same.Goals as goal

pub returns-then-same : goal.returns-then-same
returns-then-same g c = (
  λ yes. rw (c.same.ensures.0 c.if-same.true, c.same-then-same.ensures.0 yes) refl,
  λ e. c.same-then-same.ensures.1 (sym (values_in c.args.self) ∙ (ap values_of e ∙ values_in c.args.other)),
)

pub returns-else-same : goal.returns-else-same
returns-else-same g c = (
  λ yes. let no : true ≡ false = sym yes ∙ c.if-same.false in cc,
  λ e. c.same.ensures.1 (sym (keys_in c.args.self) ∙ (ap keys_of e ∙ keys_in c.args.other)),
)
