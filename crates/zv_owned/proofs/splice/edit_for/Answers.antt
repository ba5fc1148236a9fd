use Rattle.zv_owned.proofs.Common.{◌++◌, ◌∙◌, ◌≡◌, List, arith, length, list_of, ℕ}
use Rattle.zv_owned.proofs.Offsets.{IsParted, parted}
use Rattle.zv_owned.proofs.StartChanges.{insertion_is, removal_is, replacement_is}
use Rattle.zv_owned.proofs.splice.edit_for.Goals.{After-offset}
use Rattle.zv_owned.proofs.splice.edit_for.Goals as goal

parts : (g : _) (c : After-offset g) (front mid back : List (List ℕ)) → list_of c.args.list ≡ front ++ (mid ++ back) → length front ≡ c.args.start →
    length mid ≡ c.args.gone → IsParted front mid back c.len-count.result c.args.start c.args.gone c.offset-before.result c.offset.result
parts g c front mid back is first second =
    let same = c.components-parts.ensures.parts in
    parted front mid back is first second (rw same at c.len-count.ensures) (rw same at c.offset-before.ensures.start) (rw same at c.offset.ensures.start)

pub returns-in-Some-clause-edit : goal.returns-in-Some-clause-edit
returns-in-Some-clause-edit g c = λ front gone back o is first second new.
    let p = parts g (goal.at.returns-in-Some-clause-edit g c).After-offset front gone back is first second in
    replacement_is front gone back o p c.in-Some.into (new ∙ c.in-Some.is) c.if-gone-gt0.true c.requires.one

pub returns-in-Some-2-clause-edit : goal.returns-in-Some-2-clause-edit
returns-in-Some-2-clause-edit g c = λ front gone back o is first second new.
    let p = parts g (goal.at.returns-in-Some-2-clause-edit g c).After-offset front gone back is first second in
    insertion_is front gone back o p c.max-kept.result c.start_for.result c.in-Some-2.into (new ∙ c.in-Some-2.is) (omega arith) c.if-count-gt0.true
    c.max-kept.ensures c.start_for.ensures.first c.start_for.ensures.later

pub returns-in-None-clause-edit : goal.returns-in-None-clause-edit
returns-in-None-clause-edit g c = λ front gone back o is first second new.
    let p = parts g (goal.at.returns-in-None-clause-edit g c).After-offset front gone back is first second in
    removal_is front gone back o p c.max-kept.result (new ∙ c.in-None.is) (grind (arith, c.requires.change, c.in-None.is)) c.requires.one
    c.if-count-gt1.true c.max-kept.ensures
