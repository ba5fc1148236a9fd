use Rattle.std.proofs.Common.{arith, refl, length-set}
use Rattle.std.proofs.lemmas.Grind.{common_steps}
use Rattle.std.proofs.lemmas.List.{take_more_set}
use Rattle.std.proofs.lemmas.Option.{slice_get_within}
use borrow.Author.Rules.{of_calls}
use Rattle.zv_fixed.proofs.Calls.{none_asked, next_call, all_computed}
use Rattle.zv_fixed.proofs.vector.ZeroVec.for_each_mut.Goals as goal

pub loop-index-init : goal.loop-index-init
loop-index-init g c = record {
  callable = c.requires;
  owned = c.in_ok-make_owned.ensures.owned;
  spare = omega arith;
  long = refl;
  kept = refl;
  answers = none_asked c.args.f;
}

pub loop-index-preserved : goal.loop-index-preserved
loop-index-preserved g c =
    let old = c.loop-index.invariant in
    let now = c.loop-index.self.values in
    let within = slice_get_within now c.loop-index.index c.at.result c.at.ensures.read in
    record {
      callable = search of_calls;
      owned = c.set_owned.ensures.owned;
      spare = omega (arith, c.set_owned.ensures.spare, old.spare);
      long = rw (c.set_owned.ensures.values, length-set) old.long;
      kept = grind (arith, common_steps);
      answers = rw (c.set_owned.ensures.values, take_more_set now c.loop-index.index c.f-value.result within)
          (next_call _ now c.loop-index.index old.answers.0 old.answers.1 old.long old.kept c.at.ensures.read c.f-value.ensures);
    }

pub returns-clause-computed : goal.returns-clause-computed
returns-clause-computed g c answer computes =
    all_computed answer c.args.f c.args.self.now.values c.loop-index.self.values (grind (arith, common_steps)) computes
