use Rattle.std.proofs.Common.{◌≤◌, ◌<◌, length, arith, sym, ◌∙◌}
use Rattle.zv_xxhash.proofs.Pieces.{lanes_few, left_few, lanes_step, left_step}
use Rattle.zv_xxhash.proofs.lanes.add_stripes.Goals as goal

pub loop-turn-preserved : goal.loop-turn-preserved
loop-turn-preserved c =
    let long : 32 ≤ length c.loop-turn.rest.now = omega arith in
    record {
      long = omega (arith, c.split_at.ensures.back_len);
      lanes = rw (c.add_stripe.ensures, c.split_at.ensures.front, c.split_at.ensures.back)
          (sym (lanes_step c.loop-turn.lanes c.loop-turn.rest.now long) ∙ c.loop-turn.invariant.lanes);
      left = rw c.split_at.ensures.back (sym (left_step c.loop-turn.rest.now long) ∙ c.loop-turn.invariant.left);
    }

pub returns : goal.returns
returns c =
    let few : length c.loop-turn.rest.now < 32 = omega arith in record {
      lanes = sym (lanes_few c.loop-turn.lanes c.loop-turn.rest.now few) ∙ c.loop-turn.invariant.lanes;
      left = sym (left_few c.loop-turn.rest.now few) ∙ c.loop-turn.invariant.left;
    }
