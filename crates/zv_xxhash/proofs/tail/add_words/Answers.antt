use Rattle.std.proofs.Common.{arith, sym, ◌∙◌}
use Rattle.zv_xxhash.proofs.Pieces.{rest_step_more}
use Rattle.zv_xxhash.proofs.tail.add_words.Goals as goal

pub loop-turn-preserved : goal.loop-turn-preserved
loop-turn-preserved c =
    record {
      long = omega (arith, c.split_at.ensures.back_len);
      same = λ others. rw (c.add_word-hash.ensures, c.split_at.ensures.back)
          (sym (rest_step_more c.loop-turn.hash c.loop-turn.rest.now others (omega arith)) ∙ c.loop-turn.invariant.same others);
    }
