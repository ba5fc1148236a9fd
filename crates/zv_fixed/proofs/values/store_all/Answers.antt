use Rattle.std.proofs.Common.{◌∙◌, sym, rules}
use Rattle.zv_ule.proofs.Written.{written_more}
use Rattle.zv_fixed.proofs.values.store_all.Goals as goal

pub loop-index-preserved : goal.loop-index-preserved
loop-index-preserved g c =
    let kept = c.loop-index.invariant in
    let v = c.index-values-index.result in
    let stored = g.met.T.AsULE.twin.stored v c.store.ensures.valid in
    let chunk = (g.met.T.ULE.ULE.spelling.writes _ stored).long in
    record {
      long = search rules;
      done = written_more (λ x. g.T.ULE.ULE.chunk (g.T.AsULE.stored x)) c.args.values.now c.size-width.result c.loop-index.index v c.loop-index.out
          c.store.new.out c.loop-index-test.true c.index-values-index.is kept.long (chunk ∙ sym c.size-width.ensures) c.store.ensures.written kept.done;
    }
