use Rattle.zv_ule.proofs.Common.{◌≡◌, ◌+◌, sym, ◌∙◌, arith, Bytes, nth}
use Rattle.zv_ule.proofs.Halving.{answer_there, answers_in, narrowed_by, halved_more}
use Rattle.zv_ule.proofs.search.halve.Goals as goal

pub loop-window-preserved : goal.loop-window-preserved
loop-window-preserved g c =
    let xs = g.C.IndexedList.list c.args.list.now in
    let start = c.args.range.start in
    let end = c.args.range.end in
    let f = λ (x : Bytes). g.T.ZvOrd.cmp x (g.Q.ZvArg.bytes c.args.key.now) in
    let low = c.loop-window.window.low in
    let size = c.loop-window.window.size in
    let old = c.loop-window.invariant in
    let left = c.left_by-window.ensures in
    let m = c.middle-middle.result in
    let same : c.as_bytes.result.now ≡ nth xs (start + m) = c.as_bytes.ensures.same ∙ c.element_at-element.ensures in
    let is = answer_there f xs start end m (omega (arith, c.middle-middle.ensures)) c.requires.inside same c.arg_compare-order.ensures.order in
    record {
      within = omega (arith, left.within);
      counted = omega (arith, c.arg_compare-order.ensures.cost);
      narrowed = λ up. narrowed_by _ low size m _ _ _ (sym c.is_eq.ensures ∙ c.if-is_eq.false) (omega arith)
          (omega (arith, answers_in f xs start end c.requires.order c.requires.inside)) c.middle-middle.ensures left.after left.end left.before left.start
          up (old.narrowed up) is;
      halved = halved_more _ _ _ _ _ old.halved (omega arith) left.half (omega (arith, c.arg_compare-order.ensures.cost));
    }
