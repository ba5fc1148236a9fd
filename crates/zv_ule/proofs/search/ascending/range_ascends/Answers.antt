use Rattle.zv_ule.proofs.Common.{◌≡◌, ℕ, ◌+◌, ◌-◌, ◌<◌, ◌≤◌, Bool, ◌&&◌, List, [], length, slice_range, refl, ◌∙◌, sym, ap, arith, is_lt, Ordering, Bytes}
use Rattle.zv_ule.proofs.Common.{ascends, nth}
use Rattle.zv_ule.proofs.Halving.{range_next}
use Rattle.zv_ule.proofs.search.ascending.range_ascends.Goals as goal

-- a range ascends where its first element r is below the next, and the rest ascends; p, i, q are i - 1, i and i
ascends_step : (order : Bytes → Bytes → Ordering) (xs : List Bytes) (p i q e : ℕ) (r : Bool) →
    p + 1 ≡ i → q ≡ i → i < e → e ≤ length xs → r ≡ is_lt (order (nth xs p) (nth xs i)) →
    ascends order (slice_range xs p e) ≡ (r && ascends order (slice_range xs q e))
ascends_step order xs p i q e r a b h w f = rw (b, range_next xs p e [] (omega arith) w, a, range_next xs i e [] h w, f) refl

pub returns-then-not-is_lt : goal.returns-then-not-is_lt
returns-then-not-is_lt g c =
    let xs = g.C.IndexedList.list c.args.list.now in
    let cmp = g.T.ZvOrd.cmp in
    let i = c.loop-index.index in
    let f : c.is_lt.result ≡ is_lt (cmp (nth xs (i - 1)) (nth xs i)) =
    rw (← c.loop-index.invariant.last, ← c.element_at-element.ensures, ← c.order.ensures) c.is_lt.ensures in
    let step = ascends_step cmp xs (i - 1) i i c.args.end c.is_lt.result (omega arith) (omega arith) (omega arith) c.loop-index.invariant.within f in
    sym (sym c.loop-index.invariant.same ∙ step ∙ ap (λ (x : Bool). x && ascends cmp (slice_range xs i c.args.end)) c.if-not-is_lt.true)

pub loop-index-preserved : goal.loop-index-preserved
loop-index-preserved g c =
    let xs = g.C.IndexedList.list c.args.list.now in
    let cmp = g.T.ZvOrd.cmp in
    let i = c.loop-index.index in
    let f : c.is_lt.result ≡ is_lt (cmp (nth xs (i - 1)) (nth xs i)) =
    rw (← c.loop-index.invariant.last, ← c.element_at-element.ensures, ← c.order.ensures) c.is_lt.ensures in
    let step = ascends_step cmp xs (i - 1) i (i + 1 - 1) c.args.end c.is_lt.result (omega arith) (omega arith) (omega arith) c.loop-index.invariant.within f in
    let same : i + 1 - 1 ≡ i = omega arith in
    record {
      low = omega arith;
      within = c.loop-index.invariant.within;
      last = c.element_at-element.ensures ∙ ap (nth xs) (sym same);
      same = sym (ap (λ (x : Bool). x && ascends cmp (slice_range xs (i + 1 - 1) c.args.end)) c.if-not-is_lt.false)
          ∙ sym step ∙ c.loop-index.invariant.same;
    }
