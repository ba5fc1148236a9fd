use Rattle.zv_frozen.proofs.Common.{◌∙◌, ◌≡◌, IsKey, is_key, list_of, nth, sym, true}
use borrow.Author.Count.{below_more}
use Rattle.zv_frozen.proofs.Parsed.{one_key}
use Rattle.zv_frozen.proofs.frozen.first_no_key.Goals as goal

pub loop-place-preserved : goal.loop-place-preserved
loop-place-preserved c =
    let ks = list_of c.args.keys in
    let n = c.loop-place.place in
    let at = c.as_bytes.ensures.same ∙ c.at.ensures in
    let passes : is_key (nth ks n) ≡ true = sym (rw at at c.in-Some.ensures.test) in
    let key : IsKey (nth ks n) = rw at at c.in-Some.ensures.texts.0 in
    record {
      first = c.loop-place.invariant.first ∙ one_key ks n (rw c.len-place-end.ensures at c.loop-place-test.true) passes;
      keys = below_more (λ s. IsKey (nth ks s)) n c.loop-place.invariant.keys key;
    }
