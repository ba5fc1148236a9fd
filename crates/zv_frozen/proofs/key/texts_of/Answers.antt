use Rattle.zv_frozen.proofs.Common.{◌∙◌, ◌≡◌, arith, drop-drop, first_len, is_key, length-drop, nat_tests, text0, text1, true}
use Rattle.zv_frozen.proofs.Keys.{tested}
use Rattle.zv_frozen.proofs.key.texts_of.Goals as goal

pub returns-clause-texts : goal.returns-clause-texts
returns-clause-texts c =
    let key = c.args.key.now in
    let head = c.in_ok-len.ensures in
    let first : c.split_at.result.0.now ≡ text0 key = rw (head.1, head.2) at c.split_at.ensures.front in
    let second : c.split_at.result.1.now ≡ text1 key = rw (head.1, head.2) at c.split_at.ensures.back ∙ drop-drop (first_len key) 4 key in
    let passes : is_key key ≡ true = grind (arith, nat_tests, length-drop) in
    (tested key (record { at = λ i. omega (arith, c.type_inv.key i) }) passes, c.in-Some.ensures.0 ∙ first, c.in-Some-text_in.ensures.0 ∙ second)
