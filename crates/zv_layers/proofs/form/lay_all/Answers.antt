use Rattle.zv_layers.proofs.Common.{◌+◌, ap, arith, bytes_of_all, drop_all, refl, rules}
use Rattle.zv_layers.proofs.Laying.{all_laid, next_image, none_yet, one_more, one_refused}
use Rattle.zv_layers.proofs.form.lay_all.Goals as goal

pub loop-image-init : goal.loop-image-init
loop-image-init c = record { number = refl; so_far = one_more (none_yet _) (rw c.new.ensures.rows at c.in_ok-map.ensures) }

pub returns-in_err-map-2 : goal.returns-in_err-map-2
returns-in_err-map-2 c =
    let l = c.loop-image in
    let next = next_image c.args.more.now l.image-index c.image-item.result c.loop-image-test.true c.image-item.is l.invariant.so_far in
    let refused = one_refused next c.in_err-map-2.field-0.0 (rw c.deref.ensures.value at c.in_err-map-2.ensures) in
    search (rules, refused)

pub loop-image-preserved : goal.loop-image-preserved
loop-image-preserved c =
    let l = c.loop-image in
    let next = next_image c.args.more.now l.image-index c.image-item.result c.loop-image-test.true c.image-item.is l.invariant.so_far in
    record { number = ap (λ n. n + 1) l.invariant.number; so_far = one_more next (rw c.deref.ensures.value at c.in_ok-map-2.ensures) }

pub returns : goal.returns
returns c =
    let l = c.loop-image in
    let none = ap bytes_of_all (drop_all l.image-index c.args.more.now (omega arith)) in
    all_laid (rw none at l.invariant.so_far)
