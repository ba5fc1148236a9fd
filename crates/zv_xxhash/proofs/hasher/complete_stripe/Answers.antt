use Rattle.std.proofs.Common.{◌∙◌, length, arith, ap, length-append}
use Rattle.zv_xxhash.specs.Digest.{all_lanes}
use Rattle.zv_xxhash.proofs.Pieces.{stripe_filled}
use Rattle.zv_xxhash.proofs.hasher.complete_stripe.Goals as goal

pub returns : goal.returns
returns c =
    let all = stripe_filled _ c.args.lanes.now _ _ _ _ _ c.completed-stripe.ensures c.split_at.ensures.front c.split_at.ensures.back
    (omega (arith, ap length c.completed-stripe.ensures, length-append c.args.pending.now c.split_at.result.0.now)) in
    record { lanes = ap (λ l. all_lanes l c.split_at.result.1.now) c.add_stripe.ensures ∙ all.0; left = all.1 }
