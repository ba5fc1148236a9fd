use Rattle.std.proofs.Common.{◌≡◌, ℕ, ◌-◌, length, take, drop, arith, length-drop}
use Rattle.std.proofs.lemmas.List.{take_all}
use Rattle.zv_xxhash.proofs.lanes.add_stripe.Goals as goal

pub returns : goal.returns
returns c =
    let from : (k : ℕ) → take (length c.args.stripe.now - k) (drop k c.args.stripe.now) ≡ drop k c.args.stripe.now =
    λ k. take_all (length c.args.stripe.now - k) (drop k c.args.stripe.now) (omega (arith, length-drop k c.args.stripe.now)) in
    rw (
      c.mix.ensures,
      c.mix-2.ensures,
      c.mix-3.ensures,
      c.mix-4.ensures,
      c.read_word.ensures,
      c.read_word-2.ensures,
      c.read_word-3.ensures,
      c.read_word-4.ensures,
      from 8,
      from 16,
      from 24,
    )
