use Rattle.std.proofs.Common.{rules, ◌≡◌, ℕ, ◌+◌, ◌-◌, List, ◌++◌, length, take, drop, take_all, sym, ap, ◌∙◌, subst, arith, Option}
use Rattle.std.specs.Io.KnownBytes.{Appends}
use Rattle.std.proofs.KnownBytes.{Appends-trans, Appends-kept}
use Rattle.std.proofs.lemmas.List.{take_rest}
use Rattle.std.proofs.Math.Seq.{take-add}
use Rattle.zv_devices.proofs.real.write_whole.Goals as goal

-- n bytes more of a piece are taken
taken_more : (piece : List ℕ) (at n : ℕ) (old now new : Option (List ℕ)) → Appends old now (take at piece)
    → Appends now new (take n (take (length piece - at) (drop at piece))) → Appends old new (take (at + n) piece)
taken_more piece at n old now new before more =
    let both : take (at + n) piece ≡ take at piece ++ take n (take (length piece - at) (drop at piece)) =
    take-add at n piece ∙ ap (λ (l : List ℕ). take at piece ++ take n l) (sym (take_rest piece at)) in
    subst (Appends old new) (sym both) (Appends-trans old now new _ _ before more)

pub loop-at-preserved : goal.loop-at-preserved
loop-at-preserved g c = record {
  within = search rules;
  taken = taken_more c.args.piece.now c.loop-at.at c.in-Ok.count _ _ _ c.loop-at.invariant.taken c.in-Ok.ensures.bytes;
}

pub returns-in-Ok-eq0 : goal.returns-in-Ok-eq0
returns-in-Ok-eq0 g c = (_, taken_more c.args.piece.now c.loop-at.at c.in-Ok-eq0.field-0 _ _ _ c.loop-at.invariant.taken c.in-Ok-eq0.ensures.bytes)

pub returns-in-Err : goal.returns-in-Err
returns-in-Err g c = (_, Appends-kept _ _ _ _ c.loop-at.invariant.taken c.in-Err.ensures.bytes)

pub returns-in-Ok-flush : goal.returns-in-Ok-flush
returns-in-Ok-flush g c =
    let whole : take c.loop-at.at c.args.piece.now ≡ c.args.piece.now = take_all _ c.args.piece.now (omega arith) in
    subst (Appends _ _) whole (Appends-kept _ _ _ _ c.loop-at.invariant.taken c.in-Ok-flush.ensures.bytes)

pub returns-in-Err-flush : goal.returns-in-Err-flush
returns-in-Err-flush g c = (_, Appends-kept _ _ _ _ c.loop-at.invariant.taken c.in-Err-flush.ensures.bytes)
