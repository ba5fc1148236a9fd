use Rattle.zv_frozen.proofs.Common.{◌++◌, ◌∙◌, ap, append_assoc, le, length, pair_key, subst, sym}
use Rattle.zv_xxhash.specs.Held.{Holds}
use Rattle.zv_frozen.proofs.Keys.{same_hash}
use Rattle.zv_frozen.proofs.key.PairKeyHashArgZeroSliceULEU8.hash_arg.Goals as goal

pub returns : goal.returns
returns c = λ seed written held.
    let head = rw c.head.ensures at (c.write.ensures seed written held) in
    let first = rw c.as_bytes.ensures.value at (c.write-2.ensures seed _ head) in
    let all = rw c.as_bytes-2.ensures.value at (c.write-3.ensures seed _ first) in
    let k0 = c.args.self.now.key0.now in
    let k1 = c.args.self.now.key1.now in
    subst (λ l. Holds c.write-3.new.self seed l)
    (append_assoc (written ++ le 4 (length k0)) k0 k1 ∙ append_assoc written (le 4 (length k0)) (k0 ++ k1)
    ∙ ap (λ l. written ++ l) (sym (same_hash (pair_key k0 k1)))) all
