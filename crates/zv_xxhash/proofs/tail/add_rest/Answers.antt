use Rattle.std.proofs.Common.{[], sym, ◌∙◌, append-nil}
use Rattle.zv_xxhash.proofs.Pieces.{rest_few}
use Rattle.zv_xxhash.proofs.tail.add_rest.Goals as goal

pub returns : goal.returns
returns c =
    let words = c.add_words-hash in
    c.add_end.ensures ∙ sym (rest_few words.result.0 words.result.1.now words.ensures.few) ∙ (simp append-nil at (words.ensures.same []))
