use Rattle.zv_xxhash.proofs.one_piece.digest_long.Goals as goal

pub returns : goal.returns
returns c = c.finish.ensures _ _ (c.write-2.ensures _ _ (c.write.ensures _ _ c.with_seed-hasher.ensures))
