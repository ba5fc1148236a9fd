use Rattle.std.proofs.Common.{arith, rules, ◌≡◌, length}
use Rattle.zv_multi.proofs.Written.{spelled_len, written}
use Rattle.zv_multi.proofs.values.write_record.Goals as goal

pub write-requires-clause-whole : goal.write-requires-clause-whole
write-requires-clause-whole g c =
    let m = c.lengths_of-lengths in
    let all : length m.result ≡ g.row.LEN = search rules in
    let s = spelled_len g.F.VarZeroVecFormat.W g.row.LEN (g.V.FieldValues.fits c.args.values.now) _ _ m.ensures.lengths all c.requires.fit in
    omega (arith, s, rw c.W.ensures at c.split_at_mut-spellings.ensures.back_len)

pub returns-clause-written : goal.returns-clause-written
returns-clause-written g c =
    let m = c.lengths_of-lengths in
    let all : length m.result ≡ g.row.LEN = search rules in
    let starts = c.new_from_lengths_partially_initialized.ensures.starts in
    written g.F.VarZeroVecFormat.W g.row.LEN (g.V.FieldValues.fits c.args.values.now) _ _ m.ensures.lengths all c.requires.fit _ _ _ _ starts
    (rw c.W.ensures at c.split_at_mut-spellings.ensures.front) c.write.ensures.written
