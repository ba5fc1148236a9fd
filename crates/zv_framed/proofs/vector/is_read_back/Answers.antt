use Rattle.std.proofs.Common.{◌∙◌, rules}
use Rattle.zv_map.specs.Laws.{written_reads, written_spells}
use Rattle.zv_framed.proofs.vector.is_read_back.Goals as goal

pub returns-clause-sound : goal.returns-clause-sound
returns-clause-sound g c =
    let laws = g.met.C.OneLayout in
    let spells = written_spells g.T.ZvKind.fault c.args._bytes.now (search rules) c.args._layout c.requires.spells in
    laws.sound _ (rw (← laws.one c.args._layout c.requires.layout) spells)

pub returns-clause-list : goal.returns-clause-list
returns-clause-list g c =
    let laws = g.met.C.OneLayout in
    let reads = written_reads g.T.ZvKind.fault c.args._bytes.now (search rules) c.args._layout c.requires.spells in
    laws.reads _ ∙ rw (← laws.one c.args._layout c.requires.layout) reads
