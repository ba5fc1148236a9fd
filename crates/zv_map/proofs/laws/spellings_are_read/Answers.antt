use Rattle.zv_map.specs.Elements.{elements_valid}
use Rattle.zv_map.specs.Laws.{written_none, written_reads, written_spells}
use Rattle.zv_map.proofs.laws.spellings_are_read.Goals as goal

pub returns-clause-elements : goal.returns-clause-elements
returns-clause-elements g c = elements_valid g.T.ZvKind.fault

pub returns-clause-empty : goal.returns-clause-empty
returns-clause-empty g c = written_none

pub returns-clause-sound : goal.returns-clause-sound
returns-clause-sound g c layout bytes each = written_spells g.T.ZvKind.fault bytes each layout

pub returns-clause-list : goal.returns-clause-list
returns-clause-list g c layout bytes each = written_reads g.T.ZvKind.fault bytes each layout
