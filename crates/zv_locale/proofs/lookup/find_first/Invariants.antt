use Rattle.zv_locale.proofs.Common.{[], length, option_map_or, tries, left}
use Rattle.zv_locale.proofs.Searches.{Seeks}
use Rattle.zv_locale.proofs.lookup.find_first.Given as goal

abbrev pub decreases-loop-next : goal.decreases-loop-next
decreases-loop-next g l = length (option_map_or left l.next [])

-- the names that are left
abbrev pub invariant-loop-next : goal.invariant-loop-next
invariant-loop-next g l = Seeks l.row.pairs (tries l.text) (option_map_or left l.next []) l.initial.steps l.steps
