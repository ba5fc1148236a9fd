use Rattle.zv_hash.proofs.Stuck.{same_places, same_tables}
use Rattle.zv_hash.proofs.laws.one_placement.Goals as goal

pub returns : goal.returns
returns c = record { displacements = λ _ _ _. same_tables; places = λ _ _ _ _. same_places }
