use Rattle.zv_hash.proofs.Stuck.{chosen_not_stuck, one_stuck}
use Rattle.zv_hash.proofs.laws.stuck_bucket.Goals as goal

pub returns : goal.returns
returns c = record { none = λ _ _ _. chosen_not_stuck; one = one_stuck }
