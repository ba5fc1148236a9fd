-- Ranges that may be set, one after another.
use Rattle.zv_props.proofs.Common.{common_steps, nat_tests}
use Rattle.std.proofs.lemmas.List.Sums.{fails_before_first}

pub ruleset good_sets = (nat_tests, common_steps, fails_before_first)
