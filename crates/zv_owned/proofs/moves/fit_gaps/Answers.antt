use Rattle.zv_owned.proofs.Common.{arith, refl}
use Rattle.zv_owned.proofs.Gaps.{closed, opened}
use Rattle.zv_owned.proofs.moves.fit_gaps.Goals as goal

pub returns-in_ok-grow-clause-ok : goal.returns-in_ok-grow-clause-ok
returns-in_ok-grow-clause-ok g c = λ p g m o t is lp lg lm lo.
    opened p g m o t is lp lg lm lo c.args.first.into c.args.second.into _ _ _ _ _ c.len-len.ensures refl (omega arith)
    c.in_ok-grow.ensures.ok c.slide.ensures.bytes c.slide-then-first-second.ensures.bytes

pub returns-else-first-second-clause-ok : goal.returns-else-first-second-clause-ok
returns-else-first-second-clause-ok g c = λ p g m o t is lp lg lm lo.
    closed p g m o t is lp lg lm lo c.args.first.into c.args.second.into _ _ _ _ _ c.len-len.ensures refl (omega arith)
    c.slide-else-first-second.ensures.bytes c.slide-else-first-second-2.ensures.bytes c.cut.ensures.bytes
