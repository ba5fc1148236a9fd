use Rattle.zv_locale.proofs.Common.{arith, sym}
use Rattle.zv_locale.proofs.lookup.provide_counted.Goals as goal

pub returns-in-Some-clause-digits : goal.returns-in-Some-clause-digits
returns-in-Some-clause-digits g c = λ j k rows pairs.
    let tries = c.find_first.ensures.digits 0 k (omega arith) (rw (sym c.in-Some.ensures.pairs) at pairs) in
    omega (arith, c.in-Some.ensures.digits j rows, tries, c.find_first.ensures.counted)
