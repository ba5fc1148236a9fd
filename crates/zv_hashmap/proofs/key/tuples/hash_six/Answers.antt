use Rattle.zv_hashmap.proofs.Written.{then_written}
use Rattle.zv_hashmap.proofs.key.tuples.hash_six.Goals as goal

pub returns-clause-written : goal.returns-clause-written
returns-clause-written g c =
    then_written _ _ _ _ _ c.hash_value.ensures.written
    (then_written _ _ _ _ _ c.hash_value-2.ensures.written
    (then_written _ _ _ _ _ c.hash_value-3.ensures.written
    (then_written _ _ _ _ _ c.hash_value-4.ensures.written
    (then_written _ _ _ _ _ c.hash_value-5.ensures.written
    c.hash_value-6.ensures.written))))
