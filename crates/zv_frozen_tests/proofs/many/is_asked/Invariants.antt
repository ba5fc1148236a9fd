use Rattle.zv_frozen_tests.proofs.many.is_asked.Given as goal

abbrev pub ghosts-is_counted_alike : goal.ghosts-is_counted_alike
ghosts-is_counted_alike a = record { name = a.blank.name; parts = a.blank.parts }
