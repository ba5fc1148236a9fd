use Rattle.zv_map1_tests.proofs.one_level.comparisons.Given as goal

abbrev pub ghosts-counts_from : goal.ghosts-counts_from
ghosts-counts_from a = record { name = a.blank.name; parts = a.blank.parts }
