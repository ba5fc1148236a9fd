use Rattle.zv_vector_tests.proofs.splices.make.Given as goal

abbrev pub ghosts-make_from : goal.ghosts-make_from
ghosts-make_from g a = record { name = a.blank.name; parts = a.blank.parts }
