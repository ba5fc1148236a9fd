use Rattle.zv_vector_tests.proofs.shelves.a_shelf_keeps_bytes.Given as goal

abbrev pub ghosts-keeps_bytes : goal.ghosts-keeps_bytes
ghosts-keeps_bytes g a = record { name = a.blank.name; parts = a.blank.parts }
