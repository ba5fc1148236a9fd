use Rattle.zv_props_tests.proofs.parsing.counted_look_ups_answer_alike.Given as goal

abbrev pub ghosts-counted : goal.ghosts-counted
ghosts-counted g a = record { name = a.blank.name; parts = a.blank.parts }
