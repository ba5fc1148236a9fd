use Rattle.zv_list_tests.proofs.components.ranges_are_searched_counted.Given as goal

abbrev pub ghosts-is_searched_counted : goal.ghosts-is_searched_counted
ghosts-is_searched_counted g a = record { name = a.blank.name; parts = a.blank.parts }
