use Rattle.zv_map2d_tests.proofs.look_ups.counted.Given as goal

abbrev pub ghosts-find_pair : goal.ghosts-find_pair
ghosts-find_pair g a = record { name = a.blank.name; parts = a.blank.parts }

abbrev pub ghosts-find_in_row : goal.ghosts-find_in_row
ghosts-find_in_row g a = record { name = a.blank.name; parts = a.blank.parts }

abbrev pub ghosts-find_first : goal.ghosts-find_first
ghosts-find_first g a = record { name = a.blank.name; parts = a.blank.parts }
