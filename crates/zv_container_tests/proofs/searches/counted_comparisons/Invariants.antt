use Rattle.zv_container_tests.proofs.searches.counted_comparisons.Given as goal

-- the counter's ghost members are those of the blank that it starts from
abbrev pub ghosts-search_counted : goal.ghosts-search_counted
ghosts-search_counted g a = record { name = a.blank.name; parts = a.blank.parts }
