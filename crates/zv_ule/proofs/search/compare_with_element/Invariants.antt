use Rattle.zv_ule.proofs.search.compare_with_element.Given as goal

abbrev pub ghosts-compare_from : goal.ghosts-compare_from
ghosts-compare_from g a = record { name = a.blank.name; parts = a.blank.parts }
