use Rattle.zv_ule.proofs.search.search_in_range.Given as goal

abbrev pub ghosts-halve_from : goal.ghosts-halve_from
ghosts-halve_from g a = record { name = a.blank.name; parts = a.blank.parts }
