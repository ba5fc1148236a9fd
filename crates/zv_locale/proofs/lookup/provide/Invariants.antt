use Rattle.zv_locale.proofs.lookup.provide.Given as goal

abbrev pub ghosts-provide_from : goal.ghosts-provide_from
ghosts-provide_from a = record { name = a.blank.name; parts = a.blank.parts }
