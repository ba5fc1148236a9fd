use Rattle.zv_owned.proofs.owned.VarZeroVecOwned.make.Given as goal

abbrev pub ghosts-make_from : goal.ghosts-make_from
ghosts-make_from g a = record { name = a.blank.name; parts = a.blank.parts }
