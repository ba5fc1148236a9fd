use Rattle.zv_owned.proofs.owned.widths.VarZeroVecOwned+T+Index16.widen.Given as goal

abbrev pub ghosts-widen_from : goal.ghosts-widen_from
ghosts-widen_from g a = record { name = a.blank.name; parts = a.blank.parts }
