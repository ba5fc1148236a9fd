use Rattle.zv_owned.proofs.owned.widths.VarZeroVecOwned+T+Index32.narrow.Given as goal

abbrev pub ghosts-narrow_from : goal.ghosts-narrow_from
ghosts-narrow_from g a = record { name = a.blank.name; parts = a.blank.parts }
