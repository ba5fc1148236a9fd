use Rattle.zv_layers.proofs.overlay.overlay_maps.Given as goal

abbrev pub ghosts-overlay_from : goal.ghosts-overlay_from
ghosts-overlay_from a = record { name = a.blank.name; parts = a.blank.parts }
