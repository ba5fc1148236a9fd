use Rattle.zv_layers.proofs.Common.{◌+◌, ◌∷◌, ◌≡◌, bytes_of_all, drop}
use Rattle.zv_layers.proofs.Laying.{SoFar}
use Rattle.zv_layers.proofs.form.lay_all.Given as goal

-- the layers before one of them are laid
abbrev pub invariant-loop-image : goal.invariant-loop-image
invariant-loop-image l = record {
  number : l.layer ≡ l.image-index + 1;
  so_far : SoFar (l.first ∷ bytes_of_all l.more) (l.layer + 1) l.map.rows (bytes_of_all (drop l.image-index l.more));
}
