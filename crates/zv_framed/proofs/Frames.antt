-- Frames that are cut into their parts.
use Rattle.std.proofs.Common.{◌≡◌, ℕ, ◌^◌, ◌<◌, List, [], ◌∷◌, length, Some, refl}
use Rattle.std.specs.List.{AllByRecursion}
use Rattle.zv_var.proofs.Frames.{first_part_of_framed}
use Rattle.zv_framed.specs.Frames.{frame_of, parts_in}

-- the frame of parts is cut into them
pub cut_back : (ps : List (List ℕ)) → AllByRecursion (λ p. length p < 256 ^ 8) ps → parts_in (length ps) (frame_of ps) ≡ Some ps
cut_back [] short = refl
cut_back (p ∷ ps) short = rw (first_part_of_framed p (frame_of ps) short.0, cut_back ps short.1) refl
