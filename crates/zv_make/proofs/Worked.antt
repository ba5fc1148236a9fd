-- Worked rows of the definitions, computed.
use Rattle.std.proofs.Common.{◌≡◌, ◌∷◌, ◌++◌, [], refl, codes}
use Rattle.std.specs.Fmt.{digits}
use Rattle.std.specs.Prelude.{map}
use Rattle.zv_input.specs.declared.command.Command.TheVariants.{Put}
use Rattle.zv_make.specs.Puts.{number_of, put_of}
use Rattle.zv_make.specs.Summary.{made, summary_of}

numbers : map number_of (0 ∷ 1 ∷ 2 ∷ 3 ∷ 4 ∷ []) ≡ 7 ∷ 38 ∷ 193 ∷ 968 ∷ 747 ∷ []
numbers = refl

three : map put_of (7 ∷ 193 ∷ 968 ∷ []) ≡ Put (codes "r7") (codes "k7") (7 ∷ 0 ∷ [])
    ∷ Put (codes "r1") (codes "k193") (193 ∷ 0 ∷ []) ∷ Put (codes "r8") (codes "k968") (200 ∷ 3 ∷ []) ∷ []
unfolding digits
three = refl

one : summary_of (made 1) ≡ codes "rows 1 pairs 1 bytes 48 sum 358" ++ 10 ∷ []
unfolding digits
one = refl
