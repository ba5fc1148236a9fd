-- What lines make of a request.
use Rattle.zv_command.proofs.Common.{◌≡◌, ℕ, List, Option, true, refl}
use Rattle.zv_command.specs.Reading.{outcome_of}
use Rattle.zv_command.specs.declared.reader.Progress.{Progress}

-- after a bad line no other counts
pub bad_stays : {A : Type 0} (with_line : A → List ℕ → Option A) (p : Progress A) (xs ys : List (List ℕ)) → p.bad ≡ true
    → outcome_of with_line p xs ≡ outcome_of with_line p ys
unfolding outcome_of
bad_stays with_line p xs ys is = rw is refl
