-- One more that was written.
use Rattle.std.proofs.Common.{◌≡◌, List, [], ◌∷◌, ◌++◌, map, Option, Some, None, Result, Ok, refl, ap, ◌∙◌, subst, append_assoc}
use Rattle.std.proofs.lemmas.List.{map_push}
use Rattle.serde_json.specs.Data.{Data}
use Rattle.serde_json.specs.View.{view}
use Rattle.serde_json.specs.declared.value.Value.{Value}
use Rattle.zv_json.specs.Arrays.{all_written, then_written}
use Rattle.zv_json.specs.Json.{UnlessMemory, or_wide}
use Rattle.zv_json.specs.declared.error.JsonError.{JsonError}

joins : (done : List Data) (d : Data) (rest : Option (List Data)) → then_written (done ++ d ∷ []) rest ≡ then_written done (then_written (d ∷ []) rest)
joins done d None = refl
joins done d (Some xs) = ap Some (append_assoc done (d ∷ []) xs)

one_more : (done : List Data) (o : Option Data) (d : Data) (rest : List (Option Data)) → or_wide o ≡ Ok d
    → then_written (done ++ d ∷ []) (all_written rest) ≡ then_written done (all_written (o ∷ rest))
one_more done None d rest e = cc
one_more done (Some x) d rest e = let same : x ≡ d = cc in rw (same, joins done d (all_written rest)) refl

-- what is left, once the first of it was written
pub wrote_more : {A : Type 0} (f : A → Option Data) (done : List Data) (x : A) (rest left : List A) (d : Data) → left ≡ x ∷ rest → or_wide (f x) ≡ Ok d
    → then_written (done ++ d ∷ []) (all_written (map f rest)) ≡ then_written done (all_written (map f left))
wrote_more f done x rest left d is e = rw is (one_more done (f x) d (map f rest) e)

-- a value that was pushed, and what is written behind it
pub pushed_more : {A : Type 0} (done more all : List Value) (v : Value) (o : Option Data) (rest : List (Option Data)) (answer : Result A JsonError)
    → or_wide o ≡ Ok (view v) → more ≡ done ++ v ∷ [] → UnlessMemory (λ _. map view all) (or_wide (then_written (map view more) (all_written rest))) answer
    → UnlessMemory (λ _. map view all) (or_wide (then_written (map view done) (all_written (o ∷ rest)))) answer
pushed_more done more all v o rest answer is pushed h =
    let wrote = ap (λ some. then_written (map view some) (all_written rest)) pushed
    ∙ ap (λ some. then_written some (all_written rest)) (map_push view done v) ∙ one_more (map view done) o (view v) rest is in
    subst (λ written. UnlessMemory (λ _. map view all) (or_wide written) answer) wrote h
