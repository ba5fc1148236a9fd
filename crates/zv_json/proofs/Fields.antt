-- The fields of a record that is read.
use Rattle.std.proofs.Common.{◌≡◌, ◌<◌, ◌-◌, List, [], ◌∷◌, map, length, take, drop, get_or, Option, None, Result, Ok, Err}
use Rattle.std.proofs.Common.{sym, ap, subst, ◌∙◌, arith, take_all}
use Rattle.std.specs.Prelude.{ℕ, IfOk, OnOk}
use Rattle.serde_json.specs.Data.{Data}
use Rattle.serde_json.specs.View.{view}
use Rattle.serde_json.specs.declared.value.Value.{Value}
use Rattle.zv_json.specs.Json.{and_then}
use Rattle.zv_json.specs.Records.{read_field}
use Rattle.zv_json.specs.declared.error.JsonError.{JsonError}
use Rattle.zv_multi.proofs.Faults.{behind_first}
use Rattle.zv_multi.specs.Records.{fields_fault}
use Rattle.zv_ule.specs.declared.error.UleError.{UleError}

valid_first : {A : Type 0} (K : List ℕ → Option UleError) (Ks : List (List ℕ → Option UleError)) (x : List ℕ) (r : Result (List (List ℕ)) JsonError)
    (answer : Result A JsonError) → K x ≡ None → IfOk r (λ xs. OnOk answer (fields_fault Ks 0 xs ≡ None))
    → IfOk (and_then r (λ xs. Ok (x ∷ xs))) (λ xs. OnOk answer (fields_fault (K ∷ Ks) 0 xs ≡ None))
valid_first K Ks x (Err e) answer good h = tt
valid_first K Ks x (Ok xs) (Err e) good h = tt
valid_first K Ks x (Ok xs) (Ok u) good h = rw (good, behind_first Ks x xs) h

-- the first item has no fault, nor do those behind it
pub read_valid : {A : Type 0} (first : Data → Result (List ℕ) JsonError) (behind : List Data → Result (List (List ℕ)) JsonError)
    (K : List ℕ → Option UleError) (Ks : List (List ℕ → Option UleError)) (items : List Value) (item : Value) (x : List ℕ) (answer : Result A JsonError)
    → 0 < length items → item ≡ get_or items 0 item → first (view item) ≡ Ok x → K x ≡ None
    → IfOk (behind (map view (take (length items - 1) (drop 1 items)))) (λ xs. OnOk answer (fields_fault Ks 0 xs ≡ None))
    → IfOk (read_field first behind (map view items)) (λ xs. OnOk answer (fields_fault (K ∷ Ks) 0 xs ≡ None))
read_valid first behind K Ks [] item x answer some same is good h = absurd (omega arith)
read_valid first behind K Ks (v ∷ vs) item x answer some same is good h =
    let found : first (view v) ≡ Ok x = ap (λ y. first (view y)) (sym same) ∙ is in
    let all = take_all (length (v ∷ vs) - 1) vs (omega arith) in
    let rest = subst (λ ys. IfOk (behind (map view ys)) (λ xs. OnOk answer (fields_fault Ks 0 xs ≡ None))) all h in
    rw found (valid_first K Ks x (behind (map view vs)) answer good rest)
