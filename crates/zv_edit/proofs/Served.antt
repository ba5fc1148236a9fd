-- Commands, one after another.
use Rattle.zv_edit.proofs.Common.{arith, ◌≡◌, ℕ, suc, zero, ◌∙◌, List, [], ◌∷◌, ◌++◌, drop, take, sym, ap, Result, OnErr, OnOk, Rows}
use Rattle.zv_edit.proofs.Common.{Command, next, last}
use Rattle.std.proofs.Common.{Err, Ok, false}
use Rattle.std.proofs.lemmas.List.{append-nil, take-append-drop}
use Rattle.std.specs.Result.{is_err}

-- one command more has run
pub next_command : (m : Rows) (cs : List Command) (i : ℕ) (c : Command) (rest : List Command) → drop i cs ≡ c ∷ rest
    → (drop (suc i) cs ≡ rest) × (next (last m (take i cs)) c ≡ last m (take (suc i) cs))
next_command m [] zero c rest is = absurd cc
next_command m [] (suc i) c rest is = absurd cc
next_command m (d ∷ cs) zero c rest is = (cc, cc)
next_command m (d ∷ cs) (suc i) c rest is = next_command (next m d) cs i c rest is

-- all have run
pub ran_all : (m : Rows) (cs : List Command) (i : ℕ) (n : Rows) → n ≡ last m (take i cs) → drop i cs ≡ [] → n ≡ last m cs
ran_all m cs i n ran none =
    ran ∙ ap (last m) (sym (append-nil (take i cs)) ∙ ap (λ rest. take i cs ++ rest) (sym none) ∙ take-append-drop i cs)

-- what holds anyhow
pub at_err : {T E P : Type 0} (r : Result T E) → P → OnErr r P
at_err r p = grind arith

pub at_ok : {T E P : Type 0} (r : Result T E) → P → OnOk r P
at_ok r p = grind arith

-- what holds where there is no error
pub made : {T E P : Type 0} (r : Result T E) → false ≡ is_err r → OnOk r P → P
made (Ok x) none h = h
made (Err e) none h = absurd cc
