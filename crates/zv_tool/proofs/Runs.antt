-- What no memory excuses, what is told at once, and words whose first is no name.
use Rattle.std.proofs.Common.{◌≡◌, Option, Some, None, List, [], ◌∷◌, ℕ, refl, inl, inr, arith}
use Rattle.std.specs.Prelude.{IsFalse}
use Rattle.zv_command.specs.Due.{Due, Tells}
use Rattle.zv_command.specs.Runs.{IsWantedUnless, Runs, Wanted, at_once, of_input}
use Rattle.zv_command.specs.declared.status.Status.{Status}
use Rattle.zv_command.specs.declared.status.Status.TheVariants.{Memory}
use Rattle.zv_tool.specs.Forms.{form_of, names_form}

pub memory_unless : (Failed : Type 0) (wanted : Wanted) (left : Option (List ℕ)) → IsWantedUnless Failed wanted left Memory
memory_unless Failed (of_input due) None = tt
memory_unless Failed (of_input due) (Some input) = λ within. inr (inl refl)
memory_unless Failed (at_once due) left = inr (inl refl)

-- a source is untouched where what is due without it is told
pub told_at_once : {S K : Type 0} (left : S → Option (List ℕ)) (read_faults : S → ℕ) {taken : K → Option (List ℕ)} {faults : K → ℕ} (source : S) {old new : K}
    {result : Status} {due : Due} → Tells taken faults old new result due → Runs left read_faults taken faults source source old new result (at_once due)
told_at_once left read_faults source t = record {
  written = t.written;
  status = t.status;
  other = grind (arith, t.other);
  silent = grind (arith, t.other, t.memory);
  cut = t.cut;
  end = grind arith;
  untouched = λ _. refl;
  complete = grind (arith, t.other, t.status);
  read_fault = grind (arith, t.other);
  too_long = grind (arith, t.other);
  write_fault = t.fault;
  later_reads = omega arith;
  later_writes = t.later;
}

-- words whose first names no form are none
pub unnamed : (words : List (List ℕ)) → IsFalse (names_form words) → form_of words ≡ None
unnamed [] named = refl
unnamed (a ∷ []) named = grind arith
unnamed (a ∷ b ∷ []) named = grind arith
unnamed (a ∷ b ∷ c ∷ []) named = grind arith
unnamed (a ∷ b ∷ c ∷ d ∷ words) named = grind arith
