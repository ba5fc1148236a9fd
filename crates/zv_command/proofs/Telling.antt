-- What is told of an input.
use Rattle.zv_command.proofs.Common.{◌≡◌, ◌∙◌, ◌⊎◌, ℕ, ◌≤◌, List, length, ap, inl, inr, Some, None, IfSome, IsTrue, Option, Result}
use Rattle.zv_command.proofs.Common.{MAX_INPUT, Status, WriteFault, CutShort, Rose, Written, Due, Sent, Tells, is_answer, due_or}
use Rattle.zv_command.specs.Runs.{IsWantedStatus, IsWantedUnless, Wanted, WantedText, of_input}

-- ---- texts that are sent

-- a text that is due
pub tells_sent : {K : Type 0} {taken : K → Option (List ℕ)} {faults : K → ℕ} {old new : K} {result : Status} {due : Due}
    (text : List ℕ) → IsTrue (is_answer due.status) → due.Text text → Sent result due.status text (taken old) (taken new) (faults old) (faults new)
    → faults old ≤ faults new → Tells taken faults old new result due
tells_sent text is wanted (inl sent) later = record {
  status = λ _. sent.0;
  written = λ _. (text, wanted, sent.1);
  other = inl (ap is_answer sent.0 ∙ is);
  memory = λ same. absurd (cc (ap is_answer sent.0, ap is_answer same));
  fault = λ same. absurd (cc (ap is_answer sent.0, ap is_answer same));
  cut = λ same. absurd (cc (ap is_answer sent.0, ap is_answer same));
  later = later;
}
tells_sent text is wanted (inr cut) later = record {
  status = λ answer. absurd (cc (ap is_answer cut.0));
  written = λ answer. absurd (cc (ap is_answer cut.0));
  other = inr (inr cut.0);
  memory = λ same. absurd (cc cut.0);
  fault = λ _. cut.1;
  cut = λ _. (text, wanted, cut.2);
  later = later;
}

-- ---- inputs that are read to their end

-- what is told of an input, which may be unknown; R may be why a read failed
pub record IsTold {K : Type 0} (taken : K → Option (List ℕ)) (faults : K → ℕ) (old new : K) (result : Status) (wanted : Wanted) (left : Option (List ℕ))
    (R : Type 0) : Type 0 where
  pub written : IsTrue (is_answer result) → Written (WantedText wanted left) (taken old) (taken new)
  pub status : IsTrue (is_answer result) → IsWantedStatus wanted left result
  pub cut : result ≡ WriteFault → CutShort (WantedText wanted left) (taken old) (taken new)
  pub complete : IsWantedUnless (R ⊎ Rose (faults old) (faults new)) wanted left result

module _ {A : Type 0} (due : List ℕ → A → Due) (asks : List ℕ → Result (List ℕ × A) ℕ) where
  -- of an input that asks this
  pub due_told : {K : Type 0} {taken : K → Option (List ℕ)} {faults : K → ℕ} {old new : K} {result : Status} (left : Option (List ℕ)) (R : Type 0)
      (asked : Result (List ℕ × A) ℕ) → IfSome left (λ input. length input ≤ MAX_INPUT) → IfSome left (λ input. asks input ≡ asked)
      → Tells taken faults old new result (due_or due asked) → IsTold taken faults old new result (of_input (λ input. due_or due (asks input))) left R
  due_told None R asked within is t = record {
    written = λ answer. let w = t.written answer in (w.0, tt, w.2);
    status = λ answer. tt;
    cut = λ failed. let w = t.cut failed in (w.0, tt, w.2);
    complete = tt;
  }
  due_told (Some input) R asked within is t = record {
    written = λ answer. let w = t.written answer in (w.0, (within, rw is w.1), w.2);
    status = λ answer. rw is (t.status answer);
    cut = λ failed. let w = t.cut failed in (w.0, (within, rw is w.1), w.2);
    complete = λ _. elim t.other [
      | inl answer ↦ inl (rw is (t.status answer))
      | inr (inl memory) ↦ inr (inl memory)
      | inr (inr failed) ↦ inr (inr (inr (t.fault failed)))
    ];
  }
