-- What a run does: what is wanted of it, and what it tells.
use Rattle.std.specs.Prelude.{◌≡◌, ◌⊎◌, ◌<◌, ◌≤◌, ℕ, Bool, true, false, List, length}
use Rattle.std.specs.Prelude.{IfSome, IsFalse, IsTrue}
use Rattle.std.specs.declared.option.Option.{Option}
use Rattle.std.specs.Io.KnownBytes.{IsAtEnd}
use Rattle.zv_devices.specs.Devices.{CutShort, Rose, Written}
use Rattle.zv_command.specs.Due.{Due, is_answer, is_silent}
use Rattle.zv_command.specs.declared.reader.TheConstants.{MAX_INPUT}
use Rattle.zv_command.specs.declared.status.Status.{Status}
use Rattle.zv_command.specs.declared.status.Status.TheVariants.{Memory, ReadFault, TooLong}
use Rattle.zv_command.specs.declared.status.Status.TheVariants.{WriteFault}

-- what is wanted: what is due to the input, which is read, or what is due without it
pub data Wanted : Type 1 where
  of_input : (List ℕ → Due) → Wanted
  at_once : Due → Wanted

-- whether the input is read
abbrev pub reads_input : Wanted → Bool
reads_input (of_input due) = true
reads_input (at_once due) = false

-- A text that is wanted: of an input that is known, it is within the limit.
abbrev pub WantedText : Wanted → Option (List ℕ) → List ℕ → Type 0
WantedText (of_input due) input text =
    IfSome input (λ bytes. (length bytes ≤ MAX_INPUT) × (due bytes).Text text)
WantedText (at_once due) input text = due.Text text

-- The status is the one that is wanted.
abbrev pub IsWantedStatus : Wanted → Option (List ℕ) → Status → Type 0
IsWantedStatus (of_input due) input status = IfSome input (λ bytes. status ≡ (due bytes).status)
IsWantedStatus (at_once due) input status = status ≡ due.status

-- The status is the one that is due, of an input within the limit, unless no memory was given or
-- something failed.
abbrev pub IsWantedUnless : Type 0 → Wanted → Option (List ℕ) → Status → Type 0
IsWantedUnless Failed (of_input due) input status = IfSome input (λ bytes.
    length bytes ≤ MAX_INPUT → (status ≡ (due bytes).status) ⊎ (status ≡ Memory) ⊎ Failed)
IsWantedUnless Failed (at_once due) input status =
    (status ≡ due.status) ⊎ (status ≡ Memory) ⊎ (status ≡ WriteFault)

-- What is wanted is read and told, by a source and a sink of which this is known.
pub record Runs {S K : Type 0} (left : S → Option (List ℕ)) (read_faults : S → ℕ)
    (taken : K → Option (List ℕ)) (faults : K → ℕ) (before after : S) (old new : K)
    (result : Status) (wanted : Wanted) : Type 0 where
  pub written : IsTrue (is_answer result)
      → Written (WantedText wanted (left before)) (taken old) (taken new)
  pub status : IsTrue (is_answer result) → IsWantedStatus wanted (left before) result
  pub other : IsTrue (is_answer result) ⊎ IsTrue (is_silent result) ⊎ (result ≡ WriteFault)
  pub silent : IsTrue (is_silent result) → new ≡ old
  pub cut : result ≡ WriteFault
      → CutShort (WantedText wanted (left before)) (taken old) (taken new)
  pub end : IsTrue (reads_input wanted) → IsTrue (is_answer result) → IsAtEnd (left after)
  pub untouched : IsFalse (reads_input wanted) → after ≡ before
  pub complete : IsWantedUnless
      (Rose (read_faults before) (read_faults after) ⊎ Rose (faults old) (faults new))
      wanted (left before) result
  pub read_fault : result ≡ ReadFault → Rose (read_faults before) (read_faults after)
  pub too_long : result ≡ TooLong → IfSome (left before) (λ input. MAX_INPUT < length input)
  pub write_fault : result ≡ WriteFault → Rose (faults old) (faults new)
  pub later_reads : read_faults before ≤ read_faults after
  pub later_writes : faults old ≤ faults new
