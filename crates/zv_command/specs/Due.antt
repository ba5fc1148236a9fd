-- How a run ends, and what is told.
use Rattle.std.specs.Prelude.{◌≡◌, ◌⊎◌, ◌≤◌, ℕ, Bool, true, false, List, IsTrue}
use Rattle.std.specs.declared.option.Option.{Option}
use Rattle.std.specs.Io.KnownBytes.{Appends}
use Rattle.zv_devices.specs.Devices.{Rose, AppendsPrefix, CutShort, Written}
use Rattle.zv_command.specs.Text.{bad_line}
use Rattle.zv_command.specs.declared.status.Status.{Status}
use Rattle.zv_command.specs.declared.status.Status.TheVariants.{Done, Usage, ReadFault, TooLong}
use Rattle.zv_command.specs.declared.status.Status.TheVariants.{BadLine, BadImage, Memory}
use Rattle.zv_command.specs.declared.status.Status.TheVariants.{WriteFault}

-- ---- statuses

-- whether a status says that the input was read to its end and answered
abbrev pub is_answer : Status → Bool
is_answer Done = true
is_answer BadLine = true
is_answer BadImage = true
is_answer status = false

-- whether a status says that a text was written whole
abbrev pub is_written : Status → Bool
is_written Usage = true
is_written status = is_answer status

-- whether a status says that nothing was written
abbrev pub is_silent : Status → Bool
is_silent ReadFault = true
is_silent TooLong = true
is_silent Memory = true
is_silent status = false

-- the number of a status
abbrev pub code_of : Status → ℕ
code_of Done = 0
code_of Usage = 1
code_of ReadFault = 2
code_of TooLong = 3
code_of BadLine = 4
code_of BadImage = 5
code_of Memory = 6
code_of WriteFault = 7

-- ---- what is due

-- the texts that may be written, and the status that each is written with
pub record Due : Type 1 where
  pub Text : List ℕ → Type 0
  pub status : Status

-- one text and its status
abbrev pub text_due : List ℕ → Status → Due
text_due text status = record { Text = λ other. other ≡ text; status = status }

-- the line that names the first bad line
abbrev pub bad_line_due : ℕ → Due
bad_line_due number = text_due (bad_line number) BadLine

-- ---- what is told

-- A text was taken whole and the status stands, or the sink failed and took a prefix.
abbrev pub Sent : Status → Status → List ℕ → Option (List ℕ) → Option (List ℕ) → ℕ → ℕ → Type 0
Sent result status text old new before now = ((result ≡ status) × Appends old new text)
    ⊎ ((result ≡ WriteFault) × Rose before now × AppendsPrefix old new text)

-- A text that is due was taken whole with its status; or no memory was given and nothing was taken;
-- or the sink failed and took a prefix.
pub record Tells {K : Type 0} (taken : K → Option (List ℕ)) (faults : K → ℕ) (old new : K)
    (result : Status) (due : Due) : Type 0 where
  pub status : IsTrue (is_answer result) → result ≡ due.status
  pub written : IsTrue (is_answer result) → Written due.Text (taken old) (taken new)
  pub other : IsTrue (is_answer result) ⊎ (result ≡ Memory) ⊎ (result ≡ WriteFault)
  pub memory : result ≡ Memory → new ≡ old
  pub fault : result ≡ WriteFault → Rose (faults old) (faults new)
  pub cut : result ≡ WriteFault → CutShort due.Text (taken old) (taken new)
  pub later : faults old ≤ faults new
