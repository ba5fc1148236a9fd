-- What is on its way to a sink.
use Rattle.std.specs.Prelude.{◌≡◌, ℕ, List, ◌++◌, Result, MatchResult}
use Rattle.std.specs.declared.option.Option.{Option}
use Rattle.std.specs.Io.KnownBytes.{Appends}
use Rattle.zv_devices.specs.Devices.{HasCause, AppendsPrefix}
use Rattle.zv_devices.specs.declared.device.Failed.{Failed}
use Rattle.zv_command.specs.declared.output.Output.{Output}

-- Ok: of what waited and the text, a part was sent and the rest waits. Err: a prefix was sent.
abbrev pub Passes : Option (List ℕ) → List ℕ → Option (List ℕ) → List ℕ → Result Unit Failed →
    List ℕ → Type 0
Passes old before new after result text = MatchResult result
    (λ _. (sent : List ℕ) × Appends old new sent × (before ++ text ≡ sent ++ after))
    (λ _. AppendsPrefix old new (before ++ text))

-- an output took a text: whole, or it failed and a prefix of what waited and the text was sent
pub record Sends {K : Type 0} (taken : K → Option (List ℕ)) (faults : K → ℕ)
    (before after : Output K) (result : Result Unit Failed) (text : List ℕ) : Type 0 where
  pub same : after.sink.ghost_name ≡ before.sink.ghost_name
  pub bytes : Passes (taken before.sink.now) before.piece (taken after.sink.now) after.piece
      result text
  pub cause : HasCause (faults before.sink.now) (faults after.sink.now) result
