-- What is due to an image, by its fault, and told.
use Rattle.std.proofs.Common.{◌≡◌, ℕ, List, ap, inl, inr, refl, Some, None, Result, Ok, Err, Option}
use Rattle.zv_map2d.specs.Image.{fault}
use Rattle.zv_map2d.specs.declared.error.EditError.{EditError}
use Rattle.zv_command.specs.Due.{Tells}
use Rattle.zv_command.specs.declared.status.Status.{Status}
use Rattle.zv_command.specs.declared.status.Status.TheVariants.{Done}
use Rattle.zv_command.proofs.Telling.{tells_sent}
use Rattle.zv_devices.specs.Devices.{HasCause, Takes}
use Rattle.zv_devices.specs.declared.device.Failed.{Failed}
use Rattle.zv_image.specs.Due.{cause_due, fault_due, image_due, status_of}

-- an answer, told whole or cut short
pub told : {K : Type 0} {taken : K → Option (List ℕ)} {faults : K → ℕ} {old new : K} {result : Status} (Answer : List ℕ → Type 0) (text : List ℕ)
    (r : Result Unit Failed) → Answer text → Takes (taken old) (taken new) r text → HasCause (faults old) (faults new) r → result ≡ status_of r
    → Tells taken faults old new result (record { Text = Answer; status = Done })
told Answer text (Ok u) is taken cause ends = tells_sent text refl is (inl (ends, taken)) cause.later
told Answer text (Err e) is taken cause ends = tells_sent text refl is (inr (ends, cause.failed, taken)) cause.later

module _ (image : List ℕ) (Answer : List ℕ → Type 0) where
  -- a refused image
  pub refused : (cause : EditError) → fault image ≡ Some cause → image_due image Answer ≡ cause_due cause
  unfolding image_due
  refused cause is = ap (λ f. fault_due f Answer) is

  -- another
  pub sound : fault image ≡ None → image_due image Answer ≡ record { Text = Answer; status = Done }
  unfolding image_due
  sound is = ap (λ f. fault_due f Answer) is

  -- an answer on it
  pub answered : {K : Type 0} {taken : K → Option (List ℕ)} {faults : K → ℕ} {old new : K} {result : Status} (text : List ℕ) (r : Result Unit Failed)
      → fault image ≡ None → Answer text → Takes (taken old) (taken new) r text → HasCause (faults old) (faults new) r → result ≡ status_of r
      → Tells taken faults old new result (image_due image Answer)
  answered text r none is taken cause ends = rw (sound none) (told Answer text r is taken cause ends)
