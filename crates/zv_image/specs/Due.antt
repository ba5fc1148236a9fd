-- What is due to an image.
use Rattle.std.specs.Prelude.{ℕ, List, Result, Ok, Err}
use Rattle.std.specs.declared.option.Option.{Option}
use Rattle.std.specs.declared.option.Option.TheVariants.{Some, None}
use Rattle.zv_map2d.specs.declared.error.EditError.{EditError}
use Rattle.zv_map2d.specs.Image.{fault}
use Rattle.zv_command.specs.Due.{Due, text_due}
use Rattle.zv_command.specs.declared.status.Status.{Status}
use Rattle.zv_command.specs.declared.status.Status.TheVariants.{BadImage, Done, WriteFault}
use Rattle.zv_devices.specs.declared.device.Failed.{Failed}
use Rattle.zv_image.specs.Text.{cause_line}

-- the line of a cause, where an image is refused
abbrev pub cause_due : EditError → Due
cause_due cause = text_due (cause_line cause) BadImage

-- the line of a fault, or these texts where there is none
abbrev pub fault_due : Option EditError → (List ℕ → Type 0) → Due
fault_due None Answer = record { Text = Answer; status = Done }
fault_due (Some cause) Answer = cause_due cause

-- the line of an image's first fault, or these texts where it has none
unfoldable pub image_due : List ℕ → (List ℕ → Type 0) → Due
image_due image Answer = fault_due (fault image) Answer

-- how an answer ends that was written, or of which a write failed
abbrev pub status_of : Result Unit Failed → Status
status_of (Ok u) = Done
status_of (Err e) = WriteFault
