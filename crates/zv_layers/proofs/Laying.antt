-- Images, laid one after another, and what is due to them.
use Rattle.zv_layers.proofs.Common.{◌+◌, ◌<◌, ◌∙◌, ◌∷◌, ◌≡◌, Global, IsLaid, IsRefusalOf, Leaves, List, None, Option, Result, Rows, Some, Vec, [], ap, arith}
use Rattle.zv_layers.proofs.Common.{bytes_of_all, drop, drop_more, fault_or, first_fault, get_or, laid_due, layer_line, length, refl, subst, sym, ℕ}
use Rattle.zv_command.specs.Due.{Tells, text_due}
use Rattle.zv_command.specs.declared.status.Status.{Status}
use Rattle.zv_command.specs.declared.status.Status.TheVariants.{BadImage, Done}
use Rattle.zv_devices.specs.Devices.{HasCause, Takes}
use Rattle.zv_devices.specs.declared.device.Failed.{Failed}
use Rattle.zv_image.proofs.Faults.{told}
use Rattle.zv_image.specs.Due.{status_of}
use Rattle.zv_layers.specs.Requests.{layers_due}
use Rattle.zv_layers.specs.declared.form.Refusal.{Refusal}
use Rattle.zv_layers.specs.declared.form.Refusal.TheVariants.{Fault, Memory}
use Rattle.zv_map2d.specs.Image.{fault}
use Rattle.zv_map2d.specs.declared.error.EditError.{EditError}

-- ---- one image after another

module _ (n : ℕ) (rest : Option (ℕ × EditError)) where
  -- an image without a fault leaves the fault of the others
  passed : (f : Option EditError) → fault_or n f None ≡ None → fault_or n f rest ≡ rest
  passed f is = grind arith

  -- and one with a fault is the first that has one
  caught : (f : Option EditError) {x : ℕ × EditError} → fault_or n f None ≡ Some x → fault_or n f rest ≡ Some x
  caught f is = grind arith

-- the images of all before number n were laid and left a map, and these are the others
pub record SoFar (all : List (List ℕ)) (n : ℕ) (m : Rows) (rest : List (List ℕ)) : Type 0 where
  pub fault : first_fault 1 all ≡ first_fault n rest
  pub leaves : (r : Rows) → Leaves m rest r → Leaves [] all r

pub none_yet : (all : List (List ℕ)) → SoFar all 1 [] all
none_yet all = record { fault = refl; leaves = λ r is. is }

-- the next one is laid, or it is refused
module _ {all : List (List ℕ)} {n : ℕ} {m : Rows} {image : List ℕ} {rest : List (List ℕ)} (at : SoFar all n m (image ∷ rest)) where
  pub one_more : {left : Rows} → (first_fault n (image ∷ []) ≡ None) × Leaves m (image ∷ []) left → SoFar all (n + 1) left rest
  one_more one = record {
    fault = at.fault ∙ passed n (first_fault (n + 1) rest) (fault image) one.0;
    leaves = λ r more. at.leaves r (one.1.0, one.1.1, subst (λ (left : Rows). Leaves left rest r) one.1.2 more);
  }

  pub one_refused : (refusal : Refusal) → IsRefusalOf n (image ∷ []) refusal → IsRefusalOf 1 all refusal
  one_refused (Fault layer cause) is = (at.fault ∙ caught n (first_fault (n + 1) rest) (fault image) is.0, is.1)
  one_refused Memory is = tt

-- the next one of a slice
pub next_image : {all : List (List ℕ)} {n : ℕ} {m : Rows} (images : List (Vec ℕ Global)) (i : ℕ) (image : Vec ℕ Global) → i < length images
    → image ≡ get_or images i image → SoFar all n m (bytes_of_all (drop i images)) → SoFar all n m (image.items ∷ bytes_of_all (drop (i + 1) images))
next_image {all} {n} {m} images i image within is at =
    subst (SoFar all n m) (ap bytes_of_all (drop_more images i image within ∙ ap (λ x. x ∷ drop (i + 1) images) (sym is))) at

-- none is left
pub all_laid : {all : List (List ℕ)} {n : ℕ} {m : Rows} → SoFar all n m [] → (first_fault 1 all ≡ None) × Leaves [] all m
all_laid at = (at.fault, at.leaves _ refl)

-- ---- what is due

module _ (first : List ℕ) (more : List (List ℕ)) where
  pub due_fault : {layer : ℕ} {cause : EditError} {refusal : Refusal} → refusal ≡ Fault layer cause → IsRefusalOf 1 (first ∷ more) refusal
      → layers_due first more ≡ text_due (layer_line layer cause) BadImage
  unfolding layers_due
  due_fault is refused = ap (λ f. laid_due f (IsLaid (first ∷ more))) (subst (IsRefusalOf 1 (first ∷ more)) is refused).0

  due_laid : first_fault 1 (first ∷ more) ≡ None → layers_due first more ≡ record { Text = IsLaid (first ∷ more); status = Done }
  unfolding layers_due
  due_laid is = ap (λ f. laid_due f (IsLaid (first ∷ more))) is

  -- an answer on images without a fault
  pub answered : {K : Type 0} {taken : K → Option (List ℕ)} {faults : K → ℕ} {old new : K} {result : Status} (text : List ℕ) (r : Result Unit Failed)
      → first_fault 1 (first ∷ more) ≡ None → IsLaid (first ∷ more) text → Takes (taken old) (taken new) r text
      → HasCause (faults old) (faults new) r → result ≡ status_of r → Tells taken faults old new result (layers_due first more)
  answered text r none is taken cause ends = rw (due_laid none) (told (IsLaid (first ∷ more)) text r is taken cause ends)
