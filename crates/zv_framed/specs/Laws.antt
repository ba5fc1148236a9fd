-- The laws of containers in one layout. These are proofs.
use Rattle.std.specs.Prelude.{◌≡◌, ℕ, ◌<◌, ◌==◌, true, List, Option, None, IsTrue, refl}
use Rattle.std.proofs.Common.{ap, arith}
use Rattle.std.proofs.lemmas.Bool.Decides.{nat_tests}
use Rattle.zv_ule.specs.declared.error.UleError.{UleError}
use Rattle.zv_var.specs.Format.{elements, list_fault}
use Rattle.zv_var.specs.Nested.{slice_fault}
use Rattle.zv_map.specs.Laws.{no_fault}
use Rattle.zv_map.specs.Layouts.{field_width, is_fixed, list_in, spells_in}
use Rattle.zv_map.specs.declared.view.Layout.{Layout}
use Rattle.zv_map.specs.declared.view.Layout.TheVariants.{Fixed, Index16, Index32}

-- one layout has elements of w bytes
pub fixed_alone : {w : ℕ} (layout : Layout) → is_fixed w layout ≡ true → layout ≡ Fixed w
fixed_alone (Fixed given) h = grind (arith, nat_tests)
fixed_alone Index16 h = cc
fixed_alone Index32 h = cc

-- and one has elements of any length with fields of w bytes
module _ {w : ℕ} (some : 0 < w) where
  pub fields_alone : (own : Layout) → field_width own ≡ w → (layout : Layout) →
      (field_width layout == w) ≡ true → layout ≡ own
  fields_alone (Fixed n) e layout h = absurd (omega (arith, some, e))
  fields_alone own e (Fixed n) h = grind (arith, nat_tests)
  fields_alone Index16 e Index16 h = refl
  fields_alone Index16 e Index32 h = grind (arith, nat_tests)
  fields_alone Index32 e Index16 h = grind (arith, nat_tests)
  fields_alone Index32 e Index32 h = refl

  pub fields_sound : (own : Layout) → field_width own ≡ w → (fault : List ℕ → Option UleError)
      (b : List ℕ) → IsTrue (spells_in own fault b) → slice_fault (list_fault w fault b) ≡ None
  fields_sound (Fixed n) e fault b h = absurd (omega (arith, some, e))
  fields_sound Index16 e fault b h = rw (← e) (ap slice_fault (no_fault (list_fault 2 fault b) h))
  fields_sound Index32 e fault b h = rw (← e) (ap slice_fault (no_fault (list_fault 4 fault b) h))

  pub fields_read : (own : Layout) → field_width own ≡ w → (b : List ℕ) →
      elements w b ≡ list_in own b
  fields_read (Fixed n) e b = absurd (omega (arith, some, e))
  fields_read Index16 e b = rw (← e) refl
  fields_read Index32 e b = rw (← e) refl
