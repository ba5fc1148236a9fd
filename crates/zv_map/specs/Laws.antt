-- The laws of lists in a layout: what they are written as spells them, and their elements are the
-- kind's. These are proofs.
use Rattle.std.specs.Prelude.{◌≡◌, ℕ, zero, suc, ◌*◌, ◌/◌, ◌%◌, ◌<◌, ◌==◌, true, List, [], ◌∷◌}
use Rattle.std.specs.Prelude.{◌++◌, length, take, drop, Option, Some, None, is_none, IsTrue, refl}
use Rattle.std.proofs.Common.{ap, sym, ◌∙◌, subst, arith, length-drop}
use Rattle.std.proofs.Math.Nat.{suc-mul}
use Rattle.std.proofs.lemmas.Bool.Decides.{nat_tests}
use Rattle.std.proofs.lemmas.Grind.{common_steps}
use Rattle.std.proofs.lemmas.List.{take-append-drop, nil_from_length}
use Rattle.std.proofs.lemmas.Nat.{div-add-mod'}
use Rattle.std.specs.List.{concat}
use Rattle.zv_ule.specs.Bytes.{IsBytes}
use Rattle.zv_ule.specs.Chunks.{chunks, chunks_of, first_fault}
use Rattle.zv_ule.specs.declared.error.UleError.{UleError}
use Rattle.zv_var.specs.Format.{Part, elements, enc, list_fault}
use Rattle.zv_var.specs.declared.error.VarZeroVecFormatError.{VarZeroVecFormatError}
use Rattle.zv_var.proofs.Read.{Part_from_fault}
use Rattle.zv_map.specs.Layouts.{field_width, is_fixed, list_in, spells_in, encoding_in}
use Rattle.zv_map.specs.declared.view.Layout.{Layout}
use Rattle.zv_map.specs.declared.view.Layout.TheVariants.{Fixed, Index16, Index32}

-- ---- elements of one width

-- the chunks one after another are the bytes
concat_chunks : (w n : ℕ) (b : List ℕ) → length b ≡ n * w → concat (chunks w n b) ≡ b
concat_chunks w zero b long = sym (nil_from_length b (omega (arith, long)))
concat_chunks w (suc n) b long =
    let rest : length (drop w b) ≡ n * w = omega (arith, length-drop w b, long, suc-mul n w) in
    ap (λ l. take w b ++ l) (concat_chunks w n (drop w b) rest) ∙ take-append-drop w b

-- bytes that spell a list of that width are whole chunks without a fault
pub fixed_parts : (w : ℕ) (K : List ℕ → Option UleError) (b : List ℕ) →
    IsTrue (spells_in (Fixed w) K b) →
    (length b % w ≡ 0) × (first_fault K (chunks_of w b) ≡ None)
fixed_parts w K b h =
    (grind (arith, nat_tests, common_steps), grind (arith, nat_tests, common_steps))

-- and the list is written as these bytes
pub fixed_written : (w : ℕ) (K : List ℕ → Option UleError) (b : List ℕ) →
    IsTrue (spells_in (Fixed w) K b) → b ≡ concat (chunks_of w b)
fixed_written w K b h =
    let whole = div-add-mod' (length b) w in
    sym (concat_chunks w (length b / w) b (omega (arith, whole, (fixed_parts w K b h).0)))

pub is_fixed_self : (w : ℕ) → is_fixed w (Fixed w) ≡ true
is_fixed_self w = grind (arith, nat_tests)

-- ---- elements of any length, with fields of w bytes

pub no_fault : (o : Option VarZeroVecFormatError) → IsTrue (is_none o) → o ≡ None
no_fault = elim [ None ↦ λ h. refl | Some x ↦ λ h. cc ]

module _ (w : ℕ) (K : List ℕ → Option UleError) (b : List ℕ) where
  fault_again : (xs : List (List ℕ)) → Part w b xs → IsTrue (is_none (list_fault w K b)) →
      IsTrue (is_none (list_fault w K (enc w xs)))
  fault_again [] p h = refl
  fault_again (x ∷ xs) p h = subst (λ c. IsTrue (is_none (list_fault w K c))) p.1 h

  elements_again : (xs : List (List ℕ)) → Part w b xs → elements w b ≡ xs →
      elements w (enc w xs) ≡ xs
  elements_again [] p e = refl
  elements_again (x ∷ xs) p e = ap (elements w) (sym p.1) ∙ e

  all_of_it : (xs : List (List ℕ)) → Part w b xs → 0 < length xs → b ≡ enc w xs
  all_of_it [] p some = absurd (omega (arith, some))
  all_of_it (x ∷ xs) p some = p.1

  module _ (some : 0 < w) (each : IsBytes b) (sound : IsTrue (is_none (list_fault w K b))) where
    part : Part w b (elements w b)
    part = Part_from_fault w K b some each (no_fault (list_fault w K b) sound)

    encoding_sound : IsTrue (is_none (list_fault w K (enc w (elements w b))))
    encoding_sound = fault_again (elements w b) part sound

    encoding_reads : elements w (enc w (elements w b)) ≡ elements w b
    encoding_reads = elements_again (elements w b) part refl

    encoding_is : 0 < length (elements w b) → b ≡ enc w (elements w b)
    encoding_is = all_of_it (elements w b) part

-- ---- any layout

pub written_none : (layout : Layout) → encoding_in layout [] ≡ []
written_none (Fixed w) = refl
written_none Index16 = refl
written_none Index32 = refl

module _ (K : List ℕ → Option UleError) (b : List ℕ) (each : IsBytes b) where
  -- bytes that spell a list that isn't empty are all that it is written as
  pub written_is : (layout : Layout) → IsTrue (spells_in layout K b) →
      0 < length (list_in layout b) → b ≡ encoding_in layout (list_in layout b)
  written_is (Fixed w) h some = fixed_written w K b h
  written_is Index16 h some = encoding_is 2 K b (omega arith) each h some
  written_is Index32 h some = encoding_is 4 K b (omega arith) each h some

  -- what the list is written as has no fault
  pub written_spells : (layout : Layout) → IsTrue (spells_in layout K b) →
      IsTrue (spells_in layout K (encoding_in layout (list_in layout b)))
  written_spells (Fixed w) h =
      subst (λ c. IsTrue (spells_in (Fixed w) K c)) (fixed_written w K b h) h
  written_spells Index16 h = encoding_sound 2 K b (omega arith) each h
  written_spells Index32 h = encoding_sound 4 K b (omega arith) each h

  -- and reads as the list
  pub written_reads : (layout : Layout) → IsTrue (spells_in layout K b) →
      list_in layout (encoding_in layout (list_in layout b)) ≡ list_in layout b
  written_reads (Fixed w) h = ap (chunks_of w) (sym (fixed_written w K b h))
  written_reads Index16 h = encoding_reads 2 K b (omega arith) each h
  written_reads Index32 h = encoding_reads 4 K b (omega arith) each h

-- whether the fields are w bytes wide, as a test
pub layout_has : (layout : Layout) (w : ℕ) → field_width layout ≡ w →
    (field_width layout == w) ≡ true
layout_has layout w e = grind (arith, nat_tests)
