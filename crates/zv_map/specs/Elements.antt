-- The elements of a list that bytes spell are the kind's. These are proofs.
use Rattle.std.specs.Prelude.{◌≡◌, ℕ, zero, suc, ◌-◌, ◌*◌, ◌/◌, ◌<◌, ◌==◌, List, [], ◌∷◌}
use Rattle.std.specs.Prelude.{length, take, drop, Bool, true, false, if◌then◌else◌, Option, None}
use Rattle.std.specs.Prelude.{IsTrue, is_none}
use Rattle.std.proofs.Common.{arith}
use Rattle.std.specs.List.{AllByRecursion}
use Rattle.zv_ule.specs.Bytes.{IsBytes}
use Rattle.zv_ule.specs.Chunks.{chunks, first_fault}
use Rattle.zv_ule.specs.declared.error.UleError.{UleError}
use Rattle.zv_ule.specs.laws.Fields.{first_byte, later_bytes}
use Rattle.zv_ule.specs.laws.Joined.{back_bytes, or_none}
use Rattle.zv_ule.specs.laws.Spellings.{more_bytes, no_bytes}
use Rattle.zv_var.specs.Format.{body, count, elements, elements_after, ends, list_fault, pieces}
use Rattle.zv_var.proofs.Read.{valid_from_fault}
use Rattle.zv_map.specs.Keys.{IsElementOf}
use Rattle.zv_map.specs.Laws.{fixed_parts, no_fault}
use Rattle.zv_map.specs.Layouts.{list_in, spells_in}
use Rattle.zv_map.specs.declared.view.Layout.{Layout}
use Rattle.zv_map.specs.declared.view.Layout.TheVariants.{Fixed, Index16, Index32}

take_bytes : (n : ℕ) (b : List ℕ) → IsBytes b → IsBytes (take n b)
take_bytes zero b h = no_bytes
take_bytes (suc n) [] h = no_bytes
take_bytes (suc n) (x ∷ b) h =
    more_bytes x (take n b) (first_byte x b h) (take_bytes n b (later_bytes x b h))

module _ (K : List ℕ → Option UleError) where
  -- ---- elements of one width

  each_chunk : (w n : ℕ) (b : List ℕ) → IsBytes b → first_fault K (chunks w n b) ≡ None →
      AllByRecursion (IsElementOf K) (chunks w n b)
  each_chunk w zero b each good = tt
  each_chunk w (suc n) b each good =
      let both = or_none (K (take w b)) (first_fault K (chunks w n (drop w b))) good in (
        record { bytes = take_bytes w b each; valid = both.0 },
        each_chunk w n (drop w b) (back_bytes w b each) both.1,
      )

  -- ---- elements of any length

  each_piece : (d : List ℕ) (s : ℕ) (es : List ℕ) → IsBytes d →
      AllByRecursion (λ x. K x ≡ None) (pieces d s es) →
      AllByRecursion (IsElementOf K) (pieces d s es)
  each_piece d s [] each good = tt
  each_piece d s (e ∷ es) each good = (
    record { bytes = take_bytes (e - s) (drop s d) (back_bytes s d each); valid = good.0 },
    each_piece d e es each good.1,
  )

  unless : (c : Bool) (xs : List (List ℕ)) →
      (AllByRecursion (λ x. K x ≡ None) xs → AllByRecursion (IsElementOf K) xs) →
      AllByRecursion (λ x. K x ≡ None) (if c then [] else xs) →
      AllByRecursion (IsElementOf K) (if c then [] else xs)
  unless true xs f good = tt
  unless false xs f good = f good

  each_after : (w n : ℕ) (b : List ℕ) → IsBytes b →
      AllByRecursion (λ x. K x ≡ None) (elements_after w n b) →
      AllByRecursion (IsElementOf K) (elements_after w n b)
  each_after w n b each = unless (n == 0) (pieces (body w n b) 0 (ends w n b))
      (each_piece (body w n b) 0 (ends w n b) (back_bytes (w * (n - 1)) b each))

  each_element : (w : ℕ) (b : List ℕ) → 0 < w → IsBytes b →
      IsTrue (is_none (list_fault w K b)) → AllByRecursion (IsElementOf K) (elements w b)
  each_element w b some each sound =
      let good = valid_from_fault w K b some each (no_fault (list_fault w K b) sound) in
      unless (length b == 0) (elements_after w (count w b) (drop w b))
      (each_after w (count w b) (drop w b) (back_bytes w b each)) good

  -- ---- any layout

  -- each element of a list that bytes spell
  pub elements_valid : (layout : Layout) (b : List ℕ) → IsBytes b → IsTrue (spells_in layout K b) →
      AllByRecursion (IsElementOf K) (list_in layout b)
  elements_valid (Fixed w) b each h =
      each_chunk w (length b / w) b each (fixed_parts w K b h).1
  elements_valid Index16 b each h = each_element 2 b (omega arith) each h
  elements_valid Index32 b each h = each_element 4 b (omega arith) each h
