-- Proper tables and the test of rows.
use Rattle.zv_props.proofs.Common.{◌≡◌, ℕ, ◌+◌, List, [], ◌∷◌, drop, Option, Some, None, refl, ◌∙◌, arith, nat_tests, slice_get, slice_get_within}
use Rattle.zv_props.proofs.Common.{get_or_from_slice_get, IsProper, MayFollow, Row}
use Rattle.std.proofs.lemmas.List.{drop_more}
use Rattle.std.specs.Option.{option_or}
use Rattle.zv_props.specs.Faults.{row_fault, rows_fault}
use Rattle.zv_props.specs.declared.error.PropsError.{PropsError}

-- rows without an error are proper, and the other way round
good_rows : (place start value : ℕ) (rows : List Row) → (rows_fault place start value rows ≡ None → IsProper rows × MayFollow start value rows) ×
    (IsProper rows → MayFollow start value rows → rows_fault place start value rows ≡ None)
good_rows place start value [] = (λ h. (tt, tt), λ proper follows. refl)
good_rows place start value (r ∷ rows) =
    let rest = good_rows (place + 1) (r.1 + 1) r.2 rows in
    (λ h. grind (arith, nat_tests), λ proper follows. grind (arith, nat_tests))

pub parsed : (rows : List Row) → rows_fault 0 0 0 rows ≡ None → IsProper rows
parsed rows good = ((good_rows 0 0 0 rows).0 good).0

pub no_fault : (rows : List Row) → IsProper rows → rows_fault 0 0 0 rows ≡ None
no_fault [] proper = refl
no_fault (r ∷ rows) proper = (good_rows 0 0 0 (r ∷ rows)).1 proper (omega arith, λ h. omega (arith, proper.0.some))

-- one row of the test
module _ (fault : Option PropsError) (rows : List Row) (i start value : ℕ) (r : Row) (same : fault ≡ rows_fault i start value (drop i rows))
    (there : slice_get rows i ≡ Some r) where
  step : fault ≡ option_or (row_fault i start value r) (rows_fault (i + 1) (r.1 + 1) r.2 (drop (i + 1) rows))
  step = same ∙ rw (drop_more rows i r (slice_get_within rows i r there), get_or_from_slice_get rows i r r there) refl

  pub row_stops : (e : PropsError) → Some e ≡ row_fault i start value r → Some e ≡ fault
  row_stops e bad = let s = step in grind arith

  pub row_goes_on : None ≡ row_fault i start value r → fault ≡ rows_fault (i + 1) (r.1 + 1) r.2 (drop (i + 1) rows)
  row_goes_on good = let s = step in grind arith
