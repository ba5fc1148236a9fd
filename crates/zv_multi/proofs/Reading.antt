-- Records and their fields determine each other.
use Rattle.std.proofs.Common.{◌≡◌, ℕ, ◌<◌, List, length, Option, None, Some, refl}
use Rattle.std.specs.Option.{option_or}
use Rattle.zv_ule.specs.Bytes.{IsBytes}
use Rattle.zv_ule.specs.declared.error.UleError.{UleError}
use Rattle.zv_var.proofs.Encoding.{read_lengthless}
use Rattle.zv_var.proofs.Lists.{length-elements_after}
use Rattle.zv_var.specs.Format.{elements_after}
use Rattle.zv_multi.specs.Laws.{IsRecordOf}
use Rattle.zv_multi.specs.Records.{fields_fault, no_fault, record_fault, shape_fault}
use Rattle.zv_multi.proofs.Setting.{whole_record}
use Rattle.zv_multi.proofs.Written.{all_valid}

pub neither : (a b : Option UleError) → option_or a b ≡ None → (a ≡ None) × (b ≡ None)
neither None b h = (refl, h)
neither (Some e) b h = absurd cc

module _ (w : ℕ) (Ks : List (List ℕ → Option UleError)) where
  pub record_from_none : (b : List ℕ) → 0 < length Ks → IsBytes b → record_fault w (length Ks) Ks b ≡ None →
      IsRecordOf w Ks b (elements_after w (length Ks) b)
  record_from_none b some bytes h =
      let parts = neither (shape_fault w (length Ks) b) (fields_fault Ks 0 (elements_after w (length Ks) b)) h in
      let whole = whole_record w (length Ks) b some bytes parts.0 in
      record { many = length-elements_after w (length Ks) b; numbered = whole.1; spelled = whole.0; valid = parts.1 }

  pub read_fields : (b : List ℕ) (xs : List (List ℕ)) → IsRecordOf w Ks b xs → elements_after w (length Ks) b ≡ xs
  read_fields b xs r = rw (r.spelled, ← r.many) ((read_lengthless w xs r.numbered).0)

  pub none_from_record : (b : List ℕ) (xs : List (List ℕ)) → IsRecordOf w Ks b xs → record_fault w (length Ks) Ks b ≡ None
  none_from_record b xs r =
      let read = read_fields b xs r in
      let sound = (read_lengthless w xs r.numbered).1 no_fault (all_valid xs) in
      let many = r.many in
      let shape = rw (many, ← r.spelled) at sound in
      rw (shape, read) r.valid
