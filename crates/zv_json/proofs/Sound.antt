-- Records of fields that are valid.
use Rattle.std.proofs.Common.{◌≡◌, ℕ, ◌-◌, ◌^◌, ◌<◌, ◌≤◌, List, length, Option, None, arith}
use Rattle.std.proofs.Common.{[], ◌∷◌, Ok, Err, Result, Option, Some, is_some, true, false, Bool, ◌&&◌, if◌then◌else◌, map, nat_lt, ltb-true, refl, subst, ap}
use Rattle.std.proofs.lemmas.List.{map-id}
use Rattle.std.specs.List.{list_all}
use Rattle.zv_ule.specs.declared.error.UleError.{UleError}
use Rattle.zv_var.proofs.Encoding.{has_starts, read_lengthless}
use Rattle.zv_var.specs.Serialize.{lengthless, lengthless_len}
use Rattle.zv_json.specs.Nested.{record_of_fields}
use Rattle.zv_json.specs.declared.error.JsonError.TheVariants.{TooLarge}
use Rattle.zv_multi.proofs.Written.{all_valid}
use Rattle.zv_multi.specs.Records.{fields_fault, no_fault, record_fault}

-- fields that are valid and short enough are a record
pub record_sound : (w n : ℕ) (Ks : List (List ℕ → Option UleError)) (xs : List (List ℕ)) → 256 ^ w ≤ 2 ^ 32 → length xs ≡ n
    → length (lengthless w xs) < 256 ^ w - 1
    → fields_fault Ks 0 xs ≡ None → record_fault w n Ks (lengthless w xs) ≡ None
record_sound w n Ks xs narrow many short valid =
    let r = read_lengthless w xs (has_starts w xs narrow (omega (arith, short))) in
    rw (← many) (rw (r.1 no_fault (all_valid xs), r.0) valid)

taken : (b : Bool) (bytes made : List ℕ) → (if b then Ok made else Err TooLarge) ≡ Ok bytes → (b ≡ true) × (made ≡ bytes)
taken true bytes made e = (refl, cc)
taken false bytes made e = cc

some_true : (b : Bool) (n : ℕ) → is_some (if b then Some n else None) ≡ true → b ≡ true
some_true true n e = refl
some_true false n e = cc

right : (a b : Bool) → (a && b) ≡ true → b ≡ true
right true b e = e
right false b e = cc

short_enough : (w : ℕ) (xs : List (List ℕ)) → is_some (lengthless_len (λ _. true) (λ x. x) w xs) ≡ true → length (lengthless w xs) < 256 ^ w - 1
short_enough w xs e =
    let long : ℕ = length (lengthless w (map (λ x. x) xs)) in
    let below = right (list_all (λ _. true) xs) (nat_lt long (256 ^ w - 1)) (some_true _ long e) in
    subst (λ ys. length (lengthless w ys) < 256 ^ w - 1) (map-id xs) (ltb-true _ _ below)

-- so are those that make a record that is not too large
pub record_taken : (w n : ℕ) (Ks : List (List ℕ → Option UleError)) (xs : List (List ℕ)) (bytes : List ℕ) → 256 ^ w ≤ 2 ^ 32 → length xs ≡ n
    → record_of_fields w xs ≡ Ok bytes → fields_fault Ks 0 xs ≡ None → record_fault w n Ks bytes ≡ None
record_taken w n Ks xs bytes narrow many is valid =
    let t = taken (is_some (lengthless_len (λ _. true) (λ x. x) w xs)) bytes (lengthless w xs) is in
    subst (λ b. record_fault w n Ks b ≡ None) t.1 (record_sound w n Ks xs narrow many (short_enough w xs t.0) valid)
