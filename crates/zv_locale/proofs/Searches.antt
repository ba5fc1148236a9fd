-- Names that are looked for in a row, one after another.
use Rattle.zv_locale.proofs.Common.{◌≡◌, ◌∙◌, ◌<◌, ◌≤◌, ◌+◌, ◌-◌, ◌*◌, ◌^◌, ℕ, List, ◌∷◌, length, None, Some, ap, arith, option_map_or, look_up, by_bytes}
use Rattle.std.proofs.Math.Nat.{suc-mul}
use Rattle.zv_ule.specs.Search.{AtMostDigits}
use Rattle.zv_locale.specs.Bounds.{AtMostDigitsOfTries}
use Rattle.zv_locale.specs.Provided.{first_found}

-- what is found among the names that are left is what is found among all of them, with the steps that those before took
pub record Seeks (row : List (List ℕ × List ℕ)) (all rest : List (List ℕ)) (before now : ℕ) : Type 0 where
  pub found : first_found row all ≡ first_found row rest
  pub counted : before ≤ now
  pub few : (k : ℕ) → length row < 2 ^ k → now + length rest * k ≤ before + length all * k

module _ {row : List (List ℕ × List ℕ)} {all rest : List (List ℕ)} {before now : ℕ} where
  -- the steps at the end
  pub seeks_end : Seeks row all rest before now → AtMostDigitsOfTries (now - before) 0 (length all) (length row)
  seeks_end seeks j k some bound = let few = seeks.few k bound in omega arith

  module _ (name : List ℕ) (names : List (List ℕ)) (after : ℕ) (more : now ≤ after) (digits : AtMostDigits (after - now) (length row)) where
    -- a name that the row lacks
    pub seeks_more : Seeks row all rest before now → rest ≡ name ∷ names → look_up by_bytes row name ≡ None → Seeks row all names before after
    seeks_more seeks is none = record {
      found = seeks.found ∙ ap (first_found row) is ∙ ap (λ v. option_map_or (λ value. Some (name, value)) v (first_found row names)) none;
      counted = omega (arith, seeks.counted);
      few = λ k bound. omega (arith, seeks.few k bound, digits k bound, ap length is, ap (λ n. length n * k) is, suc-mul (length names) k);
    }

    -- a name that it has
    pub seeks_found : Seeks row all rest before now → rest ≡ name ∷ names → (value : List ℕ) → look_up by_bytes row name ≡ Some value
        → (first_found row all ≡ Some (name, value)) × AtMostDigitsOfTries (after - before) 0 (length all) (length row) × (before ≤ after)
    seeks_found seeks is value some = (
      seeks.found ∙ ap (first_found row) is ∙ ap (λ v. option_map_or (λ value. Some (name, value)) v (first_found row names)) some,
      λ j k zero bound. omega (arith, seeks.few k bound, seeks.counted, digits k bound, ap (λ n. length n * k) is, suc-mul (length names) k),
      omega (arith, seeks.counted),
    )
