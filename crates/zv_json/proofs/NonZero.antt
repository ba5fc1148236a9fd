-- Numbers other than 0.
use Rattle.std.proofs.Common.{◌≡◌, ℕ, ℤ, pos, Option, Some, None, MatchOption, sym, ap, ◌∙◌}
use Rattle.std.specs.declared.num.NonZeroI8.{NonZeroI8}
use Rattle.std.specs.declared.num.NonZeroU8.{NonZeroU8}
use Rattle.zv_json.specs.Back.{some_non_zero, some_signed}
use Rattle.zv_json.specs.Numbers.{signed_unless_zero, unless_zero}

-- what is made of a number, unless it is 0
pub non_zero_made : (r : Option NonZeroU8) (n : ℕ) → MatchOption r (n ≡ 0) (λ x. x.value ≡ n) → r ≡ unless_zero n
non_zero_made None n h = sym (ap unless_zero h)
non_zero_made (Some x) n h = sym (some_non_zero x.value x.ok) ∙ ap unless_zero h

-- and of one with a sign
pub signed_non_zero_made : (r : Option NonZeroI8) (z : ℤ) → MatchOption r (z ≡ pos 0) (λ x. x.value ≡ z) → r ≡ signed_unless_zero z
signed_non_zero_made None z h = sym (ap signed_unless_zero h)
signed_non_zero_made (Some x) z h = sym (some_signed x.value x.ok) ∙ ap signed_unless_zero h
