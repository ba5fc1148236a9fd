-- Whole numbers, in JSON and as names of members.
use Rattle.std.specs.Prelude.{ℕ, zero, suc, ◌^◌, ◌-◌, ℤ, pos, negsuc, List, nat_lt, Option, Some}
use Rattle.std.specs.Prelude.{None}
use Rattle.std.specs.Prelude.{if◌then◌else◌}
use Rattle.std.specs.Fmt.{signed_decimal}
use Rattle.std.specs.Option.{ok_or, option_and_then}
use Rattle.std.specs.Prelude.{Result}
use Rattle.std.specs.Str.{bytes_eq}
use Rattle.std.specs.Str.Parse.{signed_digits_value}
use Rattle.std.specs.declared.num.NonZeroI8.{NonZeroI8}
use Rattle.std.specs.declared.num.NonZeroU8.{NonZeroU8}
use Rattle.zv_ule.specs.NonZero.{non_zero_of, signed_non_zero_of}
use Rattle.serde_json.specs.Data.{Data, number, unsigned, negative}
use Rattle.serde_json.specs.Find.{as_integer, as_number}
use Rattle.zv_json.specs.Json.{and_then}
use Rattle.zv_json.specs.declared.error.JsonError.{JsonError}
use Rattle.zv_json.specs.declared.error.JsonError.TheVariants.{Range, Shape, Wide}

-- a number as one of k bits without a sign
abbrev pub unsigned_within : ℕ → ℤ → Option ℕ
unsigned_within k (pos n) = if nat_lt n (2 ^ k) then Some n else None
unsigned_within k (negsuc n) = None

-- a number as one of k bits in two's complement
abbrev pub signed_within : ℕ → ℤ → Option ℤ
signed_within k (pos n) = if nat_lt n (2 ^ (k - 1)) then Some (pos n) else None
signed_within k (negsuc n) = if nat_lt n (2 ^ (k - 1)) then Some (negsuc n) else None

-- the JSON number of a whole number of 64 bits, with a sign or without
abbrev pub number_data : ℤ → Option Data
number_data (pos n) = if nat_lt n (2 ^ 64) then Some (number (unsigned n)) else None
number_data (negsuc n) = if nat_lt n (2 ^ 63) then Some (number (negative (negsuc n))) else None

-- the whole number that a value is
abbrev pub integer_in : Data → Result ℤ JsonError
integer_in d = and_then (ok_or (as_number d) Shape) (λ n. ok_or (as_integer n) Wide)

-- and as one of a type's
abbrev pub number_in : {A : Type 0} → (ℤ → Option A) → Data → Result A JsonError
number_in within d = and_then (integer_in d) (λ z. ok_or (within z) Range)

-- z, if the text is its shortest decimal
abbrev pub spelled : ℤ → List ℕ → Option ℤ
spelled z text = if bytes_eq (signed_decimal z) text then Some z else None

-- the number whose shortest decimal a text is
abbrev pub number_key : List ℕ → Option ℤ
number_key text = spelled (signed_digits_value 10 text) text

-- a number of one byte other than 0
abbrev pub unless_zero : ℕ → Option NonZeroU8
unless_zero zero = None
unless_zero (suc n) = Some (non_zero_of (suc n))

abbrev pub signed_unless_zero : ℤ → Option NonZeroI8
signed_unless_zero (pos zero) = None
signed_unless_zero (pos (suc n)) = Some (signed_non_zero_of (pos (suc n)))
signed_unless_zero (negsuc n) = Some (signed_non_zero_of (negsuc n))

abbrev pub non_zero_within : ℤ → Option NonZeroU8
non_zero_within z = option_and_then unless_zero (unsigned_within 8 z)

abbrev pub signed_non_zero_within : ℤ → Option NonZeroI8
signed_non_zero_within z = option_and_then signed_unless_zero (signed_within 8 z)
