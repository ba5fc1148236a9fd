-- Laws of the forms.
use Rattle.std.proofs.Common.{◌≡◌, ℕ, ◌^◌, List, Bool, true, false, ℤ, pos, negsuc, nat_lt, Option}
use Rattle.std.proofs.Common.{Some, None, if◌then◌else◌}
use Rattle.std.specs.Option.{option_map}
use Rattle.serde_json.specs.Data.{Data, Num, null, boolean, string, number}
use Rattle.zv_json.specs.Arrays.{all_written, array_written}
use Rattle.zv_json.specs.Json.{array_of}
use Rattle.zv_json.specs.Numbers.{number_data}

some_not_null : (b : Bool) (n : Num) → (if b then Some (number n) else None) ≡ Some null → ⊥
some_not_null true n e = cc
some_not_null false n e = cc

-- no number is null, and no truth value, string or array
pub number_not_null : (z : ℤ) → number_data z ≡ Some null → ⊥
number_not_null (pos n) e = some_not_null (nat_lt n (2 ^ 64)) _ e
number_not_null (negsuc n) e = some_not_null (nat_lt n (2 ^ 63)) _ e

pub boolean_not_null : (b : Bool) → Some (boolean b) ≡ Some null → ⊥
boolean_not_null b e = cc

pub string_not_null : (text : List ℕ) → Some (string text) ≡ Some null → ⊥
string_not_null text e = cc

mapped_not_null : (o : Option (List Data)) → option_map array_of o ≡ Some null → ⊥
mapped_not_null None e = cc
mapped_not_null (Some ds) e = cc

pub array_not_null : (ds : List (Option Data)) → array_written ds ≡ Some null → ⊥
array_not_null ds e = mapped_not_null (all_written ds) e
