-- Truth values in one byte.
use Rattle.std.proofs.Common.{◌≡◌, ℕ, zero, suc, List, [], ◌∷◌, Option, Some, None, refl, ap, ◌∙◌}
use Rattle.std.proofs.Common.{slice_index, Bool, true, false, lit<}
use Rattle.std.specs.Prelude.{⊤}
use Rattle.std.specs.Int.{from_bool}
use Rattle.zv_ule.specs.declared.error.TyName.TheVariants.{Bool as BoolName}
use Rattle.zv_ule.specs.declared.error.UleError.{UleError}
use Rattle.zv_ule.specs.declared.error.UleError.TheVariants.{ParseError}
use Rattle.zv_ule.specs.Fixed.{IsChunk, IsSpelling, IsTwin}
use Rattle.zv_ule.specs.laws.Spellings.{no_bytes, more_bytes, one_byte, same_twin}

-- the error of a byte: 0 and 1 have none
abbrev pub bit_fault : ℕ → Option UleError
bit_fault zero = None
bit_fault (suc zero) = None
bit_fault (suc (suc n)) = Some (ParseError BoolName)

-- the error of a chunk
abbrev pub bool_fault : List ℕ → Option UleError
bool_fault b = bit_fault (slice_index b 0)

-- what a byte stands for: 0 is false
abbrev pub bit_value : ℕ → Bool
bit_value zero = false
bit_value (suc n) = true

-- what a chunk stands for
abbrev pub bool_value : List ℕ → Bool
bool_value b = bit_value (slice_index b 0)

bit_back : (n : ℕ) → bit_fault n ≡ None → from_bool (bit_value n) ≡ n
bit_back zero h = refl
bit_back (suc zero) h = refl
bit_back (suc (suc n)) h = cc

value_back : (v : Bool) → bit_value (from_bool v) ≡ v
value_back true = refl
value_back false = refl

bool_chunk : (v : Bool) → IsChunk 1 bool_fault (from_bool v ∷ [])
bool_chunk true = record { each = more_bytes 1 [] (lit< tt) no_bytes; long = refl; good = refl }
bool_chunk false = record { each = more_bytes 0 [] (lit< tt) no_bytes; long = refl; good = refl }

-- a truth value is stored as 0 or 1
pub bool_spelling : IsSpelling {V = Bool} (λ _. ⊤) 1 bool_fault (λ v. from_bool v ∷ []) bool_value
bool_spelling = record {
  writes = λ v h. bool_chunk v;
  back = λ v h. value_back v;
  reads = λ b h. tt;
  again = λ b h. ap (λ n. n ∷ []) (bit_back (slice_index b 0) h.good) ∙ one_byte b h.long;
}

-- and loaded as itself
pub bool_twin : IsTwin {V = Bool} {U = Bool} (λ _. ⊤) (λ _. ⊤) (λ v. v) (λ v. v)
bool_twin = same_twin
