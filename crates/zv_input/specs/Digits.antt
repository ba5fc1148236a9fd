-- What hex digits stand for.
use Rattle.std.specs.Prelude.{ℕ, ◌==◌, if◌then◌else◌, List, Bool, true}
use Rattle.std.specs.Result.{result_ok}
use Rattle.std.specs.Str.{is_utf8}
use Rattle.std.specs.declared.option.Option.{Option}
use Rattle.std.specs.declared.option.Option.TheVariants.{Some, None}
use Rattle.hex.specs.Hex.{decode_of}

-- the second step, if the first gave a value
infixl 10 ◌>>=◌
abbrev pub ◌>>=◌ : {A B : Type 0} → Option A → (A → Option B) → Option B
None >>= f = None
Some x >>= f = f x

-- the bytes that hex digits stand for: an even number of them, in either case
abbrev pub bytes_of_digits : List ℕ → Option (List ℕ)
bytes_of_digits digits = result_ok (decode_of digits)

-- whether bytes are of a kind: a text (1) is UTF-8, and else any will do
abbrev pub is_of_kind : ℕ → List ℕ → Bool
is_of_kind kind bytes = if kind == 1 then is_utf8 bytes else true

-- the bytes that hex digits stand for, if they are of a kind
abbrev pub content_of : ℕ → List ℕ → Option (List ℕ)
content_of kind digits = do
  bytes ← bytes_of_digits digits
  if is_of_kind kind bytes then Some bytes else None
