use Rattle.std.proofs.Common.{◌≡◌, ◌⊎◌, inl, inr, length, Option, Some, None, Result, Ok, Err, subst}
use Rattle.std.specs.Prelude.{MatchResult}
use Rattle.serde_json.specs.Data.{Data}
use Rattle.zv_forms.specs.Texts.{ReadsText}
use Rattle.zv_json.specs.Again.{IsAgain}
use Rattle.zv_json.specs.Json.{UnlessMemory}
use Rattle.zv_json.specs.declared.error.JsonError.{JsonError}
use Rattle.zv_json.specs.declared.error.JsonError.TheVariants.{Memory, Syntax, TooLarge}
use Rattle.zv_map.specs.Keys.{nth}
use Rattle.zv_map1.specs.Fits.{Rule, rule_of}
use Rattle.zv_map1.specs.Views.{Pairs}
use Rattle.zv_owned.specs.Size.{takes_insert, takes_replace}
use Rattle.zv_callers.proofs.documents.read_names.Goals as goal

module _ {T : Type 0} (reads : Data → Result T JsonError → Type 0) where
  no_value : (o : Option Data) (r : Result T JsonError) → ReadsText reads o r → o ≡ None → (r ≡ Err Memory) ⊎ (r ≡ Err Syntax)
  no_value None r h e = h
  no_value (Some d) r h e = cc

  value_read : (o : Option Data) (d : Data) (r : Result T JsonError) → ReadsText reads o r → o ≡ Some d → (r ≡ Err Memory) ⊎ reads d r
  value_read None d r h e = cc
  value_read (Some x) d r h e = let same : x ≡ d = cc in subst (λ z. (r ≡ Err Memory) ⊎ reads z r) same h

-- a table of these pairs, or why there is none
abbrev Has : {T : Type 0} → (T → Pairs) → Pairs → Result T JsonError → Type 0
Has view pairs r = MatchResult r (λ t. view t ≡ pairs) (λ e. (e ≡ Memory) ⊎ (e ≡ TooLarge))

read_again : {T : Type 0} (view : T → Pairs) (says : Result Pairs JsonError) (pairs : Pairs) (r : Result T JsonError)
    → UnlessMemory view says r → IsAgain (λ m. m ≡ pairs) says → Has view pairs r
read_again view says pairs (Ok t) h again = subst (IsAgain (λ m. m ≡ pairs)) h again
read_again view says pairs (Err e) (inl h) again = inl h
read_again view says pairs (Err e) (inr h) again = inr (subst (IsAgain (λ m. m ≡ pairs)) h again)

-- the size rule of lists of texts with fields of two bytes
abbrev rule : Rule
rule = rule_of (takes_insert 2) (takes_insert 2) (λ xs i n. takes_replace 2 xs (length (nth xs i)) n)

refused : {T : Type 0} (view : T → Pairs) (pairs : Pairs) (r : Result T JsonError) → r ≡ Err Memory → Has view pairs r
refused view pairs (Ok t) h = cc
refused view pairs (Err e) h = let memory : e ≡ Memory = cc in inl memory

either : {A B C : Type 0} → A ⊎ B → (A → C) → (B → C) → C
either (inl a) f g = f a
either (inr b) f g = g b

pub returns-clause-syntax : goal.returns-clause-syntax
returns-clause-syntax c none = no_value _ _ _ c.from_json_text.ensures none

pub returns-clause-names : goal.returns-clause-names
returns-clause-names c pairs holds =
    either (value_read _ _ holds.value _ c.from_json_text.ensures holds.is) (refused (λ m. m.pairs) pairs _)
    (λ h. read_again (λ m. m.pairs) _ pairs _ h.0 (holds.same rule))
