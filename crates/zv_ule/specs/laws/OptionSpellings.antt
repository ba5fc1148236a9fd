-- The laws of options, from those of their values.
use Rattle.std.proofs.Common.{◌≡◌, ℕ, zero, suc, ◌+◌, List, [], ◌∷◌, length, Option, Some, None}
use Rattle.std.proofs.Common.{refl, ap, ◌∙◌, arith, true, eqb}
use Rattle.std.specs.Prelude.{IfSome, replicate, option_map}
use Rattle.std.specs.List.{list_all}
use Rattle.std.proofs.lemmas.Grind.{common_steps}
use Rattle.std.proofs.lemmas.Bool.Decides.{nat_tests}
use Rattle.std.proofs.lemmas.List.{length-replicate}
use Rattle.zv_ule.specs.declared.error.TyName.TheVariants.{Opt}
use Rattle.zv_ule.specs.declared.error.UleError.{UleError}
use Rattle.zv_ule.specs.declared.error.UleError.TheVariants.{ParseError}
use Rattle.zv_ule.specs.Bytes.{IsBytes}
use Rattle.zv_ule.specs.Fixed.{IsChunk, IsSpelling, IsTwin}
use Rattle.zv_ule.specs.Options.{option_fault, option_chunk, option_value}
use Rattle.zv_ule.specs.laws.Fields.{later_bytes}
use Rattle.zv_ule.specs.laws.Spellings.{no_bytes, more_bytes, unless_true, flip}

pub all_zero : (n : ℕ) → list_all (λ x. eqb x 0) (replicate n 0) ≡ true
all_zero zero = refl
all_zero (suc n) = all_zero n

pub zeros_are : (bs : List ℕ) → list_all (λ x. eqb x 0) bs ≡ true → replicate (length bs) 0 ≡ bs
zeros_are [] h = refl
zeros_are (zero ∷ bs) h = ap (λ r. 0 ∷ r) (zeros_are bs h)
zeros_are (suc x ∷ bs) h = grind (arith, nat_tests, common_steps)

pub zero_bytes : (n : ℕ) → IsBytes (replicate n 0)
zero_bytes zero = no_bytes
zero_bytes (suc n) = more_bytes 0 (replicate n 0) (omega arith) (zero_bytes n)

module _ {U : Type 0} {is_u : U → Type 0} {w : ℕ} {f : List ℕ → Option UleError}
    {c : U → List ℕ} {v : List ℕ → U} (s : IsSpelling is_u w f c v) where
  pub some_writes : (o : Option U) → IfSome o is_u →
      IsChunk (1 + w) (option_fault f) (option_chunk w c o)
  some_writes None h = record {
    each = more_bytes 0 (replicate w 0) (omega arith) (zero_bytes w);
    long = ap suc (length-replicate w 0) ∙ omega arith;
    good = rw (all_zero w) refl;
  }
  some_writes (Some u) h =
      let p = s.writes u h in
      record {
        each = more_bytes 1 (c u) (omega arith) p.each;
        long = ap suc p.long ∙ omega arith;
        good = p.good;
      }

  pub some_back : (o : Option U) → IfSome o is_u → option_value v (option_chunk w c o) ≡ o
  some_back None h = refl
  some_back (Some u) h = ap Some (s.back u h)

  pub some_reads : (b : List ℕ) → IsChunk (1 + w) (option_fault f) b →
      IfSome (option_value v b) is_u × (option_chunk w c (option_value v b) ≡ b)
  some_reads [] h = absurd (omega (arith, h.long))
  some_reads (zero ∷ bs) h =
      let zeros = zeros_are bs (unless_true (list_all (λ x. eqb x 0) bs) (ParseError Opt) h.good) in
      let long : w ≡ length bs = omega (arith, h.long) in
      (tt, ap (λ r. 0 ∷ r) (rw long zeros))
  some_reads (suc zero ∷ bs) h =
      let p : IsChunk w f bs = record {
        each = later_bytes 1 bs h.each;
        long = omega (arith, h.long);
        good = h.good;
      } in
      (s.reads bs p, ap (λ r. 1 ∷ r) (s.again bs p))
  some_reads (suc (suc n) ∷ bs) h = let g = h.good in cc

  -- an option is stored as a tag and its value or zeros
  pub option_spelling : IsSpelling {V = Option U} (λ o. IfSome o is_u) (1 + w) (option_fault f)
      (option_chunk w c) (option_value v)
  option_spelling = record {
    writes = some_writes;
    back = some_back;
    reads = λ b h. (some_reads b h).0;
    again = λ b h. (some_reads b h).1;
  }

pub some_twin : {V U : Type 0} {is_value : V → Type 0} {is_stored : U → Type 0} {to : V → U}
    {from : U → V} → IsTwin is_value is_stored to from → (o : Option V) → IfSome o is_value →
    IfSome (option_map to o) is_stored × (option_map from (option_map to o) ≡ o)
some_twin t None h = (tt, refl)
some_twin t (Some v) h = (t.stored v h, ap Some (t.back v h))

-- options of values, each stored and loaded
pub option_twin : {V U : Type 0} {is_value : V → Type 0} {is_stored : U → Type 0} {to : V → U}
    {from : U → V} → IsTwin is_value is_stored to from →
    IsTwin (λ o. IfSome o is_value) (λ o. IfSome o is_stored) (option_map to) (option_map from)
option_twin t = record {
  stored = λ o h. (some_twin t o h).0;
  back = λ o h. (some_twin t o h).1;
  taken = λ o h. (some_twin (flip t) o h).0;
  again = λ o h. (some_twin (flip t) o h).1;
}
