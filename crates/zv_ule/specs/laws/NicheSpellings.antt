-- The laws of options without a tag, from those of their values.
use Rattle.std.proofs.Common.{◌≡◌, ℕ, List, [], ◌∷◌, Option, Some, None, refl, ap, sym, ◌∙◌, Bool}
use Rattle.std.proofs.Common.{true, false, if◌then◌else◌, subst, arith, lit<}
use Rattle.std.proofs.lemmas.Slice.Eq.{bytes_eq-Decides}
use Rattle.std.specs.Prelude.{IfSome, bytes_eq}
use Rattle.zv_ule.specs.declared.error.UleError.{UleError}
use Rattle.zv_ule.specs.declared.error.TyName.TheVariants.{NonZeroU8}
use Rattle.zv_ule.specs.declared.error.UleError.TheVariants.{ParseError}
use Rattle.zv_ule.specs.Fixed.{IsChunk, IsSpelling}
use Rattle.zv_ule.specs.NonZero.{non_zero_fault}
use Rattle.zv_ule.specs.laws.Spellings.{no_bytes, more_bytes}
use Rattle.zv_ule.specs.Niches.{IsNiche, niche_fault, niche_chunk, niche_value}

pub is_same : (a b : List ℕ) → bytes_eq a b ≡ true → a ≡ b
is_same a b e = grind (arith, bytes_eq-Decides)

pub not_pattern : {n w : ℕ} {f : List ℕ → Option UleError} {pattern : List ℕ}
    (niche : IsNiche n w f pattern) (b : List ℕ) (t : Bool) → bytes_eq b pattern ≡ t → f b ≡ None →
    t ≡ false
not_pattern {f = f} {pattern = pattern} niche b true e h =
    let k : f b ≡ Some niche.bad.0 = ap f (is_same b pattern e) ∙ niche.bad.1 in
    let no : Some niche.bad.0 ≡ None = sym k ∙ h in
    cc
not_pattern niche b false e h = refl

module _ {U : Type 0} {n : ℕ} {pattern : List ℕ} {is_u : U → Type 0} {w : ℕ}
    {f : List ℕ → Option UleError} {c : U → List ℕ} {v : List ℕ → U}
    (niche : IsNiche n w f pattern) (s : IsSpelling is_u w f c v) where
  pub niche_writes : (o : Option U) → IfSome o is_u →
      IsChunk w (niche_fault pattern f) (niche_chunk pattern c o)
      × (niche_value pattern v (niche_chunk pattern c o) ≡ o)
  niche_writes None h =
      let same : bytes_eq pattern pattern ≡ true = grind (arith, bytes_eq-Decides) in
      (record { each = niche.each; long = niche.long; good = rw same refl }, rw same refl)
  niche_writes (Some u) h =
      let p = s.writes u h in
      let no = not_pattern niche (c u) (bytes_eq (c u) pattern) refl p.good in (
        record { each = p.each; long = p.long; good = rw no p.good },
        rw no (ap Some (s.back u h)),
      )

  pub niche_reads : (b : List ℕ) (t : Bool) → bytes_eq b pattern ≡ t →
      IsChunk w (niche_fault pattern f) b →
      IfSome (niche_value pattern v b) is_u × (niche_chunk pattern c (niche_value pattern v b) ≡ b)
  niche_reads b true e h = rw e (tt, sym (is_same b pattern e))
  niche_reads b false e h =
      let k : IsChunk w f b = record {
        each = h.each;
        long = h.long;
        good = subst (λ t. (if t then None else f b) ≡ None) e h.good;
      } in
      rw e (s.reads b k, s.again b k)

  -- an option is stored as its value or the pattern
  pub niche_spelling : IsSpelling {V = Option U} (λ o. IfSome o is_u) w (niche_fault pattern f)
      (niche_chunk pattern c) (niche_value pattern v)
  niche_spelling = record {
    writes = λ o h. (niche_writes o h).0;
    back = λ o h. (niche_writes o h).1;
    reads = λ b h. (niche_reads b (bytes_eq b pattern) refl h).0;
    again = λ b h. (niche_reads b (bytes_eq b pattern) refl h).1;
  }

-- no number other than 0 is stored as 0
pub zero_is_niche : IsNiche 1 1 non_zero_fault (0 ∷ [])
zero_is_niche = record {
  whole = refl;
  each = more_bytes 0 [] (lit< tt) no_bytes;
  long = refl;
  bad = (ParseError NonZeroU8, refl);
}
