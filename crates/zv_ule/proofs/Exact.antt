-- Which byte strings are lists of values, and which of them compare Equal.
use Rattle.zv_ule.proofs.Common.{◌≡◌, ℕ, ◌%◌, ◌<◌, List, [], ◌∷◌, length, map, Option, Some, None, ap, sym, ◌∙◌, arith, refl, flat_map, slice_cmp, nat_cmp}
use Rattle.zv_ule.proofs.Common.{Equal, common_steps, nat_tests, exact_bytes, TyName, UleError, IsBytes, chunks_of, chunks_fault, values_of, first_fault}
use Rattle.zv_ule.proofs.Common.{or_fault, IsChunk, IsSpelling}
use Rattle.std.proofs.Common.{◌⊎◌, inl, inr}
use Rattle.std.specs.Prelude.{◌↔◌}
use Rattle.zv_ule.specs.declared.error.UleError.TheVariants.{InvalidLength}
use Rattle.zv_ule.specs.Chunks.{IsFirstFault}
use Rattle.zv_ule.specs.Fixed.{IsListOf}
use Rattle.zv_ule.proofs.Lists.{joined_fault, joined_values, read_list}
pub use Rattle.zv_ule.specs.laws.Spellings.{through_twin}

module _ {V : Type 0} {is_value : V → Type 0} {w : ℕ} {f : List ℕ → Option UleError} {chunk : V → List ℕ} {value : List ℕ → V}
    (s : IsSpelling is_value w f chunk value) where
  pub exact : (ty : TyName) → 0 < w → (b : List ℕ) → IsBytes b → (chunks_fault ty w f b ≡ None) ↔ ((vs : List V) × IsListOf is_value chunk b vs)
  exact ty pos b each = (
    λ h. let r = read_list s ty b each h in (map value (chunks_of w b), record { values = r.values; joined = sym r.joined }),
    λ p. ap (chunks_fault ty w f) p.1.joined ∙ joined_fault s ty p.0 p.1.values pos,
  )

  -- the values that are read are those that the bytes are the chunks of
  pub only : 0 < w → (b : List ℕ) (vs : List V) → IsListOf is_value chunk b vs → values_of w value b ≡ vs
  only pos b vs l = ap (values_of w value) l.joined ∙ joined_values s vs l.values pos

  pub one_chunk : (v : V) (b : List ℕ) → IsChunk w f b → value b ≡ v → b ≡ chunk v
  one_chunk v b c e = sym (s.again b c) ∙ ap chunk e

pub uneven : (ty : TyName) (w : ℕ) (f : List ℕ → Option UleError) (b : List ℕ) → 0 < length b % w → chunks_fault ty w f b ≡ Some (InvalidLength ty (length b))
uneven ty w f b h = grind (arith, nat_tests, common_steps)

here_or_later : (o p : Option UleError) (e : UleError) → or_fault o p ≡ Some e → (o ≡ Some e) ⊎ ((o ≡ None) × (p ≡ Some e))
here_or_later None p e h = inr (refl, h)
here_or_later (Some d) p e h = inl h

pub first : (f : List ℕ → Option UleError) (pieces : List (List ℕ)) (e : UleError) → first_fault f pieces ≡ Some e → IsFirstFault f pieces e
first f [] e h = cc
first f (c ∷ cs) e h = elim (here_or_later (f c) (first_fault f cs) e h) [
  | inl here ↦ record { before = []; bad = c; after = cs; whole = refl; good = tt; there = here }
  | inr later ↦ let r = first f cs e later.1 in record {
    before = c ∷ r.before;
    bad = r.bad;
    after = r.after;
    whole = ap (λ l. c ∷ l) r.whole;
    good = (later.0, r.good);
    there = r.there;
  }
]

-- lists of bytes that compare Equal are the same, and so are the bytes that they are read from
pub same_values : {w : ℕ} {f : List ℕ → Option UleError} {is_value : ℕ → Type 0} {chunk : ℕ → List ℕ} {value : List ℕ → ℕ}
    (s : IsSpelling is_value w f chunk value) (ty : TyName) (a b : List ℕ) → IsBytes a → IsBytes b → chunks_fault ty w f a ≡ None → chunks_fault ty w f b ≡
    None → slice_cmp nat_cmp (values_of w value a) (values_of w value b) ≡ Equal → a ≡ b
same_values {w = w} {chunk = chunk} {value = value} s ty a b p q h k e =
    sym (read_list s ty a p h).joined ∙ ap (flat_map chunk) (exact_bytes (values_of w value a) (values_of w value b) e) ∙ (read_list s ty b q k).joined
