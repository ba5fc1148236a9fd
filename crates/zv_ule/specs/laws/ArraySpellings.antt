-- The laws of arrays, from those of their elements.
use Rattle.std.proofs.Common.{◌≡◌, ℕ, ◌*◌, ◌/◌, ◌<◌, List, [], ◌∷◌, length, map, Option, refl}
use Rattle.std.proofs.Common.{ap, sym, ◌∙◌, arith}
use Rattle.std.specs.Prelude.{flat_map}
use Rattle.std.specs.List.{AllByRecursion}
use Rattle.std.proofs.lemmas.List.{length-map}
use Rattle.std.proofs.lemmas.Nat.{div-mul-add}
use Rattle.zv_ule.specs.declared.error.UleError.{UleError}
use Rattle.zv_ule.specs.Bytes.{IsBytes}
use Rattle.zv_ule.specs.Chunks.{chunks_of, first_fault, values_of}
use Rattle.zv_ule.specs.Fixed.{IsSpelling, IsTwin}
use Rattle.zv_ule.specs.laws.Joined.{joined_length, joined_chunks, joined_values, count_of_joined}
use Rattle.zv_ule.specs.laws.Joined.{length-chunks, no_fault, read_pieces}
use Rattle.zv_ule.specs.laws.PairSpellings.{joined_bytes}
use Rattle.zv_ule.specs.laws.Spellings.{no_bytes, flip}

pub joined_each : {U : Type 0} {is_u : U → Type 0} {w : ℕ} {f : List ℕ → Option UleError}
    {c : U → List ℕ} {v : List ℕ → U} (s : IsSpelling is_u w f c v) (us : List U) →
    AllByRecursion is_u us → IsBytes (flat_map c us)
joined_each s [] h = no_bytes
joined_each {c = c} s (u ∷ us) h = joined_bytes (c u) (flat_map c us) (s.writes u h.0).each
    (joined_each s us h.1)

-- n times w bytes are n chunks
pub count_is : (n w : ℕ) (b : List ℕ) → 0 < w → length b ≡ n * w → length b / w ≡ n
count_is n w b pos long = ap (λ m. m / w) (long ∙ omega arith) ∙ div-mul-add n w 0 pos

pub pieces_are : (n w : ℕ) (b : List ℕ) → 0 < w → length b ≡ n * w → length (chunks_of w b) ≡ n
pieces_are n w b pos long = length-chunks w (length b / w) b ∙ count_is n w b pos long

-- n values are stored one after another
pub array_spelling : (n : ℕ) {U : Type 0} {is_u : U → Type 0} {w : ℕ} {f : List ℕ → Option UleError}
    {c : U → List ℕ} {v : List ℕ → U} → 0 < w → (s : IsSpelling is_u w f c v) →
    IsSpelling {V = List U} (λ us. (length us ≡ n) × AllByRecursion is_u us) (n * w)
    (λ b. first_fault f (chunks_of w b)) (flat_map c) (values_of w v)
array_spelling n {w = w} {f = f} {c = c} {v = v} pos s = record {
  writes = λ us h. record {
    each = joined_each s us h.1;
    long = joined_length s us h.1 ∙ ap (λ k. k * w) h.0;
    good = rw (count_of_joined s us h.1 pos, joined_chunks s us h.1) (no_fault s us h.1);
  };
  back = λ us h. joined_values s us h.1 pos;
  reads = λ b h.
      let count = count_is n w b pos h.long in
      let r = read_pieces s (length b / w) b h.each (h.long ∙ ap (λ k. k * w) (sym count)) h.good in
      (length-map _ _ ∙ pieces_are n w b pos h.long, r.values);
  again = λ b h.
      let count = count_is n w b pos h.long in
      (read_pieces s (length b / w) b h.each (h.long ∙ ap (λ k. k * w) (sym count)) h.good).joined;
}

pub stored_each : {V U : Type 0} {is_value : V → Type 0} {is_stored : U → Type 0} {to : V → U}
    {from : U → V} → IsTwin is_value is_stored to from → (vs : List V) →
    AllByRecursion is_value vs → AllByRecursion is_stored (map to vs) × (map from (map to vs) ≡ vs)
stored_each t [] h = (tt, refl)
stored_each t (v ∷ vs) h =
    let r = stored_each t vs h.1 in
    ((t.stored v h.0, r.0), rw (t.back v h.0, r.1) refl)

-- n values, each stored and loaded
pub array_twin : {V U : Type 0} {is_value : V → Type 0} {is_stored : U → Type 0} {to : V → U}
    {from : U → V} → IsTwin is_value is_stored to from → (n : ℕ) →
    IsTwin {V = List V} {U = List U} (λ vs. (length vs ≡ n) × AllByRecursion is_value vs)
    (λ us. (length us ≡ n) × AllByRecursion is_stored us) (map to) (map from)
array_twin t n = record {
  stored = λ vs h. (length-map _ _ ∙ h.0, (stored_each t vs h.1).0);
  back = λ vs h. (stored_each t vs h.1).1;
  taken = λ us h. (length-map _ _ ∙ h.0, (stored_each (flip t) us h.1).0);
  again = λ us h. (stored_each (flip t) us h.1).1;
}
