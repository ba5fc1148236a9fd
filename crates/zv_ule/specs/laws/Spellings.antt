-- What the types at hand are stored as, and that it reads back: the laws that their impls give.
use Rattle.std.proofs.Common.{◌≡◌, ℕ, ◌<◌, ◌^◌, List, [], ◌∷◌, length, Option, Some, None, refl, ap}
use Rattle.std.proofs.Common.{sym, ◌∙◌, arith, slice_index, subst, zero, suc, Bool, true, false}
use Rattle.std.proofs.Common.{if◌then◌else◌}
use Rattle.std.proofs.lemmas.Grind.{common_steps}
use Rattle.zv_ule.specs.declared.error.UleError.{UleError}
use Rattle.zv_ule.specs.declared.fixed.raw_bytes.RawBytesULE.{RawBytesULE}
use Rattle.zv_ule.specs.Bytes.{IsBytes, IsRaw}
use Rattle.zv_ule.specs.Fixed.{IsSpelling, IsTwin}

-- ---- values that stand for others

-- a value stands for itself
pub same_twin : {V : Type 0} {is_value : V → Type 0} → IsTwin is_value is_value (λ v. v) (λ v. v)
same_twin = record { stored = λ v h. h; back = λ v h. refl; taken = λ v h. h; again = λ v h. refl }

-- what holds a value, and no more, stands for it
pub held_twin : {V U : Type 0} {is_u : U → Type 0} (of : V → U) (make : U → V) →
    ((u : U) → of (make u) ≡ u) → ((v : V) → make (of v) ≡ v) →
    IsTwin (λ v. is_u (of v)) is_u of make
held_twin {is_u = is_u} of make there here = record {
  stored = λ v h. h;
  back = λ v h. here v;
  taken = λ u h. subst is_u (sym (there u)) h;
  again = λ u h. there u;
}

module _ {V U : Type 0} {is_value : V → Type 0} {is_stored : U → Type 0} {to : V → U} {from : U → V}
    (t : IsTwin is_value is_stored to from) where
  pub flip : IsTwin is_stored is_value from to
  flip = record { stored = t.taken; back = t.again; taken = t.stored; again = t.back }

  pub then_twin : {W : Type 0} {is_w : W → Type 0} {on : U → W} {off : W → U} →
      IsTwin is_stored is_w on off → IsTwin is_value is_w (λ v. on (to v)) (λ w. from (off w))
  then_twin {on = on} {off = off} s = record {
    stored = λ v h. s.stored (to v) (t.stored v h);
    back = λ v h. ap from (s.back (to v) (t.stored v h)) ∙ t.back v h;
    taken = λ w h. t.taken (off w) (s.taken w h);
    again = λ w h. ap on (t.again (off w) (s.taken w h)) ∙ s.again w h;
  }

  -- it spells what the other spells
  pub through_twin : {w : ℕ} {f : List ℕ → Option UleError} {chunk : U → List ℕ}
      {value : List ℕ → U} → IsSpelling is_stored w f chunk value →
      IsSpelling is_value w f (λ v. chunk (to v)) (λ b. from (value b))
  through_twin {chunk = chunk} {value = value} s = record {
    writes = λ v h. s.writes (to v) (t.stored v h);
    back = λ v h. ap from (s.back (to v) (t.stored v h)) ∙ t.back v h;
    reads = λ b h. t.taken (value b) (s.reads b h);
    again = λ b h. ap chunk (t.again (value b) (s.reads b h)) ∙ s.again b h;
  }

-- what holds a value of the one type stands for what holds one of the other
pub held_twins : {V U : Type 0} {is_value : V → Type 0} {is_stored : U → Type 0} {to : V → U}
    {from : U → V} → IsTwin is_value is_stored to from →
    {P Q : Type 0} (of : P → V) (make : V → P) → ((v : V) → of (make v) ≡ v) →
    ((p : P) → make (of p) ≡ p) → (of' : Q → U) (make' : U → Q) →
    ((u : U) → of' (make' u) ≡ u) → ((q : Q) → make' (of' q) ≡ q) →
    IsTwin (λ p. is_value (of p)) (λ q. is_stored (of' q)) (λ p. make' (to (of p)))
    (λ q. make (from (of' q)))
held_twins t of make there here of' make' there' here' =
    then_twin (held_twin of make there here) (then_twin t (flip (held_twin of' make' there' here')))

-- what holds a value is stored as it
pub held_spelling : {U : Type 0} {is_u : U → Type 0} {w : ℕ} {f : List ℕ → Option UleError}
    {c : U → List ℕ} {value : List ℕ → U} → IsSpelling is_u w f c value →
    {V : Type 0} (of : V → U) (make : U → V) →
    ((u : U) → of (make u) ≡ u) → ((v : V) → make (of v) ≡ v) →
    IsSpelling (λ v. is_u (of v)) w f (λ v. c (of v)) (λ b. make (value b))
held_spelling s of make there here = through_twin (held_twin of make there here) s

-- ---- bytes

pub unless_true : (t : Bool) (e : UleError) → (if t then None else Some e) ≡ None → t ≡ true
unless_true true e h = refl
unless_true false e h = cc

-- a byte string of one byte is its first byte
pub one_byte : (b : List ℕ) → length b ≡ 1 → slice_index b 0 ∷ [] ≡ b
one_byte [] h = cc
one_byte (x ∷ []) h = refl
one_byte (x ∷ y ∷ ys) h = grind (arith, common_steps)

-- the empty string is bytes
pub no_bytes : IsBytes []
no_bytes = record { at = λ i. omega arith }

-- a byte before bytes is bytes
pub more_bytes : (x : ℕ) (xs : List ℕ) → x < 256 → IsBytes xs → IsBytes (x ∷ xs)
more_bytes x xs h t = record { at = elim [ zero ↦ h | suc i ↦ t.at i ] }

-- a byte is stored as itself
pub byte_spelling : IsSpelling {V = ℕ} (λ v. v < 2 ^ 8) 1 (λ _. None) (λ v. v ∷ [])
    (λ b. slice_index b 0)
byte_spelling = record {
  writes = λ v h. record { each = more_bytes v [] h no_bytes; long = refl; good = refl };
  back = λ v h. refl;
  reads = λ b h. h.each.at 0;
  again = λ b h. one_byte b h.long;
}

-- n bytes are stored as they lie
pub bytes_spelling : (n : ℕ) → IsSpelling {V = List ℕ} (IsRaw n) n (λ _. None) (λ v. v) (λ b. b)
bytes_spelling n = record {
  writes = λ v h. record { each = h.each; long = h.long; good = refl };
  back = λ v h. refl;
  reads = λ b h. record { each = h.each; long = h.long };
  again = λ b h. refl;
}

-- and so is what holds them
pub raw_spelling : (n : ℕ) → IsSpelling {V = RawBytesULE n} (λ v. IsRaw n v.0) n (λ _. None)
    (λ v. v.0) (λ b. record { 0 = b })
raw_spelling n = held_spelling (bytes_spelling n) (λ v. v.0) (λ b. record { 0 = b }) (λ _. refl)
    (λ _. refl)
