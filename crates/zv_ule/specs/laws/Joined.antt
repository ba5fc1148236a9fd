-- Values and their chunks, one after another: what the laws of composed types stand on.
use Rattle.std.proofs.Common.{◌≡◌, ℕ, zero, suc, ◌+◌, ◌*◌, ◌/◌, ◌<◌, ◌≤◌, List, [], ◌∷◌, ◌++◌}
use Rattle.std.proofs.Common.{length, take, drop, map, Option, Some, None, refl, ap, sym, ◌∙◌}
use Rattle.std.proofs.Common.{arith, length-append}
use Rattle.std.specs.Prelude.{flat_map}
use Rattle.std.specs.List.{AllByRecursion}
use Rattle.std.proofs.lemmas.Grind.{common_steps}
use Rattle.std.proofs.lemmas.List.{take-append-drop, length-drop, length-take-le, nil_from_length}
use Rattle.std.proofs.lemmas.List.{get_or-drop}
use Rattle.std.proofs.Math.Seq.{take-append_seam, drop-append_seam}
use Rattle.std.proofs.Math.Nat.{suc-mul}
use Rattle.std.proofs.lemmas.Nat.{div-mul-add}
use Rattle.zv_ule.specs.declared.error.UleError.{UleError}
use Rattle.zv_ule.specs.Chunks.{chunks, first_fault, or_fault, values_of}
use Rattle.zv_ule.specs.Bytes.{IsBytes}
use Rattle.zv_ule.specs.Fixed.{IsChunk, IsSpelling}

pub front_of : (w : ℕ) (a b : List ℕ) → length a ≡ w → take w (a ++ b) ≡ a
front_of w a b e = rw (← e) (take-append_seam a b)

pub back_of : (w : ℕ) (a b : List ℕ) → length a ≡ w → drop w (a ++ b) ≡ b
back_of w a b e = rw (← e) (drop-append_seam a b)

pub front_bytes : (w : ℕ) (b : List ℕ) → IsBytes b → w ≤ length b → IsBytes (take w b)
front_bytes w b h le = record { at = λ i. let k = h.at i in grind (arith, common_steps) }

pub back_bytes : (w : ℕ) (b : List ℕ) → IsBytes b → IsBytes (drop w b)
back_bytes w b h = record { at = λ i. rw get_or-drop (h.at (w + i)) }

pub or_none : (o p : Option UleError) → or_fault o p ≡ None → (o ≡ None) × (p ≡ None)
or_none None p h = (refl, h)
or_none (Some e) p h = cc

pub length-chunks : (w n : ℕ) (b : List ℕ) → length (chunks w n b) ≡ n
length-chunks w zero b = refl
length-chunks w (suc n) b = ap suc (length-chunks w n (drop w b))

-- the bytes are the chunks of the values that are read from the pieces
pub record IsReading {V : Type 0} (is_value : V → Type 0) (chunk : V → List ℕ) (value : List ℕ → V)
    (pieces : List (List ℕ)) (b : List ℕ) : Type 0 where
  pub values : AllByRecursion is_value (map value pieces)
  pub joined : flat_map chunk (map value pieces) ≡ b

module _ {V : Type 0} {is_value : V → Type 0} {w : ℕ} {f : List ℕ → Option UleError}
    {chunk : V → List ℕ} {value : List ℕ → V} (s : IsSpelling is_value w f chunk value) where
  pub joined_length : (vs : List V) → AllByRecursion is_value vs →
      length (flat_map chunk vs) ≡ length vs * w
  joined_length [] h = omega arith
  joined_length (v ∷ vs) h =
      length-append (chunk v) (flat_map chunk vs)
      ∙ omega (arith, (s.writes v h.0).long, joined_length vs h.1, suc-mul (length vs) w)

  -- the chunks of what was written are the values' chunks
  pub joined_chunks : (vs : List V) → AllByRecursion is_value vs →
      chunks w (length vs) (flat_map chunk vs) ≡ map chunk vs
  joined_chunks [] h = refl
  joined_chunks (v ∷ vs) h =
      let long = (s.writes v h.0).long in
      let front = front_of w (chunk v) (flat_map chunk vs) long in
      let back = back_of w (chunk v) (flat_map chunk vs) long in
      rw (front, back, joined_chunks vs h.1) refl

  pub no_fault : (vs : List V) → AllByRecursion is_value vs → first_fault f (map chunk vs) ≡ None
  no_fault [] h = refl
  no_fault (v ∷ vs) h = rw (s.writes v h.0).good (no_fault vs h.1)

  pub values_back : (vs : List V) → AllByRecursion is_value vs → map value (map chunk vs) ≡ vs
  values_back [] h = refl
  values_back (v ∷ vs) h = rw (s.back v h.0, values_back vs h.1) refl

  pub count_of_joined : (vs : List V) → AllByRecursion is_value vs → 0 < w →
      length (flat_map chunk vs) / w ≡ length vs
  count_of_joined vs h pos =
      ap (λ n. n / w) (joined_length vs h ∙ omega arith) ∙ div-mul-add (length vs) w 0 pos

  -- what was written is read as the values
  pub joined_values : (vs : List V) → AllByRecursion is_value vs → 0 < w →
      values_of w value (flat_map chunk vs) ≡ vs
  joined_values vs h pos =
      ap (λ n. map value (chunks w n (flat_map chunk vs))) (count_of_joined vs h pos)
      ∙ ap (map value) (joined_chunks vs h) ∙ values_back vs h

  -- and what is read was written
  pub read_pieces : (n : ℕ) (b : List ℕ) → IsBytes b → length b ≡ n * w →
      first_fault f (chunks w n b) ≡ None → IsReading is_value chunk value (chunks w n b) b
  read_pieces zero b each long good =
      record { values = tt; joined = sym (nil_from_length b (omega (arith, long))) }
  read_pieces (suc n) b each long good =
      let le : w ≤ length b = omega (arith, long, suc-mul n w) in
      let left : length (drop w b) ≡ n * w = omega (arith, length-drop w b, long, suc-mul n w) in
      let both = or_none (f (take w b)) (first_fault f (chunks w n (drop w b))) good in
      let c : IsChunk w f (take w b) = record {
        each = front_bytes w b each le;
        long = length-take-le w b le;
        good = both.0;
      } in
      let rest = read_pieces n (drop w b) (back_bytes w b each) left both.1 in
      record {
        values = (s.reads (take w b) c, rest.values);
        joined = rw (s.again (take w b) c, rest.joined) (take-append-drop w b);
      }
