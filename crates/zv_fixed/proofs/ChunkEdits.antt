-- Bytes that are chunks one after another, edits that leave such bytes, and the values in them.
use Rattle.std.proofs.Common.{◌≡◌, ℕ, zero, suc, ◌+◌, ◌-◌, ◌*◌, ◌/◌, ◌<◌, ◌≤◌, List, [], ◌∷◌, ◌++◌, length, take, drop, map, Option, None, Some, Bool}
use Rattle.std.proofs.Common.{Result, Ok, Err, OnErr, refl, ap, sym, ◌∙◌, arith, subst, append_assoc, append-nil, length-append, length-drop}
use Rattle.std.specs.Prelude.{insert, remove, slice_get, slice_range, slice_set, IsTrue, OnOk}
use Rattle.std.specs.List.{splice, take-map, drop-map}
use Rattle.std.proofs.Math.Nat.{suc-mul, mul-sub, mul_comm, div-mul-le_self}
use Rattle.std.proofs.Math.Seq.{take-append-add, drop-append-add}
use Rattle.std.proofs.lemmas.List.{take-append-drop, length-take-le, nil_from_length, set_split, map-append, map-set, take_all, take_more}
use Rattle.std.proofs.lemmas.Nat.{div-mul-add, mod-mul-add, div-add-mod', mul-le}
use Rattle.std.proofs.lemmas.Option.{get_or_from_slice_get}
use Rattle.std.proofs.lemmas.Result.{on_ok_weaker}
use Rattle.zv_ule.specs.declared.error.TyName.{TyName}
use Rattle.zv_ule.specs.declared.error.UleError.{UleError}
use Rattle.zv_ule.specs.Chunks.{chunks, chunks_of, first_fault, chunks_fault}
use Rattle.zv_ule.specs.Fixed.{is_width}
use Rattle.zv_ule.specs.Kinds.{IsFixedKind}
use Rattle.zv_ule.specs.laws.Joined.{or_none, front_of, back_of, length-chunks}
use Rattle.zv_ule.proofs.At.{place}
use Rattle.zv_ule.proofs.ChunkFaults.{whole_fault, width_pos, one_good}
use Rattle.zv_ule.proofs.Lists.{whole_if}
use Rattle.zv_fixed.specs.declared.cow_bytes.CowBytes.{CowBytes}
use Rattle.zv_fixed.specs.CowBytes.{bytes_in, IsUnchanged}

-- the bytes are these chunks, each of width w and without a fault
pub data AreChunks (w : ℕ) (f : List ℕ → Option UleError) : List ℕ → List (List ℕ) → Type 0 where
  none : AreChunks w f [] []
  more : {c b : List ℕ} {cs : List (List ℕ)} → length c ≡ w → f c ≡ None → AreChunks w f b cs → AreChunks w f (c ++ b) (c ∷ cs)

module _ {w : ℕ} {f : List ℕ → Option UleError} where
  pub joined : {a b : List ℕ} {cs ds : List (List ℕ)} → AreChunks w f a cs → AreChunks w f b ds → AreChunks w f (a ++ b) (cs ++ ds)
  joined none q = q
  joined (more long good p) q = rw append_assoc (more long good (joined p q))

  -- the first i chunks, and the others
  pub parted : (i : ℕ) {b : List ℕ} {cs : List (List ℕ)} → AreChunks w f b cs → i ≤ length cs →
      AreChunks w f (take (i * w) b) (take i cs) × AreChunks w f (drop (i * w) b) (drop i cs)
  parted zero p le = let start : 0 * w ≡ 0 = omega arith in rw start (none, p)
  parted (suc i) none le = absurd (omega arith)
  parted (suc i) (more {c} {b} long good p) le =
      let next : suc i * w ≡ length c + i * w = omega (arith, suc-mul i w) in
      let rest = parted i p (omega arith) in
      rw (next, take-append-add, drop-append-add) (more long good rest.0, rest.1)

  counted : {b : List ℕ} {cs : List (List ℕ)} → AreChunks w f b cs → (length b ≡ length cs * w) × (chunks w (length cs) b ≡ cs) × (first_fault f cs ≡ None)
  counted none = (omega arith, refl, refl)
  counted (more {c} {b} {cs} long good p) =
      let rest = counted p in (
        omega (arith, length-append c b, rest.0, suc-mul (length cs) w),
        rw (front_of w c b long, back_of w c b long, rest.1) refl,
        rw good rest.2,
      )

  read_chunks : (n : ℕ) (b : List ℕ) → length b ≡ n * w → first_fault f (chunks w n b) ≡ None → AreChunks w f b (chunks w n b)
  read_chunks zero b long good = rw (nil_from_length b (omega arith)) none
  read_chunks (suc n) b long good =
      let both = or_none (f (take w b)) (first_fault f (chunks w n (drop w b))) good in
      let le : w ≤ length b = omega (arith, suc-mul n w) in
      subst (λ x. AreChunks w f x (chunks w (suc n) b)) (take-append-drop w b)
      (more (length-take-le w b le) both.0 (read_chunks n (drop w b) (omega (arith, length-drop w b, suc-mul n w)) both.1))

  -- bytes without a fault are their chunks
  pub are_chunks : (ty : TyName) (b : List ℕ) → chunks_fault ty w f b ≡ None → AreChunks w f b (chunks_of w b)
  are_chunks ty b good = let whole = whole_if ty w f b good in read_chunks (length b / w) b (omega (arith, div-add-mod' (length b) w)) whole.1

  -- and the other way round
  pub they_are : {b : List ℕ} {cs : List (List ℕ)} → IsTrue (is_width w) → AreChunks w f b cs → chunks_of w b ≡ cs
  they_are {b} {cs} usable p =
      let all = counted p in
      let long : length b ≡ length cs * w + 0 = omega arith in
      ap (λ n. chunks w (n / w) b) long ∙ rw (div-mul-add (length cs) w 0 (width_pos w usable)) all.1

  pub no_fault : (ty : TyName) {b : List ℕ} {cs : List (List ℕ)} → IsTrue (is_width w) → AreChunks w f b cs → chunks_fault ty w f b ≡ None
  no_fault ty {b} {cs} usable p =
      let long : length b ≡ length cs * w + 0 = omega (arith, (counted p).0) in
      whole_fault ty w f b (rw long (mod-mul-add (length cs) w 0 (width_pos w usable))) ∙ rw (they_are usable p) (counted p).2

-- the chunks from i to before j alone
module _ (w i j a e : ℕ) (held old new : List ℕ) (ty : TyName) (f : List ℕ → Option UleError) (usable : IsTrue (is_width w)) (same : held ≡ old)
    (good : chunks_fault ty w f held ≡ None) (from : a ≡ i * w) (to : e ≡ j * w) (order : i ≤ j) (le : j ≤ length (chunks_of w old))
    (is : new ≡ slice_range held a e) where
  kept : AreChunks w f new (slice_range (chunks_of w old) i j)
  kept =
      let count : j * w - i * w ≡ (j - i) * w = rw (mul_comm j w, mul_comm i w, mul_comm (j - i) w) (sym (mul-sub w j i)) in
      let all : AreChunks w f old (chunks_of w old) = are_chunks ty old (rw (← same) good) in
      rw (is, same, from, to, count) (parted (j - i) (parted i all (omega arith)).1 (rw length-drop (omega arith))).0

  pub kept_good : chunks_fault ty w f new ≡ None
  kept_good = no_fault ty usable kept

  pub kept_chunks : chunks_of w new ≡ slice_range (chunks_of w old) i j
  kept_chunks = they_are usable kept

  pub kept_values : {X : Type 0} (value : List ℕ → X) (vs : List X) → map value (chunks_of w old) ≡ vs → map value (chunks_of w new) ≡ slice_range vs i j
  kept_values value vs read = rw (kept_chunks, ← read) (simp (take-map, drop-map))

-- where a chunk starts
pub start_within : (w i : ℕ) (b : List ℕ) → i ≤ length (chunks_of w b) → i * w ≤ length b
start_within w i b le =
    let n = length b / w in
    omega (arith, mul-le i w n w (omega (arith, le, length-chunks w n b)) (omega arith), div-mul-le_self (length b) w)

-- and where it ends
pub end_within : (w i a e : ℕ) (held old : List ℕ) → held ≡ old → a ≡ i * w → e ≡ a + w → i < length (chunks_of w old) → e ≤ length held
end_within w i a e held old same at to lt = omega (arith, place w old i lt, ap length same)

-- an element of a kind of one width is one chunk
pub one_chunk : {usable : Bool} {fault f : List ℕ → Option UleError} {ty : TyName} {w : ℕ} → IsFixedKind usable fault ty w f → (c : List ℕ) → fault c ≡ None →
    (length c ≡ w) × (f c ≡ None)
one_chunk {f = f} {ty} {w} kind c good = one_good ty w f c (sym (kind.errors c) ∙ good)

-- ---- edits that may fail, of the chunks from place i on: a is where they start, and e where they end

good_after : {T E : Type 0} (r : Result T E) (w : ℕ) (ty : TyName) (f : List ℕ → Option UleError) (held new : CowBytes) (cs : List (List ℕ)) →
    IsTrue (is_width w) → chunks_fault ty w f (bytes_in held) ≡ None → OnErr r (IsUnchanged held new) → OnOk r (AreChunks w f (bytes_in new) cs) →
    chunks_fault ty w f (bytes_in new) ≡ None
good_after (Ok x) w ty f held new cs usable good err are = no_fault ty usable are
good_after (Err e) w ty f held new cs usable good err are = ap (chunks_fault ty w f) err.bytes ∙ good

pub map_splice : {X Y : Type 0} (f : X → Y) (xs : List X) (i j : ℕ) (ys : List X) → map f (splice xs i j ys) ≡ splice (map f xs) i j (map f ys)
map_splice f xs i j ys = simp (map-append, take-map, drop-map)

module _ {T E : Type 0} (r : Result T E) (w i a : ℕ) (held new : CowBytes) (old : List ℕ) (ty : TyName) (f : List ℕ → Option UleError)
    (usable : IsTrue (is_width w)) (same : bytes_in held ≡ old) (good : chunks_fault ty w f (bytes_in held) ≡ None) (at : a ≡ i * w) where
  edited : (j e : ℕ) {c : List ℕ} {added : List (List ℕ)} → e ≡ j * w → i ≤ j → j ≤ length (chunks_of w old) → AreChunks w f c added →
      OnOk r (bytes_in new ≡ splice (bytes_in held) a e c) → OnOk r (AreChunks w f (bytes_in new) (splice (chunks_of w old) i j added))
  edited j e {c} to order le p ok =
      let all : AreChunks w f old (chunks_of w old) = are_chunks ty old (rw (← same) good) in
      let parts = joined (parted i all (omega arith)).0 (joined p (parted j all le).1) in
      on_ok_weaker r (λ (is : bytes_in new ≡ splice (bytes_in held) a e c). rw (is, same, at, to) parts) ok

  read_after : {X : Type 0} (value : List ℕ → X) (cs : List (List ℕ)) {vs : List X} → map value cs ≡ vs → OnOk r (AreChunks w f (bytes_in new) cs) →
      OnOk r (map value (chunks_of w (bytes_in new)) ≡ vs)
  read_after value cs read are = on_ok_weaker r (λ p. ap (map value) (they_are usable p) ∙ read) are

  module _ (e : ℕ) (to : e ≡ a + w) (lt : i < length (chunks_of w old)) (ok : OnOk r (bytes_in new ≡ splice (bytes_in held) a e [])) where
    removed : OnOk r (AreChunks w f (bytes_in new) (remove (chunks_of w old) i))
    removed = edited (suc i) e (omega (arith, suc-mul i w)) (omega arith) lt none ok

    pub removed_good : OnErr r (IsUnchanged held new) → chunks_fault ty w f (bytes_in new) ≡ None
    removed_good err = good_after r w ty f held new _ usable good err removed

    pub removed_chunks : OnOk r (chunks_of w (bytes_in new) ≡ remove (chunks_of w old) i)
    removed_chunks = on_ok_weaker r (they_are usable) removed

    pub removed_values : {X : Type 0} (value : List ℕ → X) (vs : List X) → map value (chunks_of w old) ≡ vs →
        OnOk r (map value (chunks_of w (bytes_in new)) ≡ remove vs i)
    removed_values value vs read = read_after value _ (rw (← read) (map_splice value (chunks_of w old) i (suc i) [])) removed

  module _ (c : List ℕ) (long : length c ≡ w) (fine : f c ≡ None) where
    one : AreChunks w f c (c ∷ [])
    one = subst (λ x. AreChunks w f x (c ∷ [])) (append-nil c) (more long fine none)

    module _ (le : i ≤ length (chunks_of w old)) (ok : OnOk r (bytes_in new ≡ splice (bytes_in held) a a c)) where
      inserted : OnOk r (AreChunks w f (bytes_in new) (insert (chunks_of w old) i c))
      inserted = edited i a at (omega arith) le one ok

      pub inserted_good : OnErr r (IsUnchanged held new) → chunks_fault ty w f (bytes_in new) ≡ None
      inserted_good err = good_after r w ty f held new _ usable good err inserted

      pub inserted_chunks : OnOk r (chunks_of w (bytes_in new) ≡ insert (chunks_of w old) i c)
      inserted_chunks = on_ok_weaker r (they_are usable) inserted

      pub inserted_values : {X : Type 0} (value : List ℕ → X) (vs : List X) (x : X) → value c ≡ x → map value (chunks_of w old) ≡ vs →
          OnOk r (map value (chunks_of w (bytes_in new)) ≡ insert vs i x)
      inserted_values value vs x is read = read_after value _ (rw (← read, ← is) (map_splice value (chunks_of w old) i i (c ∷ []))) inserted

    module _ (e : ℕ) (to : e ≡ a + length c) (lt : i < length (chunks_of w old)) (ok : OnOk r (bytes_in new ≡ splice (bytes_in held) a e c)) where
      replaced : OnOk r (AreChunks w f (bytes_in new) (slice_set (chunks_of w old) i c))
      replaced = rw (set_split (chunks_of w old) i c lt) (edited (suc i) e (omega (arith, suc-mul i w)) (omega arith) lt one ok)

      pub replaced_good : OnErr r (IsUnchanged held new) → chunks_fault ty w f (bytes_in new) ≡ None
      replaced_good err = good_after r w ty f held new _ usable good err replaced

      pub replaced_chunks : OnOk r (chunks_of w (bytes_in new) ≡ slice_set (chunks_of w old) i c)
      replaced_chunks = on_ok_weaker r (they_are usable) replaced

      pub replaced_values : {X : Type 0} (value : List ℕ → X) (vs : List X) (x : X) → value c ≡ x → map value (chunks_of w old) ≡ vs →
          OnOk r (map value (chunks_of w (bytes_in new)) ≡ slice_set vs i x)
      replaced_values value vs x is read = read_after value _ (rw (← read, ← is) (map-set value (chunks_of w old) i c)) replaced

-- a list is those before its last element and the last
pub last_of : {X : Type 0} (xs ys : List X) (i : ℕ) (x : X) → i + 1 ≡ length xs → slice_get xs i ≡ Some x → ys ≡ slice_range xs 0 i → xs ≡ ys ++ x ∷ []
last_of xs ys i x is there front =
    let whole : i - 0 ≡ i = omega arith in
    sym (take_all (i + 1) xs (omega (arith, is))) ∙ (take_more xs i x (omega (arith, is)) ∙ rw (front, whole, get_or_from_slice_get xs i x x there) refl)
