-- Lists that are written with wider or narrower fields.
use Rattle.zv_owned.proofs.Common.{[], ◌*◌, ◌++◌, ◌+◌, ◌<◌, ◌^◌, ◌∙◌, ◌∷◌, ◌≡◌, ◌≤◌, AllByRecursion, AreValid, IsRegapped, List, Option, None, Part}
use Rattle.zv_owned.proofs.Common.{Part_from_fault, ap, append-nil, append_assoc, arith, codable, concat, elements, enc, flat_map, from_codable, le, length}
use Rattle.zv_owned.proofs.Common.{length-flat_map-le, length-starts_from, refl, starts, starts_from, sym, true, ℕ}
use Rattle.std.proofs.Common.{Err, Ok, OnErr, OnOk, Result}
use Rattle.std.proofs.lemmas.List.{nil_from_length}
use Rattle.zv_ule.specs.Bytes.{IsBytes}
use Rattle.zv_ule.specs.declared.error.UleError.{UleError}
use Rattle.zv_var.proofs.Encoding.{codable_from_Part}
use Rattle.zv_var.proofs.Read.{valid_from_fault}
use Rattle.zv_var.specs.Format.{list_fault}
use Rattle.zv_owned.proofs.Codable.{can_write, codable_from_size, fields_fit}
use Rattle.zv_owned.proofs.SizeRule.{made, size_from_Part}
use Rattle.zv_owned.proofs.Sizes.{size_of}
use Rattle.zv_owned.specs.Widths.{AreNarrow, IsEncoded, IsNarrowed}

all_below : (m k : ℕ) (ss : List ℕ) → m ≤ k → AllByRecursion (λ s. s < m) ss → AllByRecursion (λ s. s < k) ss
all_below m k [] h f = tt
all_below m k (s ∷ ss) h f = (omega (arith, f.0), all_below m k ss h f.1)

-- what has fields of two bytes can have fields of four
pub codable_wider : (xs : List (List ℕ)) → codable 2 xs ≡ true → codable 4 xs ≡ true
codable_wider xs c =
    let f = fields_fit 2 xs c in
    let below = all_below (256 ^ 2) (256 ^ 4) (starts_from 0 xs) (omega arith) f.starts in
    can_write 4 xs (record { count = omega (arith, f.count); short = omega (arith, f.count); starts = below })

-- and the other way round, if it isn't too long
pub codable_narrower : (xs : List (List ℕ)) → 2 * length xs + length (concat xs) ≤ 65535 → codable 2 xs ≡ true
codable_narrower xs short = codable_from_size 2 (omega arith) (omega arith) xs (omega (arith, size_of 2 xs))

-- the numbers of the fields: the count, and the starts
abbrev pub numbers : List (List ℕ) → List ℕ
numbers xs = length xs ∷ starts xs

pub numbers_narrow : (xs : List (List ℕ)) → codable 2 xs ≡ true → AreNarrow (numbers xs)
numbers_narrow [] c = (omega arith, tt)
numbers_narrow (x ∷ xs) c = let r = from_codable 2 x xs c in (omega (arith, r.count_fits), r.starts_fit)

pub numbers_count : (xs : List (List ℕ)) → 0 < length xs → length (numbers xs) ≡ length xs
numbers_count [] h = absurd (omega arith)
numbers_count (x ∷ xs) h = omega (arith, length-starts_from (length x) xs)

pub enc_numbers : (w : ℕ) (xs : List (List ℕ)) → 0 < length xs → enc w xs ≡ flat_map (le w) (numbers xs) ++ concat xs
enc_numbers w [] h = absurd (omega arith)
enc_numbers w (x ∷ xs) h =
    let n : length xs + 1 ≡ length (x ∷ xs) = omega arith in
    rw n (sym (append_assoc (le w (length (x ∷ xs))) (flat_map (le w) (starts (x ∷ xs))) (concat (x ∷ xs))))

-- What the bytes of a list say.
pub record IsListed (w : ℕ) (K : List ℕ → Option UleError) (b : List ℕ) (xs : List (List ℕ)) : Type 0 where
  pub can : codable w xs ≡ true
  pub valid : AreValid K xs
  pub long : 0 < length xs → length b ≡ w * length xs + length (concat xs)
  pub is : 0 < length xs → b ≡ flat_map (le w) (numbers xs) ++ concat xs

pub encoded : (w : ℕ) (b : List ℕ) (xs : List (List ℕ)) → Part w b xs → 0 < length xs → b ≡ enc w xs
encoded w b [] p h = absurd (omega arith)
encoded w b (x ∷ xs) p h = p.1

pub listed : (w : ℕ) (K : List ℕ → Option UleError) (b : List ℕ) → 0 < w → IsBytes b → list_fault w K b ≡ None → IsListed w K b (elements w b)
listed w K b some each sound =
    let p = Part_from_fault w K b some each sound in record {
      can = codable_from_Part w b (elements w b) p;
      valid = valid_from_fault w K b some each sound;
      long = λ h. sym (size_from_Part w b (elements w b) p h) ∙ size_of w (elements w b);
      is = λ h. encoded w b (elements w b) p h ∙ enc_numbers w (elements w b) h;
    }

pub is_encoded : (w : ℕ) (K : List ℕ → Option UleError) (xs : List (List ℕ)) (b : List ℕ) → 0 < w → b ≡ enc w xs → codable w xs ≡ true → AreValid K xs →
    IsEncoded w K xs b
is_encoded w K xs b some e can valid = let m = made w K b xs some e can valid in record { is = e; sound = m.sound; reads = m.reads }

-- a gap of the fields closes or opens: n fields give way to others, and what stands behind them moves
abbrev pub Regaps : ℕ → ℕ → ℕ → ℕ → List ℕ → List ℕ → Type 0
Regaps at out into end old new = (p g m o t : List ℕ) → old ≡ p ++ (g ++ (m ++ (o ++ t))) → length p ≡ at → length g ≡ out →
    length (p ++ (g ++ m)) ≡ end → length o ≡ 0 → IsRegapped p into m 0 t new

-- the bytes behind a gap, then nothing
regapped : {old new : List ℕ} {at out into end : ℕ} (p g m : List ℕ) → Regaps at out into end old new → old ≡ p ++ (g ++ m) → length p ≡ at → length g ≡ out →
    end ≡ length old → IsRegapped p into m 0 [] new
regapped p g m gaps is lp lg le = gaps p g m [] [] (is ∙ ap (λ d. p ++ (g ++ d)) (sym (append-nil m))) lp lg (sym (le ∙ ap length is)) refl

numbers_long : (w : ℕ) (xs : List (List ℕ)) → 0 < length xs → length (flat_map (le w) (numbers xs)) ≡ w * length xs
numbers_long w xs h = length-flat_map-le w (numbers xs) ∙ ap (λ n. w * n) (numbers_count xs h)

-- what is left after a gap's end is nothing
closed_end : {p m b : List ℕ} {a : ℕ} (r : IsRegapped p a m 0 [] b) → b ≡ p ++ (r.first ++ m)
closed_end r = r.is ∙ rw (nil_from_length r.second r.second_long, append-nil) refl

module _ {n : ℕ} (xs : List (List ℕ)) (count : n ≡ length xs) (some : 0 < n) where
  any : 0 < length xs
  any = omega (arith, some, count)

  has_numbers : length (numbers xs) ≡ n
  has_numbers = numbers_count xs any ∙ sym count

  field_bytes : (w : ℕ) → length (flat_map (le w) (numbers xs)) ≡ w * n
  field_bytes w = numbers_long w xs any ∙ ap (λ k. w * k) (sym count)

  -- the fields of the bytes move apart and are made wide
  pub widened : {K : List ℕ → Option UleError} {b b1 b2 : List ℕ} {end : ℕ} → IsListed 2 K b xs → end ≡ length b → Regaps (2 * n) 0 (2 * n) end b b1 →
      ((ss g t : List ℕ) → length ss ≡ n → AreNarrow ss → length g ≡ 2 * n → b1 ≡ flat_map (le 2) ss ++ (g ++ t) → b2 ≡ flat_map (le 4) ss ++ t) →
      IsEncoded 4 K xs b2
  widened {K} {b} {b1} {b2} l last gaps fields =
      let r = regapped (flat_map (le 2) (numbers xs)) [] (concat xs) gaps (l.is any) (field_bytes 2) refl last in
      let is = fields (numbers xs) r.first (concat xs) has_numbers (numbers_narrow xs l.can) r.first_long (closed_end r) in
      is_encoded 4 K xs b2 (omega arith) (is ∙ sym (enc_numbers 4 xs any)) (codable_wider xs l.can) l.valid

  -- they are made narrow and move together
  pub narrowed : {K : List ℕ → Option UleError} {b b1 b2 : List ℕ} {end : ℕ} → IsListed 4 K b xs → length b ≤ 65535 + 2 * n → end ≡ length b1 →
      ((ss t : List ℕ) → length ss ≡ n → AreNarrow ss → b ≡ flat_map (le 4) ss ++ t → IsNarrowed ss t b1) →
      Regaps (2 * n) (2 * n) 0 end b1 b2 → IsEncoded 2 K xs b2
  narrowed {K} {b} {b1} {b2} l short last fields gaps =
      let can = codable_narrower xs (omega (arith, l.long any, count, short)) in
      let f = fields (numbers xs) (concat xs) has_numbers (numbers_narrow xs can) (l.is any) in
      let r = regapped (flat_map (le 2) (numbers xs)) f.left (concat xs) gaps f.is (field_bytes 2) (f.long ∙ ap (λ k. 2 * k) has_numbers) last in
      let none : r.first ++ concat xs ≡ concat xs = rw (nil_from_length r.first r.first_long) refl in
      let is : b2 ≡ flat_map (le 2) (numbers xs) ++ concat xs = closed_end r ∙ ap (λ d. flat_map (le 2) (numbers xs) ++ d) none in
      is_encoded 2 K xs b2 (omega arith) (is ∙ sym (enc_numbers 2 xs any)) can l.valid

-- a call that is refused only where that can't be is Ok
pub must_be_ok : {A E P Q : Type 0} (r : Result A E) → OnOk r P → OnErr r Q → (Q → P) → P
must_be_ok = elim [ Ok v ↦ λ p q f. p | Err e ↦ λ p q f. f q ]
