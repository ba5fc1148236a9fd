-- A change of the bytes of a list leaves the encoding of the changed list.
use Rattle.zv_owned.proofs.Common.{[], ◌*◌, ◌++◌, ◌+◌, ◌-◌, ◌<◌, ◌^◌, ◌∙◌, ◌∷◌, ◌≡◌, ◌≤◌, AllByRecursion, CanShift, Edit, IsEdit, List, None, Option, Part}
use Rattle.zv_owned.proofs.Common.{Some, ap, append_assoc, arith, codable, concat, concat-append, count_after, enc, flat_map, flat_map-append}
use Rattle.zv_owned.proofs.Common.{from_codable, le, length, length-append, length-le, length-map, length-starts_from, map, max, mul-add, size}
use Rattle.zv_owned.proofs.Common.{option_map, option_to_list, refl, shifted, starts, sym, true, ℕ}
use Rattle.std.proofs.Common.{◌≢◌}
use Rattle.std.proofs.Math.Nat.{mul-le-mul_left}
use Rattle.std.specs.Option.{ForSome}
use Rattle.zv_owned.proofs.Sizes.{size_of}
use Rattle.zv_owned.specs.Splices.{CanEdit, Edits, begin_steps, most_steps}
pub use Rattle.zv_owned.proofs.Sizes.{one_encoded}

-- What a list that isn't empty is written as.
pub record IsWritten (w : ℕ) (xs : List (List ℕ)) : Type 0 where
  pub is : enc w xs ≡ le w (length xs) ++ (flat_map (le w) (starts xs) ++ concat xs)
  pub count : length (starts xs) + 1 ≡ length xs
  pub fits : codable w xs ≡ true → (length xs < 256 ^ w) × AllByRecursion (λ s. s < 256 ^ w) (starts xs)

written : (w : ℕ) (xs : List (List ℕ)) → 0 < length xs → IsWritten w xs
written w [] h = absurd (omega arith)
written w (x ∷ xs) h =
    let n : length xs + 1 ≡ length (x ∷ xs) = omega arith in
    record {
      is = rw n refl;
      count = omega (arith, length-starts_from);
      fits = λ c. let r = from_codable w x xs c in (omega (arith, r.count_fits), r.starts_fit);
    }

later_all : (m : ℕ) (xs ys : List ℕ) → AllByRecursion (λ s. s < m) (xs ++ ys) → AllByRecursion (λ s. s < m) ys
later_all m [] ys h = h
later_all m (x ∷ xs) ys h = later_all m xs ys h.1

can_shift : (w a b : ℕ) (ss : List ℕ) → AllByRecursion (λ s. s < 256 ^ w) ss → AllByRecursion (λ s. b ≤ s + a) ss →
    AllByRecursion (λ s. s < 256 ^ w) (map (shifted a b) ss) → CanShift w a b ss
can_shift w a b [] f g h = tt
can_shift w a b (s ∷ ss) f g h = ((f.0, (g.0, omega (arith, g.0, h.0))), can_shift w a b ss f.1 g.1 h.1)

first_fits : (m : ℕ) (o : Option ℕ) (ss : List ℕ) → AllByRecursion (λ s. s < m) (option_to_list o ++ ss) → ForSome o (λ n. n < m)
first_fits m None ss h = λ x e. absurd cc
first_fits m (Some s) ss h = λ x e. let q : s ≡ x = cc in rw (← q) h.0

-- A change e of the bytes b of a list that isn't empty, and doesn't become so.
pub record IsSplice (w : ℕ) (b : List ℕ) (front gone back : List (List ℕ)) (o : Option (List ℕ)) (e : Edit) : Type 0 where
  pub edit : IsEdit front gone back o e
  pub is : b ≡ enc w (front ++ (gone ++ back))
  pub old_codable : codable w (front ++ (gone ++ back)) ≡ true
  pub new_codable : codable w (front ++ (option_to_list o ++ back)) ≡ true

-- the most steps where a list isn't empty, and doesn't become so
most_is : (w n long i j : ℕ) (o : Option (List ℕ)) → n ≢ 0 → (o ≡ None → n ≢ 1) →
    most_steps w n long i j (option_map (λ x. length x) o) ≡ long - w * max i 1 + w * (n - i - j) + w + 2 * size w (option_to_list o)
most_is w n long i j None some more = let m = more refl in grind arith
most_is w n long i j (Some x) some more = grind (arith, one_encoded w x)

module _ {w : ℕ} {b : List ℕ} {front gone back : List (List ℕ)} {o : Option (List ℕ)} {e : Edit} (s : IsSplice w b front gone back o e) where
  abbrev pub r : IsEdit front gone back o e
  r = s.edit

  abbrev pub old_list : List (List ℕ)
  old_list = front ++ (gone ++ back)

  abbrev pub new_list : List (List ℕ)
  new_list = front ++ (option_to_list o ++ back)

  old : IsWritten w old_list
  old = written w old_list (omega (arith, r.counts, length-append {A = List ℕ}))

  new : IsWritten w new_list
  new = written w new_list (omega (arith, r.counts, length-append {A = List ℕ}))

  old_count : e.kept + e.gone + e.later ≡ length old_list
  old_count = omega (arith, ap length r.old, length-append {A = ℕ}, old.count, r.counts)

  new_count : count_after e ≡ length new_list
  new_count = omega (arith, ap length r.new, length-append {A = ℕ}, length-map r.ss (shifted e.into e.out), new.count, r.counts)

  pub long : length b ≡ w * e.kept + w * e.gone + w * e.later + (length (concat front) + (length (concat gone) + length (concat back)))
  long = rw (s.is, size_of w old_list, ← old_count, concat-append) (simp (mul-add, length-append, concat-append))

  pub grown : length (enc w new_list) + (w * e.gone + e.out) ≡ length b + (w * length (option_to_list e.start) + e.into)
  grown = rw (long, size_of w new_list, ← new_count) (simp (mul-add, length-append, concat-append) (omega (arith, r.counts)))

  below_new : AllByRecursion (λ s. s < 256 ^ w) (option_to_list e.start ++ map (shifted e.into e.out) r.ss)
  below_new = later_all (256 ^ w) r.ps _ (rw r.new at (new.fits s.new_codable).1)

  pub can_edit : length b < 2 ^ 63 → e.into < 2 ^ 32 → CanEdit w (length b) (concat (option_to_list o)) e
  can_edit short small = record {
    kept = omega (arith, r.counts);
    inside = omega (arith, long, r.counts);
    short = short;
    into = r.counts.into;
    small = small;
    start_fits = first_fits (256 ^ w) e.start (map (shifted e.into e.out) r.ss) below_new;
    count_fits = rw new_count (new.fits s.new_codable).0;
  }

  shifts : CanShift w e.into e.out r.ss
  shifts = can_shift w e.into e.out r.ss (later_all (256 ^ w) r.gs r.ss (later_all (256 ^ w) r.ps _ (rw r.old at (old.fits s.old_codable).1))) r.above
      (later_all (256 ^ w) (option_to_list e.start) _ below_new)

  pub spliced : {bytes : List ℕ} → Edits w e (concat (option_to_list o)) b bytes → bytes ≡ enc w new_list
  spliced h =
      let f = flat_map (le w) in
      let is : b ≡ (le w (length old_list) ++ f r.ps) ++ (f r.gs ++ ((f r.ss ++ concat front) ++ (concat gone ++ concat back))) =
      s.is ∙ rw (old.is, r.old) (simp (flat_map-append, concat-append, append_assoc)) in
      rw (new.is, r.new, ← new_count) (h (le w (length old_list)) r.ps r.gs r.ss (concat front) (concat gone) (concat back) is
      (length-le w (length old_list)) (sym r.counts.kept) (sym r.counts.left) (sym r.counts.later) (sym r.counts.before) (sym r.counts.out) shifts
      (λ k. ap (le w) (omega (arith, k, old_count))) ∙ simp (flat_map-append, concat-append, append_assoc))

  -- t is how many steps there are after it, u how many there were before
  pub steps_within : (n i j t u : ℕ) → n ≡ length old_list → i ≡ length front → j ≡ length gone → (j ≡ 0 → o ≡ None → ⊥) →
      t ≤ u + (length b - w * e.kept - w * e.gone - e.out) + (w * length (option_to_list e.start) + e.into - (w * e.gone + e.out)) + e.into
      + w * length (option_to_list e.start) + w * e.later + w → t ≤ u + most_steps w n (length b) i j (option_map (λ x. length x) o)
  steps_within n i j t u en ei ej change h =
      let c = r.counts in
      let parts = length-append {A = List ℕ} in
      let more : o ≡ None → n ≢ 1 = λ none one. let some : j ≢ 0 = λ z. change z none in
      omega (arith, parts, c.left_some, ap (λ (o : Option (List ℕ)). length (option_to_list o)) none) in
      let later : w * e.later ≤ w * (n - i - j) = mul-le-mul_left w (omega (arith, parts, c.rest)) in
      let tail : w * max i 1 ≤ w * e.kept = mul-le-mul_left w (omega (arith, c.place)) in
      let start : w * length (option_to_list e.start) ≤ w * length (option_to_list o) = mul-le-mul_left w c.brief in
      rw (most_is w n (length b) i j o (omega (arith, parts, c.some)) more) (omega (arith, c.into, size_of w (option_to_list o)))

-- a list that isn't empty is in its encoding
pub encoded : (w : ℕ) (b : List ℕ) (xs : List (List ℕ)) → Part w b xs → 0 < length xs → b ≡ enc w xs
encoded w b [] p h = absurd (omega arith)
encoded w b (x ∷ xs) p h = p.1

pub begin_within : (w n long i j : ℕ) (o : Option ℕ) → begin_steps w o ≤ most_steps w n long i j o
begin_within w n long i j None = omega arith
begin_within w n long i j (Some x) = omega arith
