-- A field that is written over.
use Rattle.std.proofs.Common.{◌≡◌, ℕ, zero, suc, ◌+◌, ◌-◌, ◌*◌, ◌<◌, ◌≤◌, List, [], ◌∷◌, ◌++◌, length, map, take, drop, get_or}
use Rattle.std.proofs.Common.{set, Fits, w8, Option, Some, None, refl, ap, ◌∙◌, sym, arith, length-append, append_assoc}
use Rattle.std.proofs.lemmas.List.{drop_at, length-set, set-get_or, take_at}
use Rattle.std.specs.List.{concat, flat_map}
use borrow.Rule.Slice.PartMut.{put_mid}
use Rattle.zv_ule.specs.Bytes.{IsBytes, le}
use Rattle.zv_var.proofs.Encoding.{read_lengthless}
use Rattle.zv_var.proofs.Fields.{length-flat_map-le}
use Rattle.zv_var.proofs.Lists.{length-elements_after}
use Rattle.zv_var.proofs.Read.{lengthless_back}
use Rattle.zv_var.specs.Format.{elements_after, fault_after, starts}
use Rattle.zv_var.specs.Laws.{HasStarts}
use Rattle.zv_var.specs.Nested.{lengthless_fault}
use Rattle.zv_var.specs.declared.error.VarZeroVecFormatError.{VarZeroVecFormatError}
use Rattle.zv_var.specs.Serialize.{lengthless}
use Rattle.zv_multi.specs.Records.{no_fault, offsets, shape_fault}
use Rattle.zv_multi.proofs.Written.{all_valid, length-concat, length-lengthless, length-starts, offsets_of_lengths}

lengths_kept : (xs : List (List ℕ)) (i : ℕ) (x : List ℕ) → length x ≡ length (get_or xs i []) → map length (set xs i x) ≡ map length xs
lengths_kept [] i x h = refl
lengths_kept (y ∷ ys) zero x h = ap (λ (n : ℕ). n ∷ map length ys) h
lengths_kept (y ∷ ys) (suc i) x h = ap (λ (ns : List ℕ). length y ∷ ns) (lengths_kept ys i x h)

-- so the starts are kept
starts_kept : (xs : List (List ℕ)) (i : ℕ) (x : List ℕ) → length x ≡ length (get_or xs i []) → starts (set xs i x) ≡ starts xs
starts_kept xs i x h = sym (offsets_of_lengths (set xs i x)) ∙ ap offsets (lengths_kept xs i x h) ∙ offsets_of_lengths xs

-- what stands before a field, the field, and what stands behind it
concat-set : (xs : List (List ℕ)) (i : ℕ) (x : List ℕ) → i < length xs → concat (set xs i x) ≡ concat (take i xs) ++ (x ++ concat (drop (suc i) xs))
concat-set [] i x h = absurd (omega arith)
concat-set (y ∷ ys) zero x h = refl
concat-set (y ∷ ys) (suc i) x h = rw (append_assoc, concat-set ys i x (omega arith)) refl

-- bytes in the place of as many
put_mid-between : (front before old behind new : List ℕ) (a k : ℕ) → a ≡ length front + length before → k ≡ length old →
    put_mid a k (front ++ (before ++ (old ++ behind))) new ≡ front ++ (before ++ (new ++ behind))
put_mid-between front before old behind new a k ea ek =
    let parts : front ++ (before ++ (old ++ behind)) ≡ (front ++ before) ++ (old ++ behind) = sym (append_assoc front before (old ++ behind)) in
    let long : length (front ++ before) ≡ a = omega (arith, length-append front before) in
    rw (parts, take_at (front ++ before) (old ++ behind) a long, drop_at (front ++ before) (old ++ behind) a long, drop_at old behind k (sym ek), append_assoc)
    refl

none_lengthless : (o : Option VarZeroVecFormatError) → lengthless_fault o ≡ None → o ≡ None
none_lengthless None h = refl
none_lengthless (Some e) h = absurd cc

-- a record is written as its fields
pub whole_record : (w n : ℕ) (b : List ℕ) → 0 < n → IsBytes b → shape_fault w n b ≡ None →
    (b ≡ lengthless w (elements_after w n b)) × HasStarts w (elements_after w n b)
whole_record w n b some bytes h =
    let back = lengthless_back w no_fault n b some bytes (none_lengthless (fault_after w no_fault n b) h) in
    (back.0, back.1.0)

-- field i of a record of n
module _ (w n i : ℕ) (b : List ℕ) (xs : List (List ℕ)) (is : xs ≡ elements_after w n b) (inside : i < n) (whole : b ≡ lengthless w xs) where
  many : length xs ≡ n
  many = rw is (length-elements_after w n b)

  joined : concat xs ≡ concat (take i xs) ++ (get_or xs i [] ++ concat (drop (suc i) xs))
  joined = let c = many in let parts = concat-set xs i (get_or xs i []) (omega arith) in rw set-get_or at parts

  -- the field ends within
  pub end_within : w * (n - 1) + length (concat (take i xs)) + length (get_or xs i []) ≤ length b
  end_within =
      let c = many in
      let l = length-lengthless w xs in
      omega (
        arith,
        ap length whole,
        rw c at l,
        length-concat xs,
        ap length joined,
        length-append (concat (take i xs)) (get_or xs i [] ++ concat (drop (suc i) xs)),
        length-append (get_or xs i []) (concat (drop (suc i) xs)),
      )

  -- other bytes in its place make the record in which they are the field
  module _ (new : List ℕ) (start end : ℕ) (numbered : HasStarts w xs) (from : start ≡ w * (n - 1) + length (concat (take i xs)))
      (to : end ≡ start + length (get_or xs i [])) (same : length new ≡ length (get_or xs i [])) where
    set_bytes : put_mid start (end - start) b new ≡ lengthless w (set xs i new)
    set_bytes =
        let c = many in
        let kept = starts_kept xs i new same in
        let front : List ℕ = flat_map (le w) (starts xs) in
        let long : length front ≡ w * (n - 1) = simp (length-flat_map-le, length-starts, c) refl in
        ap (λ (r : List ℕ). put_mid start (end - start) r new) (whole ∙ ap (λ (r : List ℕ). front ++ r) joined)
        ∙ put_mid-between front (concat (take i xs)) (get_or xs i []) (concat (drop (suc i) xs)) new start (end - start) (omega arith) (omega arith)
        ∙ rw (kept, concat-set xs i new (omega arith)) refl

    set_numbered : HasStarts w (set xs i new)
    set_numbered = record { fit = rw (starts_kept xs i new same) numbered.fit; short = rw length-set numbered.short }

    pub set_fields : (elements_after w n (put_mid start (end - start) b new) ≡ set xs i new) × (shape_fault w n (put_mid start (end - start) b new) ≡ None)
    set_fields =
        let c : length (set xs i new) ≡ n = rw length-set many in
        let r = read_lengthless w (set xs i new) set_numbered in
        let read = r.0 in
        let sound = r.1 no_fault (all_valid _) in
        let sound_n = rw c at sound in
        rw set_bytes (rw c at read, rw sound_n refl)

-- field i of bytes that are a record of n
pub in_record : (w n i : ℕ) (b : List ℕ) → ((j : ℕ) → Fits w8 (get_or b j 0)) → i < n → shape_fault w n b ≡ None →
    (b ≡ lengthless w (elements_after w n b)) × (HasStarts w (elements_after w n b)
    × (w * (n - 1) + length (concat (take i (elements_after w n b))) + length (get_or (elements_after w n b) i []) ≤ length b))
in_record w n i b each inside shape =
    let r = whole_record w n b (omega arith) (record { at = λ j. omega (arith, each j) }) shape in
    (r.0, (r.1, end_within w n i b _ refl inside r.0))
