-- Where texts are cut.
use Rattle.zv_locale.proofs.Common.{◌≡◌, ◌∙◌, ◌==◌, ◌<◌, ◌+◌, ℕ, List, [], ◌∷◌, ◌++◌, length, get_or, take, drop, true, false, Bool, append-nil}
use Rattle.zv_locale.proofs.Common.{append_assoc, codes, length-append, None, Some, Option, refl, sym, ap, arith, lit<, Bor, ◌≢◌, MatchOption, map}
use Rattle.zv_locale.proofs.Common.{if◌then◌else◌, option_map_or, length-map, map-append, take-append-drop, All-from_get_or, slice_split_at, slice_split_none}
use Rattle.zv_locale.proofs.Common.{length-slice_split, slice_split-cons_no, slice_split-cons_yes, fronts, is_cut, names_of, tries, locales, subtags}
use Rattle.std.specs.List.{All, count_by, flat_map, onto_first}
use Rattle.std.specs.Str.Pattern.{RFindsChar, SplitsAroundMatch}
use Rattle.std.proofs.lemmas.Simd.{map-map}
use Rattle.std.proofs.lemmas.List.Concat.{flat_map-cons}
use Rattle.std.proofs.lemmas.List.Sums.{sum_by-cons}
use Rattle.std.proofs.lemmas.Str.Pattern.{IsSplitOnceResult, NoCharPasses-char, drop_at_char, split_parts}
use Rattle.std.proofs.lemmas.Bool.{eqb-true}

-- no byte of the text is this one
abbrev Lacks : ℕ → List ℕ → Type 0
Lacks byte text = All (λ b. (b == byte) ≡ false) text

lacks : (byte : ℕ) (text : List ℕ) → ((i : ℕ) → i < length text → get_or text i 0 ≢ byte) → Lacks byte text
lacks byte text none = All-from_get_or (λ b. (b == byte) ≡ false) text 0 (λ i lt. let not = none i lt in grind arith)

-- ---- the first locale of a text

pub first_names : (text : List ℕ) (r : Option (Bor (List ℕ) × Bor (List ℕ))) → IsSplitOnceResult 44 text r
    → MatchOption r (names_of text ++ codes "und" ∷ [] ≡ tries text) (λ x. names_of x.0.now ++ tries x.1.now ≡ tries text)
first_names text None is =
    rw (slice_split_none (λ b. b == 44) text (lacks 44 text (split_parts 44 text None is (lit< tt))), append-nil) refl
first_names text (Some x) is =
    let parts = split_parts 44 text (Some x) is (lit< tt) in
    let cut : locales text ≡ x.0.now ∷ locales x.1.now =
    ap locales parts.0 ∙ slice_split_at (λ b. b == 44) x.0.now 44 x.1.now (lacks 44 x.0.now parts.1) refl in
    rw cut (sym (append_assoc (names_of x.0.now) (flat_map names_of (locales x.1.now)) (codes "und" ∷ [])))

-- ---- the last subtag of a locale

onto_fronts : (b : ℕ) (parts : List (List ℕ)) → 0 < length parts → fronts (onto_first b parts) ≡ map (λ f. b ∷ f) (fronts parts)
onto_fronts b [] some = absurd (omega arith)
onto_fronts b (part ∷ parts) some = simp (map-append, map-map)

-- a byte more at the front
names_step : (b : ℕ) (rest : List ℕ) (is : Bool) → (b == 45) ≡ is → names_of (b ∷ rest) ≡ map (λ f. b ∷ f) (names_of rest) ++ (if is then [] ∷ [] else [])
names_step b rest true is = rw (slice_split-cons_yes (λ x. x == 45) b rest is, eqb-true b 45 is) refl
names_step b rest false is =
    rw (slice_split-cons_no (λ x. x == 45) b rest is)
    (onto_fronts b (subtags rest) (omega (arith, length-slice_split (λ x. x == 45) rest)) ∙ sym (append-nil _))

name_and : (front last : List ℕ) → Lacks 45 last → names_of (front ++ 45 ∷ last) ≡ (front ++ 45 ∷ last) ∷ names_of front
name_and [] last none = rw (slice_split_none (λ b. b == 45) last none) refl
name_and (b ∷ front) last none = rw (names_step b (front ++ 45 ∷ last) (b == 45) refl, name_and front last none, names_step b front (b == 45) refl) refl

pub cut_last : (text : List ℕ) (r : Option (Bor (List ℕ) × Bor (List ℕ)))
    → MatchOption r (RFindsChar 45 text None) (λ x. SplitsAroundMatch (RFindsChar 45) text x.0.now x.1.now)
    → names_of text ≡ text ∷ option_map_or (λ x. names_of x.0.now) r []
cut_last text None is = rw (slice_split_none (λ b. b == 45) text (lacks 45 text (λ i lt. NoCharPasses-char 45 text i is (lit< tt) lt))) refl
cut_last text (Some x) is =
    let at : drop is.0 text ≡ 45 ∷ drop is.1 text = drop_at_char 45 text is.0 is.1 is.2.1 (lit< tt) in
    let whole : text ≡ take is.0 text ++ 45 ∷ drop is.1 text = sym (take-append-drop is.0 text) ∙ ap (λ l. take is.0 text ++ l) at in
    let none = lacks 45 (drop is.1 text) (λ i lt. NoCharPasses-char 45 (drop is.1 text) i is.2.0 (lit< tt) lt) in
    ap names_of whole ∙ name_and (take is.0 text) (drop is.1 text) none ∙ ap (λ l. l ∷ names_of (take is.0 text)) (sym whole)
    ∙ ap (λ l. text ∷ names_of l) (sym is.3)

-- ---- how many names are tried

length_step : (b : ℕ) (rest : List ℕ) (is : Bool) → (b == 45) ≡ is → length (names_of (b ∷ rest)) ≡ length (names_of rest) + (if is then 1 else 0)
length_step b rest is e =
    let more = ap length (names_step b rest is e) in
    let front = length-append (map (λ f. b ∷ f) (names_of rest)) (if is then [] ∷ [] else []) in
    let same = length-map (names_of rest) (λ f. b ∷ f) in grind arith

length_onto : (b : ℕ) (parts : List (List ℕ)) → 0 < length parts
    → length (flat_map names_of (onto_first b parts)) ≡ length (flat_map names_of parts) + (if b == 45 then 1 else 0)
length_onto b [] some = absurd (omega arith)
length_onto b (part ∷ parts) some =
    let rest = flat_map names_of parts in
    omega (arith, length_step b part (b == 45) refl, length-append (names_of (b ∷ part)) rest, length-append (names_of part) rest)

length_of_names : (text : List ℕ) → length (flat_map names_of (locales text)) ≡ count_by is_cut text + 1
length_of_names [] = refl
length_of_names (b ∷ rest) =
    let more = length_of_names rest in
    let some : 0 < length (locales rest) = omega (arith, length-slice_split (λ x. x == 44) rest) in
    let onto = length_onto b (locales rest) some in let count = sum_by-cons (λ x. if is_cut x then 1 else 0) b rest in grind (arith, flat_map-cons)

pub length_of_tries : (text : List ℕ) → length (tries text) ≡ count_by is_cut text + 2
length_of_tries text = omega (arith, length-append (flat_map names_of (locales text)) (codes "und" ∷ []), length_of_names text)
