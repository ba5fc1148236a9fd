-- Calls of a closure one after another.
use Rattle.std.proofs.Common.{◌≡◌, ℕ, zero, suc, ◌+◌, ◌<◌, List, [], ◌∷◌, ◌++◌, length, take, drop, map, get_or, Some, refl, ap}
use Rattle.std.proofs.Common.{sym, ◌∙◌, arith}
use Rattle.std.proofs.lemmas.List.{same_lists, take_more, map_push, get_or-drop}
use Rattle.std.proofs.lemmas.Fn.{FoldsTo-push}
use Rattle.std.specs.Array.{IsFromFnResult, IsFromFnResultFrom}
use Rattle.std.specs.Fn.{Mut, Called}
use Rattle.std.specs.Option.{option_map}
use Rattle.std.specs.Prelude.{slice_get}
use Rattle.std.specs.declared.cmp.Ordering.{Ordering}
use Rattle.std.specs.declared.cmp.Ordering.TheVariants.{Equal}
use Rattle.std.proofs.lemmas.Option.{slice_get-map, slice_get_within, get_or_from_slice_get}
use Rattle.zv_ule.specs.Search.{answer_at}
use Rattle.zv_fixed.specs.Calls.{Computes, Asked, AnswersEach}

module _ {F T R : Type 0} {g : Mut F (T × Unit {0}) R} where
  -- a closure that computes an answer gives it, and goes on to compute it
  pub computed : {p q : F} (answer : T → R) {x : T} {r : R} → Computes g answer p → Called g p (x, tt) r q → Computes g answer q × (r ≡ answer x)
  computed {p} {q} answer {x} {r} k e = (record { at = λ xs. (k.at ((x, tt) ∷ xs) r q e).1 }, (k.at ((x, tt) ∷ []) r q e).0)

  -- no call yet
  pub none_asked : (f : F) → (d : AnswersEach g f [] []) × (d.last ≡ f)
  none_asked f = (record { calls = []; last = f; asked = refl; taken = refl; given = refl }, refl)

  -- one more call
  pub asked_more : (f p q : F) (calls : List (T × R)) (x : T) (r : R) → Asked g f calls p → Called g p (x, tt) r q → Asked g f (calls ++ (x, r) ∷ []) q
  asked_more f p q calls x r asked called = FoldsTo-push (λ f call f'. Called g f (call.0, tt) call.1 f') _ _ _ _ _ asked called

  all_answers : (answer : T → R) (f last : F) (calls : List (T × R)) → Computes g answer f → Asked g f calls last →
      map (λ c. c.1) calls ≡ map answer (map (λ c. c.0) calls)
  all_answers answer f last [] computes asked = refl
  all_answers answer f last (c ∷ cs) computes asked =
      let now = computed answer computes asked.1 in
      rw (now.1, all_answers answer asked.0 last cs now.0 asked.2) refl

  -- a closure that computes an answer gives it for each value
  pub all_computed : (answer : T → R) (f : F) (xs : List T) (ys : List R) → AnswersEach g f xs ys → Computes g answer f → ys ≡ map answer xs
  all_computed answer f xs ys done computes =
      sym done.given ∙ (all_answers answer f done.last done.calls computes done.asked ∙ ap (map answer) done.taken)

  -- the calls at the first i of the old values, of which the others still stand in the list now, and the next one
  pub next_call : {f last next : F} (old now : List T) (i : ℕ) {ys : List R} {x : T} {r : R} (d : AnswersEach g f (take i old) ys) → d.last ≡ last →
      length now ≡ length old → drop i now ≡ drop i old → slice_get now i ≡ Some x → Called g last (x, tt) r next →
      (d : AnswersEach g f (take (i + 1) old) (ys ++ r ∷ [])) × (d.last ≡ next)
  next_call {next = next} old now i {x = x} {r = r} d is long kept there called =
      let at : i ≡ i + 0 = omega arith in
      let same : get_or old i x ≡ x = cc (get_or-drop i old 0 x, get_or-drop i now 0 x, get_or_from_slice_get now i x x there) in
      let more = take_more old i x (omega (arith, slice_get_within now i x there)) in (
        record {
          calls = d.calls ++ (x, r) ∷ [];
          last = next;
          asked = asked_more _ _ _ _ x r d.asked (rw is called);
          taken = map_push _ d.calls _ ∙ rw (more, same, d.taken) refl;
          given = map_push _ d.calls _ ∙ rw d.given refl;
        },
        refl,
      )

-- a predicate that computes an answer gives that of the value at a place, and goes on to compute it
pub answered_at : {F T : Type 0} {g : Mut F (T × Unit {0}) Ordering} {p q : F} (f : T → Ordering) (xs : List T) (m : ℕ) {x : T} {r : Ordering} →
    Computes g f p → slice_get xs m ≡ Some x → Called g p (x, tt) r q → Computes g f q × (answer_at (map f xs) m ≡ r)
answered_at f xs m {x} computes there called =
    let now = computed f computes called in
    (now.0, get_or_from_slice_get (map f xs) m (f x) Equal (slice_get-map f xs m ∙ ap (option_map f) there) ∙ sym now.1)

-- ---- an array of the results of calls at 0, 1 and so on

module _ {F B : Type 0} (g : Mut F (ℕ × Unit {0}) B) (Keeps : F → Type 0) (xs ys : List B)
    (gives : (f q : F) (i : ℕ) (y : B) → Keeps f → Called g f (i, tt) y q → Keeps q × (slice_get xs i ≡ Some y)) where
  each_made : (n i : ℕ) (f : F) → Keeps f → IsFromFnResultFrom g f ys i n → (k : ℕ) (d : B) → k < n → get_or ys (i + k) d ≡ get_or xs (i + k) d
  each_made zero i f keeps from k d lt = absurd (omega (arith, lt))
  each_made (suc n) i f keeps from zero d lt =
      let here : i + zero ≡ i = omega arith in
      rw here ((from.2).1 d ∙ sym (get_or_from_slice_get xs i from.1 d ((gives f from.0 i from.1 keeps from.3).1)))
  each_made (suc n) i f keeps from (suc k) d lt =
      let next : i + suc k ≡ i + 1 + k = omega arith in
      rw next (each_made n (i + 1) from.0 ((gives f from.0 i from.1 keeps from.3).0) from.4 k d (omega (arith, lt)))

  -- where each gives the element of a list, the array has its elements
  pub made_of : (n : ℕ) (f : F) → Keeps f → IsFromFnResult g f ys n → length xs ≡ n → ys ≡ xs
  made_of n f keeps made long = same_lists ys xs (made.long ∙ sym long) (λ k d lt.
      let start : 0 + k ≡ k = omega arith in rw start at (each_made n 0 f keeps made.each k d (omega (arith, lt, made.long))))
