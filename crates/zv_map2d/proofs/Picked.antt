-- What a search by a predicate found, at its place.
use Rattle.zv_map2d.proofs.Common.{◌≡◌, ℕ, ◌<◌, List, [], length, map, Option, Some, None, Ok, Err, option_map, sym, ◌∙◌, subst, arith}
use Rattle.zv_map2d.proofs.Common.{drop-map, length-map, take-map, slice_get, Ordering, Equal, keys_of, values_of, ComesToEqual, Found, answer_at, Bytes}
use Rattle.zv_map2d.proofs.Common.{nth, FoundBy, IsPicked, slice_range, IfSome, get_or-map}
use Rattle.std.specs.Fn.{Mut}
use denote.Ref.{Bor}
use Rattle.std.proofs.lemmas.Option.{slice_get_cases}

-- the answers of a range
pub answers_range : (answer : Bytes → Ordering) (xs : List Bytes) (i j : ℕ) → slice_range (map answer xs) i j ≡ map answer (slice_range xs i j)
answers_range answer xs i j = simp (drop-map, take-map)

module _ {X : Type 0} (m : List (Bytes × X)) where
  answer_is : (answer : Bytes → Ordering) (i : ℕ) → i < length m → answer_at (map answer (keys_of m)) i ≡ answer (nth (keys_of m) i)
  answer_is answer i h = get_or-map answer (keys_of m) i [] Equal (omega (arith, length-map m (λ e. e.0)))

  -- nothing was found
  pub none_by : (answer : Bytes → Ordering) (i : ℕ) → Found (map answer (keys_of m)) (Err i) → FoundBy answer m None
  none_by answer i found rises j h e =
      let gap = found.1 rises in
      grind (arith, gap.less j, gap.greater j, answer_is answer j h, length-map (keys_of m) answer, length-map m (λ e. e.0))

  -- the answer at the key of a place that was found
  pub key_answered : (answer : Bytes → Ordering) (i : ℕ) → Found (map answer (keys_of m)) (Ok i) → answer (nth (keys_of m) i) ≡ Equal
  key_answered answer i found =
      let within : i < length m = omega (arith, found.within, length-map (keys_of m) answer, length-map m (λ e. e.0)) in
      sym (answer_is answer i within) ∙ found.equal

  -- what was found at a place
  pub one_by : (answer : Bytes → Ordering) (i : ℕ) (x : X) → Found (map answer (keys_of m)) (Ok i) → slice_get (values_of m) i ≡ Some x →
      FoundBy answer m (Some x)
  one_by answer i x found there = (i, key_answered answer i found, there)

  -- or nothing
  pub some_by : {A : Type 0} (f : A → X) (answer : Bytes → Ordering) (i : ℕ) (o : Option A) → Found (map answer (keys_of m)) (Ok i) → i < length (values_of m) →
      option_map f o ≡ slice_get (values_of m) i → FoundBy answer m (option_map f o)
  some_by f answer i (Some x) found within there = one_by answer i (f x) found (sym there)
  some_by f answer i None found within there = absurd (grind (arith, slice_get_cases))

  module _ {F : Type 0} (g : Mut F (Bor Bytes × Unit {0}) Ordering) (p : F) where
    pub picked : (i : ℕ) (x : X) → ComesToEqual g p (nth (keys_of m) i) → slice_get (values_of m) i ≡ Some x → IsPicked g p m x
    picked i x asked there = record { place = i; asked = asked; found = there }

    pub picked_value : {A : Type 0} (f : A → X) (i : ℕ) (o : Option A) → ComesToEqual g p (nth (keys_of m) i) → option_map f o ≡ slice_get (values_of m) i →
        IfSome o (λ v. IsPicked g p m (f v))
    picked_value f i (Some v) asked there = picked i (f v) asked (sym there)
    picked_value f i None asked there = tt

-- what holds of a value holds of what it is read as, where that is written as the value
pub same_picked : {A B X : Type 0} (f : A → X) (h : B → X) (P : X → Type 0) (o : Option A) (r : Option B) → option_map h r ≡ option_map f o →
    IfSome o (λ v. P (f v)) → IfSome r (λ v. P (h v))
same_picked f h P o None same holds = tt
same_picked f h P (Some a) (Some b) same holds = subst (λ x. IfSome x P) (sym same) holds
same_picked f h P None (Some b) same holds = cc same
