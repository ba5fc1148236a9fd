-- What a refused change leaves of a map.
use Rattle.zv_map1.proofs.Common.{Map1, Result, MapError, IfErr, IsLeftBy, OnErr, IsSameMap, Ok, Err, TooLarge, rules, Memory, ◌≡◌, refl}

module _ (old new : Map1) {A : Type 0} where
  -- a refusal leaves the same map
  pub same_after : (r : Result A MapError) → IfErr r (IsLeftBy old new) → OnErr r (IsSameMap old new)
  same_after (Ok x) h = tt
  same_after (Err TooLarge) h = rw h (search rules)
  same_after (Err Memory) h = h

  -- and the very same, unless memory is wanted
  pub unchanged_after : (r : Result A MapError) → IfErr r (IsLeftBy old new) → IfErr r (λ e. (e ≡ Memory → ⊥) → new ≡ old)
  unchanged_after (Ok x) h = tt
  unchanged_after (Err TooLarge) h = λ other. h
  unchanged_after (Err Memory) h = λ other. absurd (other refl)
