-- What a search of a map's keys says of a look-up.
use Rattle.zv_map1.proofs.Common.{Order, IsTotalOrder, Bytes, Pairs, ℕ, IsAt, compared, keys_of, look_up, ◌≡◌, Some, nth, values_of, look_up_at, ◌∙◌}
use Rattle.zv_map1.proofs.Common.{slice_get-get_or, [], arith, at_within, length-map, Result, MatchResult, IsGap, Ok, Err, look_up_gap}
use Rattle.zv_map1.proofs.Common.{Mut, Bor, Ordering, List, Option, IsSearchInRange, length, AnsweredEqual, ComputesKey, Found, map, value_found, IsFoundBy}
use Rattle.zv_map1.proofs.Common.{subst, sym, ap}
use Rattle.zv_map1.proofs.Zipped.{parts}

module _ {order : Order} (total : IsTotalOrder order) (k : Bytes) (m : Pairs) where
  -- what the key has is the value at its place
  pub value_at : (i : ℕ) → IsAt (compared order (keys_of m) k) i → look_up order m k ≡ Some (nth (values_of m) i)
  value_at i h =
      look_up_at total k m i h ∙ slice_get-get_or (values_of m) i [] (omega (arith, at_within order k m i h, length-map m (λ e. e.1)))

  -- the key has what stands at the place that a search found, and nothing where it found a gap
  pub value_there : (r : Result ℕ ℕ) → MatchResult r (IsAt (compared order (keys_of m) k)) (IsGap (compared order (keys_of m) k)) →
      look_up order m k ≡ value_found m r
  value_there (Ok i) h = look_up_at total k m i h
  value_there (Err i) h = look_up_gap total k m i h

-- for look-ups in two lists, after a search
pub ruleset found = (parts, value_there)

-- a search of the keys by a predicate ended at a place, and the value is the one there
pub found_by : {F : Type 0} {g : Mut F (Bor Bytes × Unit {0}) Ordering} {predicate : F} {m : Pairs} {ks : List Bytes} {v : Option Bytes} → keys_of m ≡ ks →
    (place : Result ℕ ℕ) → IsSearchInRange place (length ks) → AnsweredEqual g predicate ks place →
    ((answer : Bytes → Ordering) → ComputesKey g answer predicate → Found (map answer ks) place) → v ≡ value_found m place → IsFoundBy g predicate m v
found_by {m = m} keys place bound equal found e = record {
  place = place;
  bound = subst (IsSearchInRange place) (sym (ap length keys) ∙ length-map m (λ e. e.0)) bound;
  equal = rw keys equal;
  found = λ answer h. rw keys (found answer h);
  value = e;
}
