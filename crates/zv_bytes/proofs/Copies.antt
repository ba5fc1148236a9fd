-- A copy to another place is one of each of two parts, in an order in which the first leaves the second as it was.
use Rattle.std.proofs.Common.{◌≡◌, ℕ, ◌+◌, ◌-◌, ◌≤◌, ◌++◌, List, length, take, drop, arith, length-append, length-drop}
use Rattle.std.proofs.lemmas.List.{ext_get_or, get_or-take, get_or-drop, get_or-append_right, get_or_append_left, length-take}
use Rattle.std.specs.List.{copy_within}

ruleset places = (get_or-append_right, get_or_append_left, get_or-take, get_or-drop, length-append, length-take, length-drop)

module _ (xs : List ℕ) (from mid end to place : ℕ) (low : from ≤ mid) (high : mid ≤ end) (next : place ≡ to + (mid - from)) where
  pub copy_down : to ≤ from → end ≤ length xs → copy_within (copy_within xs from mid to) mid end place ≡ copy_within xs from end to
  copy_down lower inside = ext_get_or 0 _ _ (grind (arith, places)) (λ i lt. grind (arith, places))

  pub copy_up : from ≤ to → to + (end - from) ≤ length xs → copy_within (copy_within xs mid end place) from mid to ≡ copy_within xs from end to
  copy_up higher target = ext_get_or 0 _ _ (grind (arith, places)) (λ i lt. grind (arith, places))

-- A copy within what stands behind a place is one within the whole.
module _ (xs : List ℕ) (at n end stop : ℕ) (is_stop : at + end ≡ stop) where
  pub lower_rest : n ≤ end → stop ≤ length xs → take at xs ++ copy_within (drop at xs) n end 0 ≡ copy_within xs (at + n) stop at
  lower_rest order inside = ext_get_or 0 _ _ (grind (arith, places)) (λ i lt. grind (arith, places))

  pub raise_rest : stop + n ≤ length xs → take at xs ++ copy_within (drop at xs) 0 end n ≡ copy_within xs at stop (at + n)
  raise_rest inside = ext_get_or 0 _ _ (grind (arith, places)) (λ i lt. grind (arith, places))
