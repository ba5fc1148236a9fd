-- What a search by a predicate over keys finds.
use Rattle.std.specs.Prelude.{◌≡◌, ℕ, ◌<◌, List, length, map, Option, Some, None}
use Rattle.std.specs.Fn.{Mut}
use Rattle.std.specs.List.{slice_get}
use Rattle.std.specs.declared.cmp.Ordering.{Ordering}
use Rattle.std.specs.declared.cmp.Ordering.TheVariants.{Equal}
use Rattle.zv_ule.specs.Search.{ComesToEqual, Rises}
use Rattle.zv_map.specs.Maps.{keys_of, values_of}
use Rattle.zv_map2d.specs.Keys.{Bytes, nth}
use denote.Ref.{Bor}

module _ {F X : Type 0} (g : Mut F (Bor Bytes × Unit {0}) Ordering) where
  -- x is what a key has at which the predicate f, after some calls, answers Equal
  pub record IsPicked (f : F) (m : List (Bytes × X)) (x : X) : Type 0 where
    pub place : ℕ
    pub asked : ComesToEqual g f (nth (keys_of m) place)
    pub found : slice_get (values_of m) place ≡ Some x

-- by a predicate that answers so: what is found is what a key has at which it answers Equal; and
-- where its answers rise along the keys, nothing is found only if it answers Equal at none
abbrev pub FoundBy : {X : Type 0} → (Bytes → Ordering) → List (Bytes × X) → Option X → Type 0
FoundBy answer m (Some x) =
    (i : ℕ) × (answer (nth (keys_of m) i) ≡ Equal) × (slice_get (values_of m) i ≡ Some x)
FoundBy answer m None = Rises (map answer (keys_of m)) →
    (i : ℕ) → i < length m → answer (nth (keys_of m) i) ≡ Equal → ⊥
