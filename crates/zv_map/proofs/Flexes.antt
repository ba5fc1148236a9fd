-- How long lists with fields of two bytes and of four are.
use Rattle.std.specs.Prelude.{◌≡◌, ℕ, ◌+◌, ◌-◌, ◌*◌, ◌≤◌, List, length, true}
use Rattle.std.proofs.Common.{ap, arith, subst}
use Rattle.std.proofs.lemmas.Bool.Decides.{nat_tests}
use Rattle.zv_ule.specs.declared.kind.ZvKind.{Ghosts as KindGhosts}
use Rattle.zv_var.specs.Format.{enc}
use Rattle.zv_owned.proofs.Sizes.{size_of}
use Rattle.zv_owned.specs.Vectors.{vector_bytes, vector_list, vector_owned, vector_spare}
use Rattle.zv_map.specs.Flexes.{IsExact, flex_owned, flex_roomy, flex_spare}
use Rattle.zv_map.specs.declared.flex.FlexVec.{FlexVec}
use Rattle.zv_map.specs.declared.flex.FlexVec.TheVariants.{Narrow}
use Rattle.zv_owned.specs.Size.{size}

-- fields of four bytes take two more than fields of two
pub size_wider : (xs : List (List ℕ)) → size 4 xs ≡ size 2 xs + 2 * length xs
size_wider xs = omega (arith, size_of 2 xs, size_of 4 xs)

module _ {T : Type 0} {kind : KindGhosts T} where
  pub roomy_owned : (x : FlexVec T kind) → flex_roomy x ≡ true → flex_owned x ≡ true
  roomy_owned x roomy = grind (arith, nat_tests)

  -- of a narrow list that owns what it is written as
  pub narrow_spare : (x : FlexVec T kind) (v : _) → x ≡ Narrow v → flex_owned x ≡ true → IsExact x →
      flex_spare x ≡ vector_spare v - 2 * length (vector_list v)
  narrow_spare x v is owned exact =
      rw (owned, is) (omega (arith, ap length (subst IsExact is exact), size_wider (vector_list v)))

  pub narrow_room : (x : FlexVec T kind) (v : _) → x ≡ Narrow v → IsExact x → flex_roomy x ≡ true → 2 * length (vector_list v) ≤ vector_spare v
  narrow_room x v is exact roomy =
      let long = ap length (subst IsExact is exact) in
      let wider = size_wider (vector_list v) in
      let r = subst (λ y. flex_roomy y ≡ true) is roomy in
      grind (arith, nat_tests)

  pub narrow_roomy : (v : _) → vector_owned v ≡ true → vector_bytes v ≡ enc 2 (vector_list v) → 2 * length (vector_list v) ≤ vector_spare v →
      flex_roomy {T = T} {kind = kind} (Narrow v) ≡ true
  narrow_roomy v owned bytes room =
      let long = ap length bytes in
      let wider = size_wider (vector_list v) in
      grind (arith, nat_tests)
