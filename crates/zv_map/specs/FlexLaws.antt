-- The laws of a list with fields of two bytes or of four as a container. These are proofs.
use Rattle.std.specs.Prelude.{◌≡◌, ◌^◌, ◌<◌, ◌≤◌, true}
use Rattle.std.proofs.Common.{arith, refl}
use Rattle.std.proofs.lemmas.Bool.Decides.{nat_tests}
use Rattle.zv_ule.specs.declared.kind.ZvKind.{Ghosts as KindGhosts}
use Rattle.zv_map.specs.Flexes.{flex_layout, flex_owned, flex_roomy, flex_spare, has_fields}
use Rattle.zv_map.specs.declared.flex.FlexVec.{FlexVec}
use Rattle.zv_map.specs.declared.flex.FlexVec.TheVariants.{Narrow, Wide}

pub four_small : 4 ≤ 4
four_small = omega arith

pub four_positive : 0 < 4
four_positive = omega arith

pub four_fits : 256 ^ 4 ≤ 2 ^ 32
four_fits = omega arith

module _ {T : Type 0} {kind : KindGhosts T} where
  pub roomy_is_owned : (v : FlexVec T kind) → flex_roomy v ≡ true → flex_owned v ≡ true
  roomy_is_owned v roomy = grind (arith, nat_tests)

  pub room_is_ready : (v : FlexVec T kind) → flex_owned v ≡ true → 4 ≤ flex_spare v →
      flex_roomy v ≡ true
  room_is_ready v owned room = grind (arith, nat_tests)

  pub own_fields : (v : FlexVec T kind) → has_fields (flex_layout v) ≡ true
  own_fields (Narrow v) = refl
  own_fields (Wide v) = refl
