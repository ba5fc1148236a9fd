-- What lends an owned list. A caller never cites this: it says that the list can be changed through
-- the reference.
use Rattle.std.specs.Prelude.{[], Option, Some, Result}
use mir.Syntax.{named}
use Rattle.std.specs.Borrow.{LendsIf, LendsIfOk, Fml, RattleType, MutBor}
use Rattle.zv_ule.specs.declared.kind.ZvKind.{Ghosts as KindGhosts}
use Rattle.zv_ule.specs.declared.element.ULE.{Ghosts as UleGhosts}
use Rattle.zv_ule.specs.declared.format.integer.IntegerULE.{Ghosts as IntegerGhosts}
use Rattle.zv_ule.specs.declared.format.VarZeroVecFormat.{Ghosts as FormatGhosts}
use Rattle.zv_owned.specs.Owned.{Owned}
use Rattle.zv_owned.specs.declared.vector.VarZeroVec.{VarZeroVec}
use Rattle.zv_owned.specs.contracts.vector.VarZeroVec.{the_row as vector_row}
use Rattle.zv_owned.specs.contracts.vector.slot.Slot.{the_row as slot_row}
use Rattle.zv_owned.specs.contracts.owned.VarZeroVecOwned.{the_row as owned_row}

module _ (T F Index Len : RattleType) (kind : KindGhosts T.Denot)
    (format : FormatGhosts F.Denot Index.Denot Len.Denot) (i : IntegerGhosts Index.Denot)
    (iu : UleGhosts Index.Denot) (l : IntegerGhosts Len.Denot) (lu : UleGhosts Len.Denot) where
  -- the list in a slot, if there is one
  abbrev pub LendsSlot : MutBor (Option Owned) → Option (MutBor Owned) → Fml
  LendsSlot s r = LendsIf (slot_row T F Index Len kind format i iu l lu)
      (owned_row T F Index Len kind format i iu l lu) s r Some s.now

  -- the owned list of one that is borrowed or owned, if it owns its bytes
  abbrev pub LendsOwned :
      MutBor (VarZeroVec T.Denot F.Denot Index.Denot Len.Denot kind format i iu l lu) →
      Option (MutBor Owned) → Fml
  LendsOwned s r = LendsIf
      (vector_row (record { mir = named 1; lft = [] }) T F Index Len kind format i iu l lu)
      (owned_row T F Index Len kind format i iu l lu) s r
      (λ v. record { view = s.now.view; slot = Some v }) s.now

  -- the owned list that it has then, unless memory was not given
  abbrev pub LendsMade :
      MutBor (VarZeroVec T.Denot F.Denot Index.Denot Len.Denot kind format i iu l lu) →
      {E : Type 0} → Result (MutBor Owned) E → Fml
  LendsMade s r = LendsIfOk
      (vector_row (record { mir = named 1; lft = [] }) T F Index Len kind format i iu l lu)
      (owned_row T F Index Len kind format i iu l lu) s r
      (λ v. record { view = s.now.view; slot = Some v }) s.now
