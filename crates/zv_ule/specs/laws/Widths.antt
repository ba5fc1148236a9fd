-- Widths that are known to be usable.
use Rattle.std.proofs.Common.{ℕ, ◌+◌, List, Option, Bool, ◌&&◌, arith}
use Rattle.std.proofs.Common.{IsTrue}
use Rattle.std.specs.Prelude.{leb}
use Rattle.std.proofs.lemmas.Grind.{common_steps}
use Rattle.zv_ule.specs.declared.error.TyName.{TyName}
use Rattle.zv_ule.specs.declared.error.UleError.{UleError}
use Rattle.zv_ule.specs.Fixed.{is_width}
use Rattle.zv_ule.specs.Widths.{IsWithin}
use Rattle.zv_ule.specs.Kinds.{IsFixedKind}

pub short : {w : ℕ} → IsTrue (leb 1 w && leb w 16) → IsWithin 16 w
short h = record { some = grind (arith, common_steps); short = grind (arith, common_steps) }

pub joined : {m n a b : ℕ} → IsWithin m a → IsWithin n b → IsWithin (m + n) (a + b)
joined p q = record { some = omega arith; short = omega arith }

pub behind_tag : {n w : ℕ} → IsWithin n w → IsWithin (1 + n) (1 + w)
behind_tag p = record { some = omega arith; short = omega arith }

-- at most 96 bytes are usable
pub usable_within : {n w : ℕ} → IsWithin n w → IsTrue (leb n 96) → IsTrue (is_width w)
usable_within p h = grind (arith, common_steps)

pub usable_kind : {usable : Bool} {fault : List ℕ → Option UleError} {ty : TyName} {w : ℕ}
    {chunk_fault : List ℕ → Option UleError} → IsFixedKind usable fault ty w chunk_fault →
    IsTrue (is_width w) → IsTrue usable
usable_kind k h = rw k.widths h
