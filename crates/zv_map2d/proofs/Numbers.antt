-- A joiner as a list of numbers of four bytes.
use Rattle.zv_map2d.proofs.Common.{◌≡◌, ℕ, ◌<◌, ◌^◌, List, None, refl, ap, arith, subst, flat_map, IsBytes, le, joiner_fault, numbers}
use Rattle.std.specs.Int.{w32, to_le_bytes, from_le_bytes}
use Rattle.zv_ule.specs.Fixed.{IsSpelling}
use Rattle.zv_ule.specs.laws.Twins.{u32_twin}
use Rattle.zv_ule.specs.declared.error.TyName.TheVariants.{RawBytes4}
use Rattle.zv_ule.proofs.Lists.{read_list}

-- what is read of four bytes, and what a number is written as
abbrev pub IsWritten : (ℕ → List ℕ) → Type 0
IsWritten chunk = IsSpelling (λ v. v < 2 ^ 32) 4 (λ c. None) chunk (λ c. from_le_bytes w32 c)

as_u32 : IsWritten (λ v. to_le_bytes w32 v)
as_u32 = record {
  writes = λ v h. let k = u32_twin.stored v h in record { each = k.each; long = k.long; good = refl };
  back = u32_twin.back;
  reads = λ b c. u32_twin.taken (record { 0 = b }) (record { each = c.each; long = c.long });
  again = λ b c. ap (λ u. u.0) (u32_twin.again (record { 0 = b }) (record { each = c.each; long = c.long }));
}

lowest_first : (v : ℕ) → to_le_bytes w32 v ≡ le 4 v
lowest_first v = grind arith

pub as_joiner : IsWritten (le 4)
as_joiner = subst IsWritten (λ i v. lowest_first v i) as_u32

-- a joiner is the bytes of its numbers
pub joiner_written : (b : List ℕ) → IsBytes b → joiner_fault b ≡ None → flat_map (le 4) (numbers b) ≡ b
joiner_written b bytes none = (read_list as_joiner RawBytes4 b bytes none).joined
