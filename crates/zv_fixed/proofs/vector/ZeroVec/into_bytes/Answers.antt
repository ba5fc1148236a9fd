use Rattle.std.proofs.Common.{◌≡◌, ◌/◌, ◌∷◌, [], List, ℕ, length, map, refl, ap, ◌∙◌, arith}
use Rattle.std.specs.Prelude.{slice_index}
use Rattle.zv_ule.specs.Chunks.{chunks}
use Rattle.zv_ule.proofs.ChunkFaults.{plain_bytes}
use Rattle.zv_fixed.specs.CowBytes.{bytes_in}
use Rattle.zv_fixed.proofs.vector.ZeroVec.into_bytes.Goals as goal

-- the chunks of one byte are the bytes
single : (b : List ℕ) → map (λ c. slice_index c 0) (chunks 1 (length b) b) ≡ b
single [] = refl
single (x ∷ b) = ap (λ l. x ∷ l) (single b)

pub invariant_of-result : goal.invariant_of-result
invariant_of-result g c = (refl, plain_bytes _ 1 _ (bytes_in c.self.inside.cow) refl (λ b. refl))

pub returns-clause-values : goal.returns-clause-values
returns-clause-values g c =
    let b = bytes_in c.self.inside.cow in
    let count : length b / 1 ≡ length b = omega arith in
    ap (λ n. map (λ c. slice_index c 0) (chunks 1 n b)) count ∙ (single b ∙ ap (λ v. v.bytes) c.self.view_is)
