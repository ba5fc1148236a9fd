-- Bytes as a slice.
use Rattle.std.proofs.Common.{◌≡◌, ℕ, List, None, refl}
use Rattle.zv_ule.proofs.ChunkFaults.{plain_bytes}
use Rattle.zv_ule.specs.Chunks.{chunks_fault}
use Rattle.zv_ule.specs.declared.error.TyName.TheVariants.{U8}

-- any bytes are a slice of bytes
pub bytes_sound : (bytes : List ℕ) → chunks_fault U8 1 (λ _. None) bytes ≡ None
bytes_sound bytes = plain_bytes U8 1 (λ _. None) bytes refl (λ _. refl)
