-- Bytes that are borrowed or owned.
use Rattle.std.specs.Prelude.{◌≡◌, ℕ, ◌-◌, List, Bool, true, false, vec_capacity, vec_len}
use Rattle.zv_fixed.specs.declared.cow_bytes.CowBytes.{CowBytes}
use Rattle.zv_fixed.specs.declared.cow_bytes.CowBytes.TheVariants.{Borrowed, Owned}

-- the bytes
abbrev pub bytes_in : CowBytes → List ℕ
bytes_in (Borrowed bytes) = bytes.now
bytes_in (Owned bytes) = bytes.items

-- how many more bytes fit without new memory
abbrev pub spare_in : CowBytes → ℕ
spare_in (Borrowed bytes) = 0
spare_in (Owned bytes) = vec_capacity bytes - vec_len bytes

-- whether they are owned
abbrev pub owned_in : CowBytes → Bool
owned_in (Borrowed bytes) = false
owned_in (Owned bytes) = true

-- nothing of it has changed
pub record IsUnchanged (old new : CowBytes) : Type 0 where
  pub bytes : bytes_in new ≡ bytes_in old
  pub spare : spare_in new ≡ spare_in old
  pub owned : owned_in new ≡ owned_in old
