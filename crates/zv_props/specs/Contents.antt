-- Bytes that are borrowed or owned.
use Rattle.std.specs.Prelude.{ℕ, List}
use Rattle.zv_props.specs.declared.bytes.TableBytes.{TableBytes}
use Rattle.zv_props.specs.declared.bytes.TableBytes.TheVariants.{Borrowed, Owned}

-- the bytes
abbrev pub bytes_in : TableBytes → List ℕ
bytes_in (Borrowed bytes) = bytes.now
bytes_in (Owned bytes) = bytes.items
