-- What lends a part of a buffer. A caller never cites this: it says that the part can be written.
use Rattle.std.specs.Prelude.{ℕ, ◌+◌, List, length, take}
use Rattle.std.specs.Borrow.{Lends, MutBor, Fml, u8, Array}
use Rattle.std.specs.List.{splice}
use Rattle.zv_owned.specs.Shelves.{Shelved}
use Rattle.zv_owned.specs.contracts.shelf.Shelf.{the_row}

-- the bytes from a place on, of which there stay as many
abbrev pub LendsPart : MutBor Shelved → ℕ → MutBor (List ℕ) → Fml
LendsPart s at r = Lends the_row (Array u8 0) s r (λ part. record {
  bytes = take (length s.now.bytes) (splice s.now.bytes at (at + length part) part);
  spare = s.now.spare;
})
