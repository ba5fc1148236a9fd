-- What the first bytes of two strings say of the order of both.
use Rattle.std.specs.Prelude.{◌≡◌, ℕ, List, take}
use Rattle.std.specs.Cmp.Lexicographic.{slice_cmp}
use Rattle.std.specs.Ordering.{nat_cmp}
use Rattle.std.specs.declared.cmp.Ordering.{Ordering}
use Rattle.std.specs.declared.cmp.Ordering.TheVariants.{Equal, Greater, Less}

-- an order by the first `count` bytes: Equal where they are the same, else the order of the strings
unfoldable pub OrdersFront : List ℕ → List ℕ → ℕ → Ordering → Type 0
OrdersFront a b count Less = slice_cmp nat_cmp a b ≡ Less
OrdersFront a b count Equal = take count a ≡ take count b
OrdersFront a b count Greater = slice_cmp nat_cmp a b ≡ Greater
