-- Each value of an input within the limit fits.
use Rattle.zv_edit.proofs.Common.{◌≡◌, ℕ, ◌+◌, ◌≤◌, ◌<◌, arith, List, [], ◌∷◌, length, Rows, Command, Get, Put, Del, Row, next}
use Rattle.zv_edit.proofs.Common.{reply, replies}
use Rattle.zv_edit.proofs.Common.{AllByRecursion, command_size, by_bytes, too_large, with_command}
use Rattle.zv_edit.proofs.Common.{NeverTooLarge}
use Rattle.zv_edit.proofs.Lines.{asked_size}
use Rattle.std.proofs.Common.{◌*◌, ◌-◌, ◌^◌}
use Rattle.std.proofs.lemmas.Cmp.{nat_list_cmp_total as total}
use Rattle.std.proofs.lemmas.List.Sums.{sum_by-cons, sum_by_push}
use Rattle.std.specs.Prelude.{IfSome}
use Rattle.zv_input.proofs.Fields.{line_command}
use Rattle.zv_input.specs.Commands.{total_size}
use Rattle.zv_map2d.proofs.Well.{del_well, put_well}
use Rattle.zv_map2d.specs.Rows.{IsWell}
use Rattle.zv_map2d_laws.proofs.Sizes.{del_shrinks, image_holds, put_grows, small_fits}
use Rattle.zv_map2d_laws.specs.Sizes.{wide_size}

-- ---- commands on a map that is small

abbrev IsInOrder : Rows → Type 0
IsInOrder m = IsWell by_bytes by_bytes m

-- a command leaves a map in order, which is larger by a little
next_small : (m : Rows) (c : Command) → IsInOrder m → IsInOrder (next m c) × (wide_size (next m c) ≤ wide_size m + 12 * command_size c)
next_small m (Get k0 k1) well = (well, omega arith)
next_small m (Put k0 k1 v) well = let after = put_well total total m k0 well k1 v in let size = put_grows m k0 k1 v well in grind arith
next_small m (Del k0 k1) well = (del_well total total m k0 well k1, omega (arith, del_shrinks m k0 k1 well))
next_small m (Row k0) well = (well, omega arith)

abbrev IsTaken : Command → Rows → Type 0
IsTaken c m = reply m c ≡ too_large → ⊥

one_fits : (m : Rows) (c : Command) → wide_size m + 12 * command_size c < 2 ^ 32 - 1 → IsTaken c m
one_fits m (Get k0 k1) small e = grind arith
one_fits m (Put k0 k1 v) small e = let fits = small_fits m k0 k1 v (omega arith) in grind arith
one_fits m (Del k0 k1) small e = grind arith
one_fits m (Row k0) small e = grind arith

all_fit : (m : Rows) (cs : List Command) → IsInOrder m → wide_size m + 12 * total_size cs < 2 ^ 32 - 1 → AllByRecursion (λ r. r ≡ too_large → ⊥) (replies m cs)
all_fit m [] well small = tt
all_fit m (c ∷ cs) well small =
    let sum = sum_by-cons command_size c cs in
    let after = next_small m c well in
    (one_fits m c (omega arith), all_fit (next m c) cs after.0 (omega (arith, after.1)))

-- ---- the commands of an input are no larger than it

command_grows : (cs : List Command) (line : List ℕ) → IfSome (with_command cs line) (λ all. total_size all ≤ total_size cs + length line)
command_grows cs line = let one = line_command line in let pushed = λ (c : Command). sum_by_push command_size cs c in grind arith

pub never_too_large : NeverTooLarge
never_too_large input image cs m short is stands =
    all_fit m cs stands.map.in_order
    (omega (arith, asked_size with_command total_size command_grows [] cs input image is, image_holds image m stands))
