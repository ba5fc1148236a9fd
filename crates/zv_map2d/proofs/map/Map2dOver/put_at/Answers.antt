use Rattle.zv_map2d.proofs.Common.{rules, refl, arith, sym, ◌∙◌, length, ap, gap_within, Rule, rule_of, Pair, InRow, NewRow}
use Rattle.std.proofs.lemmas.Bool.{and_parts}
use Rattle.zv_map2d.proofs.Places.{gap_there, pair_there, put_is, taken_there}
use Rattle.zv_map2d.proofs.Seen.{columns, ends_below, ends_count, few_more, one_more, pair_goes, pair_stands, row_goes, same_lists, seen, seen_well}
use Rattle.zv_map2d.proofs.Seen.{view_of}
use Rattle.zv_map2d.proofs.Splices.{pair_added, row_added, row_starts, shift_count, value_set}
use Rattle.zv_map2d.proofs.Well.{put_at_well}
use Rattle.zv_map2d.proofs.map.Map2dOver.put_at.Given as given
use Rattle.zv_map2d.proofs.map.Map2dOver.put_at.Goals as goal

abbrev rule : given.Over → Rule
rule g = rule_of g.C0.ZvContainer.takes_insert g.C1.ZvContainer.takes_insert g.D.ZvContainer.takes_insert g.D.ZvContainer.takes_replace

-- ---- another value

pub zvl_replace_reserved-requires-clause-place : goal.zvl_replace_reserved-requires-clause-place
zvl_replace_reserved-requires-clause-place g c =
    let there = pair_there g.K0.ZvOrd.cmp g.K1.ZvOrd.cmp _ _ _ _ _ (rw c.in-Pair.is at c.requires.place) in
    (pair_stands (seen c.self.view_is c.self.invariant) there.0 there.1 c.pair_start-at.ensures).1

pub zvl_replace_reserved-requires-clause-taken : goal.zvl_replace_reserved-requires-clause-taken
zvl_replace_reserved-requires-clause-taken g c =
    let taken = taken_there g.met.K0.ZvOrd.total g.met.K1.ZvOrd.total _ (g.Q0.ZvArg.bytes c.args.key0.now) (g.Q1.ZvArg.bytes c.args.key1.now) (rule g)
    (g.R.ZvArg.bytes c.args.value.now) (Pair _ _) (rw c.in-Pair.is at c.requires.place) c.requires.fits in
    record { taken = rw ((seen c.self.view_is c.self.invariant).values_are, c.pair_start-at.ensures) taken }

pub invariant_of-self : goal.invariant_of-self
invariant_of-self g c =
    let at = rw c.in-Pair.is at c.requires.place in
    let there = pair_there g.K0.ZvOrd.cmp g.K1.ZvOrd.cmp _ _ _ _ _ at in
    columns c.self.invariant (same_lists refl refl refl c.zvl_replace_reserved.ensures.list
    (value_set (seen c.self.view_is c.self.invariant) _ _ _ there.0 c.pair_start-at.ensures _ there.1))
    (put_at_well g.met.K0.ZvOrd.total g.met.K1.ZvOrd.total _ _ _ (seen_well c.self.view_is c.self.invariant) (Pair _ _) at _)

pub returns-in-Pair : goal.returns-in-Pair
returns-in-Pair g c =
    let at = rw c.in-Pair.is at c.requires.place in
    let there = pair_there g.K0.ZvOrd.cmp g.K1.ZvOrd.cmp _ _ _ _ _ at in
    let room = rw (← c.self.view_is) at c.requires.room in
    let pairs = few_more 1 c.self.invariant (invariant_of-self g c) (omega arith) in record {
      rows = view_of (same_lists refl refl refl c.zvl_replace_reserved.ensures.list
          (value_set (seen c.self.view_is c.self.invariant) _ _ _ there.0 c.pair_start-at.ensures _ there.1))
          ∙ sym (put_is g.met.K0.ZvOrd.total g.met.K1.ZvOrd.total _ _ _ _ (Pair _ _) at);
      spends = rw (← c.self.view_is) (search (rules, pairs, g.met.D.ZvContainer.ready_owned));
    }

-- ---- a new pair in a row

pub zvl_insert_reserved-requires-clause-place : goal.zvl_insert_reserved-requires-clause-place
zvl_insert_reserved-requires-clause-place g c =
    let there = gap_there g.K0.ZvOrd.cmp g.K1.ZvOrd.cmp _ _ _ _ _ (rw c.in-InRow.is at c.requires.place) in
    (pair_goes (seen c.self.view_is c.self.invariant) there.0 there.1 c.pair_start-at-in-InRow.ensures).0

pub zvl_insert_reserved-requires-clause-taken : goal.zvl_insert_reserved-requires-clause-taken
zvl_insert_reserved-requires-clause-taken g c =
    let taken = taken_there g.met.K0.ZvOrd.total g.met.K1.ZvOrd.total _ (g.Q0.ZvArg.bytes c.args.key0.now) (g.Q1.ZvArg.bytes c.args.key1.now) (rule g)
    (g.R.ZvArg.bytes c.args.value.now) (InRow _ _) (rw c.in-InRow.is at c.requires.place) c.requires.fits in
    record { taken = rw (seen c.self.view_is c.self.invariant).seconds_are (and_parts _ _ taken).0 }

pub zvl_insert_reserved-requires-in-InRow-clause-place : goal.zvl_insert_reserved-requires-in-InRow-clause-place
zvl_insert_reserved-requires-in-InRow-clause-place g c =
    let there = gap_there g.K0.ZvOrd.cmp g.K1.ZvOrd.cmp _ _ _ _ _ (rw c.in-InRow.is at c.requires.place) in
    (pair_goes (seen c.self.view_is c.self.invariant) there.0 there.1 c.pair_start-at-in-InRow.ensures).1

pub zvl_insert_reserved-requires-in-InRow-clause-taken : goal.zvl_insert_reserved-requires-in-InRow-clause-taken
zvl_insert_reserved-requires-in-InRow-clause-taken g c =
    let taken = taken_there g.met.K0.ZvOrd.total g.met.K1.ZvOrd.total _ (g.Q0.ZvArg.bytes c.args.key0.now) (g.Q1.ZvArg.bytes c.args.key1.now) (rule g)
    (g.R.ZvArg.bytes c.args.value.now) (InRow _ _) (rw c.in-InRow.is at c.requires.place) c.requires.fits in
    record { taken = rw (seen c.self.view_is c.self.invariant).values_are (and_parts _ _ taken).1 }

pub shift-requires-clause-below : goal.shift-requires-clause-below
shift-requires-clause-below g c = λ k h. omega (arith, ends_below (seen c.self.view_is c.self.invariant) (omega (arith, c.requires.room.pairs)) k h)

pub invariant_of-self-in-InRow : goal.invariant_of-self-in-InRow
invariant_of-self-in-InRow g c =
    let at = rw c.in-InRow.is at c.requires.place in
    let there = gap_there g.K0.ZvOrd.cmp g.K1.ZvOrd.cmp _ _ _ _ _ at in
    columns c.self.invariant (same_lists refl c.shift.ensures.values c.zvl_insert_reserved.ensures.list c.zvl_insert_reserved-in-InRow.ensures.list
    (pair_added (seen c.self.view_is c.self.invariant) _ _ _ there.0 c.pair_start-at-in-InRow.ensures _ _ there.1))
    (put_at_well g.met.K0.ZvOrd.total g.met.K1.ZvOrd.total _ _ _ (seen_well c.self.view_is c.self.invariant) (InRow _ _) at _)

pub returns-in-InRow : goal.returns-in-InRow
returns-in-InRow g c =
    let at = rw c.in-InRow.is at c.requires.place in
    let there = gap_there g.K0.ZvOrd.cmp g.K1.ZvOrd.cmp _ _ _ _ _ at in
    let room = rw (← c.self.view_is) at c.requires.room in
    let pairs = few_more 1 c.self.invariant (invariant_of-self-in-InRow g c) (one_more _ _ _ _ c.zvl_insert_reserved.ensures.list) in record {
      rows = view_of (same_lists refl c.shift.ensures.values c.zvl_insert_reserved.ensures.list c.zvl_insert_reserved-in-InRow.ensures.list
          (pair_added (seen c.self.view_is c.self.invariant) _ _ _ there.0 c.pair_start-at-in-InRow.ensures _ _ there.1))
          ∙ sym (put_is g.met.K0.ZvOrd.total g.met.K1.ZvOrd.total _ _ _ _ (InRow _ _) at);
      spends = rw (← c.self.view_is) (search (rules, pairs, g.met.C1.ZvContainer.ready_owned, g.met.D.ZvContainer.ready_owned));
    }

-- ---- a new row

pub zvl_insert_reserved-requires-in-NewRow-clause-taken : goal.zvl_insert_reserved-requires-in-NewRow-clause-taken
zvl_insert_reserved-requires-in-NewRow-clause-taken g c =
    let taken = taken_there g.met.K0.ZvOrd.total g.met.K1.ZvOrd.total _ (g.Q0.ZvArg.bytes c.args.key0.now) (g.Q1.ZvArg.bytes c.args.key1.now) (rule g)
    (g.R.ZvArg.bytes c.args.value.now) (NewRow _) (rw c.in-NewRow.is at c.requires.place) c.requires.fits in
    record { taken = rw (seen c.self.view_is c.self.invariant).firsts_are (and_parts _ _ taken).0 }

pub zvl_insert_reserved-requires-in-NewRow-2-clause-place : goal.zvl_insert_reserved-requires-in-NewRow-2-clause-place
zvl_insert_reserved-requires-in-NewRow-2-clause-place g c =
    (row_goes (seen c.self.view_is c.self.invariant) c.in-NewRow.row _ (rw c.as_borrowed.ensures.rows at c.row_start-at.ensures)).0

pub zvl_insert_reserved-requires-in-NewRow-2-clause-taken : goal.zvl_insert_reserved-requires-in-NewRow-2-clause-taken
zvl_insert_reserved-requires-in-NewRow-2-clause-taken g c =
    let taken = taken_there g.met.K0.ZvOrd.total g.met.K1.ZvOrd.total _ (g.Q0.ZvArg.bytes c.args.key0.now) (g.Q1.ZvArg.bytes c.args.key1.now) (rule g)
    (g.R.ZvArg.bytes c.args.value.now) (NewRow _) (rw c.in-NewRow.is at c.requires.place) c.requires.fits in
    record { taken = rw (seen c.self.view_is c.self.invariant).seconds_are (and_parts _ _ (and_parts _ _ taken).1).0 }

pub zvl_insert_reserved-requires-in-NewRow-3-clause-place : goal.zvl_insert_reserved-requires-in-NewRow-3-clause-place
zvl_insert_reserved-requires-in-NewRow-3-clause-place g c =
    (row_goes (seen c.self.view_is c.self.invariant) c.in-NewRow.row _ (rw c.as_borrowed.ensures.rows at c.row_start-at.ensures)).1

pub zvl_insert_reserved-requires-in-NewRow-3-clause-taken : goal.zvl_insert_reserved-requires-in-NewRow-3-clause-taken
zvl_insert_reserved-requires-in-NewRow-3-clause-taken g c =
    let taken = taken_there g.met.K0.ZvOrd.total g.met.K1.ZvOrd.total _ (g.Q0.ZvArg.bytes c.args.key0.now) (g.Q1.ZvArg.bytes c.args.key1.now) (rule g)
    (g.R.ZvArg.bytes c.args.value.now) (NewRow _) (rw c.in-NewRow.is at c.requires.place) c.requires.fits in
    record { taken = rw (seen c.self.view_is c.self.invariant).values_are (and_parts _ _ (and_parts _ _ taken).1).1 }

pub shift-requires-in-NewRow-clause-below : goal.shift-requires-in-NewRow-clause-below
shift-requires-in-NewRow-clause-below g c = λ k h.
    omega (arith, ends_below (seen c.self.view_is c.self.invariant) (omega (arith, c.requires.room.pairs)) k h)

pub overflow_cast-at : goal.overflow_cast-at
overflow_cast-at g c =
    omega (arith, c.requires.room.pairs, row_starts c.args.self.now.rows c.in-NewRow.row, rw c.as_borrowed.ensures.rows at c.row_start-at.ensures)

pub overflow_add-at : goal.overflow_add-at
overflow_add-at g c =
    omega (arith, c.requires.room.pairs, row_starts c.args.self.now.rows c.in-NewRow.row, rw c.as_borrowed.ensures.rows at c.row_start-at.ensures)

pub insert_owned-requires-clause-place : goal.insert_owned-requires-clause-place
insert_owned-requires-clause-place g c =
    let many = shift_count 1 0 c.in-NewRow.row c.self.inside.joiner.values in
    let gap = gap_within g.K0.ZvOrd.cmp _ _ _ (rw c.in-NewRow.is at c.requires.place) in
    omega (arith, gap, ends_count (seen c.self.view_is c.self.invariant), ap length c.shift-in-NewRow.ensures.values, many)

pub invariant_of-self-in-NewRow : goal.invariant_of-self-in-NewRow
invariant_of-self-in-NewRow g c =
    let at = rw c.in-NewRow.is at c.requires.place in
    let gap = gap_within g.K0.ZvOrd.cmp _ _ _ at in
    columns c.self.invariant (same_lists c.zvl_insert_reserved-in-NewRow.ensures.list
    (rw (← c.shift-in-NewRow.ensures.values) c.insert_owned.ensures.values)
    c.zvl_insert_reserved-in-NewRow-2.ensures.list c.zvl_insert_reserved-in-NewRow-3.ensures.list
    (row_added (seen c.self.view_is c.self.invariant) _ _ _ _ _ gap (rw c.as_borrowed.ensures.rows at c.row_start-at.ensures)))
    (put_at_well g.met.K0.ZvOrd.total g.met.K1.ZvOrd.total _ _ _ (seen_well c.self.view_is c.self.invariant) (NewRow _) at _)

pub returns-in-NewRow : goal.returns-in-NewRow
returns-in-NewRow g c =
    let at = rw c.in-NewRow.is at c.requires.place in
    let gap = gap_within g.K0.ZvOrd.cmp _ _ _ at in
    let pairs = few_more 1 c.self.invariant (invariant_of-self-in-NewRow g c) (one_more _ _ _ _ c.zvl_insert_reserved-in-NewRow-2.ensures.list) in record {
      rows = view_of (same_lists c.zvl_insert_reserved-in-NewRow.ensures.list
          (rw (← c.shift-in-NewRow.ensures.values) c.insert_owned.ensures.values)
          c.zvl_insert_reserved-in-NewRow-2.ensures.list c.zvl_insert_reserved-in-NewRow-3.ensures.list
          (row_added (seen c.self.view_is c.self.invariant) _ _ _ _ _ gap (rw c.as_borrowed.ensures.rows at c.row_start-at.ensures)))
          ∙ sym (put_is g.met.K0.ZvOrd.total g.met.K1.ZvOrd.total _ _ _ _ (NewRow _) at);
      spends = rw (← c.self.view_is)
          (search (rules, pairs, g.met.C0.ZvContainer.ready_owned, g.met.C1.ZvContainer.ready_owned, g.met.D.ZvContainer.ready_owned));
    }
