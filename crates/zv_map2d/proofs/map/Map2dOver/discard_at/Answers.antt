use Rattle.zv_map2d.proofs.Common.{rules, refl, arith, sym, ◌∙◌, length, ap, is_some, Pair}
use Rattle.zv_map2d.proofs.Places.{del_is, find_is, none_gone, nothing_there, pair_there}
use Rattle.zv_map2d.proofs.Seen.{columns, ends_count, ends_some, few_more, no_more, pair_stands, same_lists, seen, seen_well, view_of}
use Rattle.zv_map2d.proofs.Splices.{pair_removed, row_removed, shift_count}
use Rattle.zv_map2d.proofs.Well.{pair_gone, pair_gone_well, row_gone, row_gone_well}
use Rattle.zv_map2d.proofs.map.Map2dOver.discard_at.Goals as goal

pub returns-in_default : goal.returns-in_default
returns-in_default g c =
    let well = rw c.as_borrowed-view.ensures.rows at c.as_borrowed-view.result.well in record {
      rows = sym (del_is g.met.K0.ZvOrd.total g.met.K1.ZvOrd.total _ _ _ well _ c.requires.place ∙ none_gone c.args.self.now.rows _ c.in_default.not-Pair);
      found = sym (ap (λ o. is_some o) (find_is g.met.K0.ZvOrd.total g.met.K1.ZvOrd.total _ _ _ _ c.requires.place ∙ nothing_there c.args.self.now.rows _
          c.in_default.not-Pair));
      spends = search rules;
    }

pub pair_start-at-requires : goal.pair_start-at-requires
pair_start-at-requires g c =
    let there = pair_there g.K0.ZvOrd.cmp g.K1.ZvOrd.cmp _ _ _ _ _ (rw c.in-Pair.is at c.requires.place) in
    record { row = rw c.as_borrowed-view.ensures.rows there.0; pair = rw c.as_borrowed-view.ensures.rows (omega (arith, there.1)) }

pub zvl_discard-requires-clause-place : goal.zvl_discard-requires-clause-place
zvl_discard-requires-clause-place g c =
    let there = pair_there g.K0.ZvOrd.cmp g.K1.ZvOrd.cmp _ _ _ _ _ (rw c.in-Pair.is at c.requires.place) in
    (pair_stands (seen c.self.view_is c.self.invariant) there.0 there.1 (rw c.as_borrowed-view.ensures.rows at c.pair_start-at.ensures)).0

pub zvl_discard-requires-2-clause-place : goal.zvl_discard-requires-2-clause-place
zvl_discard-requires-2-clause-place g c =
    let there = pair_there g.K0.ZvOrd.cmp g.K1.ZvOrd.cmp _ _ _ _ _ (rw c.in-Pair.is at c.requires.place) in
    (pair_stands (seen c.self.view_is c.self.invariant) there.0 there.1 (rw c.as_borrowed-view.ensures.rows at c.pair_start-at.ensures)).1

pub shift-requires-clause-above : goal.shift-requires-clause-above
shift-requires-clause-above g c =
    let there = pair_there g.K0.ZvOrd.cmp g.K1.ZvOrd.cmp _ _ _ _ _ (rw c.in-Pair.is at c.requires.place) in ends_some (seen c.self.view_is c.self.invariant)
    there.0 (omega (arith, there.1))

pub remove_owned-requires-clause-place : goal.remove_owned-requires-clause-place
remove_owned-requires-clause-place g c =
    let there = pair_there g.K0.ZvOrd.cmp g.K1.ZvOrd.cmp _ _ _ _ _ (rw c.in-Pair.is at c.requires.place) in
    let many = shift_count 0 1 c.in-Pair.row c.self.inside.joiner.values in
    omega (arith, there.0, ends_count (seen c.self.view_is c.self.invariant), ap length c.shift.ensures.values, many)

-- ---- the row's only pair

pub invariant_of-self : goal.invariant_of-self
invariant_of-self g c =
    let at = rw c.in-Pair.is at c.requires.place in
    let there = pair_there g.K0.ZvOrd.cmp g.K1.ZvOrd.cmp _ _ _ _ _ at in
    let one = sym (rw c.as_borrowed-view.ensures.rows at c.row_len-single.ensures) ∙ c.if-single.true in
    let start = rw c.as_borrowed-view.ensures.rows at c.pair_start-at.ensures in
    columns c.self.invariant (same_lists c.zvl_discard-then-single.ensures.list (rw (← c.shift.ensures.values) c.remove_owned.ensures.values)
    c.zvl_discard.ensures.list c.zvl_discard-2.ensures.list (row_removed (seen c.self.view_is c.self.invariant) _ _ there.0 one
    (omega (arith, start, there.1, one))))
    (row_gone_well g.met.K0.ZvOrd.total g.met.K1.ZvOrd.total _ _ _ (seen_well c.self.view_is c.self.invariant) _ _ at one)

pub returns-then-single : goal.returns-then-single
returns-then-single g c =
    let at = rw c.in-Pair.is at c.requires.place in
    let there = pair_there g.K0.ZvOrd.cmp g.K1.ZvOrd.cmp _ _ _ _ _ at in
    let one = sym (rw c.as_borrowed-view.ensures.rows at c.row_len-single.ensures) ∙ c.if-single.true in
    let start = rw c.as_borrowed-view.ensures.rows at c.pair_start-at.ensures in
    let pairs = few_more 0 c.self.invariant (invariant_of-self g c) (no_more _ _ c.pair_start-at.result c.zvl_discard.ensures.list) in record {
      rows = view_of (same_lists c.zvl_discard-then-single.ensures.list (rw (← c.shift.ensures.values) c.remove_owned.ensures.values)
          c.zvl_discard.ensures.list c.zvl_discard-2.ensures.list
          (row_removed (seen c.self.view_is c.self.invariant) _ _ there.0 one (omega (arith, start, there.1, one))))
          ∙ sym (row_gone g.met.K0.ZvOrd.total g.met.K1.ZvOrd.total _ _ _ (seen_well c.self.view_is c.self.invariant) _ _ at one);
      found = sym (ap (λ o. is_some o) (find_is g.met.K0.ZvOrd.total g.met.K1.ZvOrd.total _ _ _ (Pair _ _) at));
      spends = rw (← c.self.view_is) (search (rules, pairs));
    }

-- ---- one of others

pub invariant_of-self-else-single : goal.invariant_of-self-else-single
invariant_of-self-else-single g c =
    let at = rw c.in-Pair.is at c.requires.place in
    let there = pair_there g.K0.ZvOrd.cmp g.K1.ZvOrd.cmp _ _ _ _ _ at in
    let start = rw c.as_borrowed-view.ensures.rows at c.pair_start-at.ensures in
    let length_is = rw c.as_borrowed-view.ensures.rows at c.row_len-single.ensures in
    columns c.self.invariant (same_lists refl c.shift.ensures.values c.zvl_discard.ensures.list c.zvl_discard-2.ensures.list
    (pair_removed (seen c.self.view_is c.self.invariant) _ _ _ there.0 start there.1))
    (pair_gone_well g.met.K0.ZvOrd.total g.met.K1.ZvOrd.total _ _ _ (seen_well c.self.view_is c.self.invariant) _ _ at
    (λ one. c.if-single.false (length_is ∙ one)))

pub returns-else-single : goal.returns-else-single
returns-else-single g c =
    let at = rw c.in-Pair.is at c.requires.place in
    let there = pair_there g.K0.ZvOrd.cmp g.K1.ZvOrd.cmp _ _ _ _ _ at in
    let start = rw c.as_borrowed-view.ensures.rows at c.pair_start-at.ensures in
    let length_is = rw c.as_borrowed-view.ensures.rows at c.row_len-single.ensures in
    let own = rw (← c.self.view_is) at c.requires.owned in
    let pairs = few_more 0 c.self.invariant (invariant_of-self-else-single g c) (no_more _ _ c.pair_start-at.result c.zvl_discard.ensures.list) in record {
      rows = view_of (same_lists refl c.shift.ensures.values c.zvl_discard.ensures.list c.zvl_discard-2.ensures.list
          (pair_removed (seen c.self.view_is c.self.invariant) _ _ _ there.0 start there.1))
          ∙ sym (pair_gone g.met.K0.ZvOrd.total g.met.K1.ZvOrd.total _ _ _ (seen_well c.self.view_is c.self.invariant) _ _ at
          (λ one. c.if-single.false (length_is ∙ one)));
      found = sym (ap (λ o. is_some o) (find_is g.met.K0.ZvOrd.total g.met.K1.ZvOrd.total _ _ _ (Pair _ _) at));
      spends = rw (← c.self.view_is) (search (rules, pairs));
    }
