use Rattle.zv_frozen.proofs.Common.{◌∙◌, append-nil, refl, sym}
use Rattle.zv_frozen.proofs.Thawed.{all_keys, none_sized}
use Rattle.zv_frozen.proofs.frozen.Frozen.triples.Goals as goal

pub loop-key-init : goal.loop-key-init
loop-key-init c =
    let t = c.self.inside.table in
    record {
      can_next = tt;
      is_finite = tt;
      rest = rw (c.in_ok-triples.ensures.items, c.into_iter-key-iterator.ensures.into_iter_gives, c.iter-key-items.ensures, ← c.self.view_is) refl;
      sized = rw c.in_ok-triples.ensures.items none_sized;
      keys = rw (c.into_iter-key-iterator.ensures.into_iter_gives, c.iter-key-items.ensures) (all_keys t c.self.invariant.keys);
    }

pub returns-clause-triples : goal.returns-clause-triples
returns-clause-triples c = sym (append-nil _) ∙ rw c.in-None.ensures.steps.0 at c.loop-key.invariant.rest
