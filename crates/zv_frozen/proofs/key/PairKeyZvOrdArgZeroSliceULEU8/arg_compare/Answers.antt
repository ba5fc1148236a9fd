use Rattle.zv_frozen.proofs.Common.{◌∙◌, pair_key, sym}
use Rattle.zv_frozen.proofs.Keys.{same_order}
use Rattle.zv_frozen.proofs.key.PairKeyZvOrdArgZeroSliceULEU8.arg_compare.Goals as goal

pub returns-clause-order : goal.returns-clause-order
returns-clause-order g c = c.compare.ensures ∙ sym (same_order c.args.element.now (pair_key c.args.self.now.key0.now c.args.self.now.key1.now))
