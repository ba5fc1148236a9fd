use Rattle.zv_ule.proofs.Common.{exact_bytes}
use Rattle.zv_ule.specs.declared.error.TyName.TheVariants.{U8}
use Rattle.zv_ule.specs.laws.Spellings.{byte_spelling}
use Rattle.zv_ule.proofs.Exact.{same_values}
use Rattle.zv_ule.proofs.laws.exact_orders.Goals as goal

pub returns-clause-texts : goal.returns-clause-texts
returns-clause-texts c a b _ _ _ _ equal = exact_bytes a b equal

pub returns-clause-slices : goal.returns-clause-slices
returns-clause-slices c a b p q h k equal = same_values byte_spelling U8 a b p q h k equal
