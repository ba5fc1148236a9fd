use Rattle.zv_owned.proofs.Common.{arith}
use Rattle.zv_owned.proofs.Codable.{insert_codable, remove_codable, replace_codable}
use Rattle.zv_owned.proofs.Pushes.{any_order}
use Rattle.zv_owned.proofs.laws.size_rule.Goals as goal

pub returns : goal.returns
returns c = record {
  insert = λ w p q xs i e k t h. insert_codable w p q xs i e h t;
  replace = λ w p q xs i e k h t. replace_codable w p q xs i e h k t;
  remove = λ w p q xs i k. remove_codable w p q xs i k;
  shorter = λ w xs old n h k. grind arith;
  any_order = any_order;
}
