use Rattle.zv_map1.proofs.Common.{look_up-insert_entry, refl, IsMap-insert_entry, look_up-without_key, tied_itself, IsMap-without_key, maps_alike, IsElementOf}
use Rattle.zv_map1.proofs.Building.{insert_is_found}
use Rattle.zv_map1.proofs.laws.finite_map.Goals as goal

pub returns : goal.returns
returns c = record {
  insert = insert_is_found;
  insert_others = λ order total m k v j other. rw (look_up-insert_entry total m k j v, other) refl;
  insert_map = λ order total m k v up. IsMap-insert_entry total m k v up;
  remove = λ order total m k up. rw (look_up-without_key total m k k up, tied_itself total k) refl;
  remove_others = λ order total m k j up other. rw (look_up-without_key total m k j up, other) refl;
  remove_map = λ order total m k up. IsMap-without_key total m k up;
  alike = λ order fault total exact. maps_alike total (IsElementOf fault) (λ a b ka kb e. exact a b ka.bytes kb.bytes ka.valid kb.valid e);
}
