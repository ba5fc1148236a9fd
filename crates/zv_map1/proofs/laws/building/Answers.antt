use Rattle.zv_map1.proofs.Common.{sym, [], ◌∙◌, ap, look_up, append-nil, reverse, refl}
use Rattle.zv_map1.proofs.Appended.{appended_is, gap_at_end}
use Rattle.zv_map1.proofs.Building.{all_is_map_from, last_found}
use Rattle.zv_map1.proofs.Zipped.{none_ascends}
use Rattle.zv_map1.proofs.laws.building.Goals as goal

pub returns : goal.returns
returns c = record {
  append = λ order total m k v up above. sym (appended_is total m k v above (gap_at_end total m k up above));
  last = λ order total ps k. last_found total k ps [] ∙ ap (λ xs. look_up order xs k) (append-nil (reverse ps));
  map = λ order total ps. all_is_map_from total ps [] (none_ascends order [] refl);
}
