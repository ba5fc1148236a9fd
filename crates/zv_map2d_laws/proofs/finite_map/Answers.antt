use Rattle.std.proofs.lemmas.Map.Lookups.{exact_bytes}
use Rattle.zv_map2d.proofs.Well.{del_well, put_well}
use Rattle.zv_map2d_laws.proofs.FiniteMap.{put_is_found, put_leaves_others, del_is_gone, del_leaves_others, found_alike, found_in_row, keeps_last}
use Rattle.zv_map2d_laws.proofs.finite_map.Goals as goal

pub returns : goal.returns
returns c = search (found_in_row, put_is_found, put_leaves_others, put_well, keeps_last, del_is_gone, del_leaves_others, del_well, found_alike, exact_bytes)
