use Rattle.std.specs.List.Sorted.{IsStrictlySortedBy}
use Rattle.zv_map2d_laws.proofs.Kept.{put_texts, del_texts, put_codable, del_codable, fits_alike, canon_again, same_canon}
use Rattle.zv_map2d_laws.proofs.changes.Goals as goal

pub returns : goal.returns
unfolding IsStrictlySortedBy
returns c = search (put_texts, del_texts, put_codable, del_codable, fits_alike, canon_again, same_canon)
