use Rattle.zv_map2d_laws.proofs.Canon.{canon_bounded}
use Rattle.zv_map2d_laws.proofs.Standing.{canon_stands, frame_exactly, one_map, read_exactly, reads_as_rows}
use Rattle.zv_map2d_laws.proofs.OnlyImage.{one_spelling}
use Rattle.zv_map2d_laws.proofs.laws.Goals as goal

pub returns : goal.returns
returns c = search (read_exactly, one_map, reads_as_rows, canon_stands, one_spelling, canon_bounded, frame_exactly)
