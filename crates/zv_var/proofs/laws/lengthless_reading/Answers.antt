use Rattle.zv_var.proofs.Encoding.{has_starts, read_lengthless}
use Rattle.zv_var.proofs.laws.lengthless_reading.Goals as goal

pub returns : goal.returns
returns c = record {
  short_has_starts = has_starts;
  reads_back = λ w xs h. (read_lengthless w xs h).0;
  sound = λ w K xs h. (read_lengthless w xs h).1 K;
}
