use Rattle.zv_var.specs.Format.{elements_after}
use Rattle.std.proofs.Common.{length, refl}
use Rattle.zv_multi.proofs.Reading.{none_from_record, read_fields, record_from_none}
use Rattle.zv_multi.proofs.Written.{fitting_starts}
use Rattle.zv_multi.proofs.laws.one_reading.Goals as goal

pub returns : goal.returns
returns c = record {
  sound_exactly = λ w Ks b some bytes. ((λ h. (elements_after w (length Ks) b, record_from_none w Ks b some bytes h)), (λ r. none_from_record w Ks b r.0 r.1));
  reads_back = read_fields;
  written_stands = λ w Ks fits xs narrow many fit valid. record { many = many; numbered = fitting_starts w fits xs narrow fit; spelled = refl; valid = valid };
}
