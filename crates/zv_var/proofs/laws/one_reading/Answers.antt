use Rattle.zv_var.proofs.Common.{sym, ◌∙◌, elements}
use Rattle.zv_var.proofs.Least.{least_of_list}
use Rattle.zv_var.proofs.Read.{read_back, fault_from_Part, elements_from_Part, encoding_from_Parts}
use Rattle.zv_var.proofs.Serialized.{Part_from_serialized}
use Rattle.zv_var.proofs.laws.one_reading.Goals as goal

pub returns : goal.returns
returns c = record {
  one_list = λ w b xs ys p h k. sym (elements_from_Part w b xs p h) ∙ elements_from_Part w b ys p k;
  one_encoding = encoding_from_Parts;
  sound_exactly = λ w K b p h. ((λ f. let r = read_back w K b p h f in (elements w b, r.0, r.1)), (λ s. fault_from_Part w K b s.0 p s.1 s.2));
  reads_back = elements_from_Part;
  written_stands = Part_from_serialized;
  none_wrong = read_back;
  names_least = least_of_list;
}
