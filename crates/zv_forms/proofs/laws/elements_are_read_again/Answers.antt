use Rattle.std.proofs.Common.{◌==◌, ◌||◌, length, is_some, true, subst}
use Rattle.zv_json.specs.Again.{AreElements, EachAlike, elements_are, list_again, then_again}
use Rattle.zv_json.specs.Arrays.{list_in}
use Rattle.zv_owned.specs.Vectors.{vector_list}
use Rattle.zv_var.specs.Serialize.{serialized_len}
use Rattle.zv_forms.specs.Vectors.{list_taken}
use Rattle.zv_forms.proofs.Objects.{unless_large}
use Rattle.zv_forms.proofs.laws.elements_are_read_again.Goals as goal

pub returns : goal.returns
returns g c d is =
    let s = c.as_slice-list.result in
    let w = g.F.VarZeroVecFormat.W in
    let xs = vector_list c.args.list.now in
    let alike = EachAlike g.T.JsonAgain.Alike xs in
    let are : AreElements g.T.ZvKind.fault xs =
    subst (AreElements g.T.ZvKind.fault) c.as_slice-list.ensures.list
    (elements_are w g.T.ZvKind.fault s.bytes.now g.F.VarZeroVecFormat.width_positive s.each s.spells) in
    then_again alike alike (list_in g.T.JsonKind.of_data d) (list_taken w)
    (list_again g.T.ZvKind.fault g.T.JsonAgain.Alike g.T.JsonKind.to_data g.T.JsonKind.of_data (g.met.T.JsonAgain.again s.usable) xs d are is)
    (λ ys a. unless_large alike (length ys == 0 || is_some (serialized_len (λ _. true) (λ x. x) w ys)) ys a)
