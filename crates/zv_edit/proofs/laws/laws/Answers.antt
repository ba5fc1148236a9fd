use Rattle.zv_edit.proofs.Edits.{same_edits, written_back}
use Rattle.zv_edit.proofs.Fitting.{never_too_large}
use Rattle.zv_edit.proofs.Texts.{keys_are_texts}
use Rattle.zv_edit.proofs.Left.{left_stands}
use Rattle.zv_edit.proofs.laws.laws.Goals as goal

pub returns : goal.returns
returns c = record { texts = keys_are_texts; fits = never_too_large; left = left_stands; same = same_edits; again = written_back }
