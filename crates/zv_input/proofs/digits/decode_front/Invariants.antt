use Rattle.zv_input.proofs.Decoding.{IsRead}
use Rattle.zv_input.proofs.digits.decode_front.Given as goal

abbrev pub invariant-pairs : goal.invariant-pairs
invariant-pairs l = IsRead l.i l.text l.place
