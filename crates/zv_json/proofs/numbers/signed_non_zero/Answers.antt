use Rattle.std.proofs.Common.{◌≡◌, MatchOption, pos, w8, subst, rules}
use Rattle.std.proofs.lemmas.Int.{to_z-of_z}
use Rattle.zv_json.proofs.NonZero.{signed_non_zero_made}
use Rattle.zv_json.proofs.numbers.signed_non_zero.Goals as goal

pub returns : goal.returns
returns c =
    let same = to_z-of_z w8 c.args.n (search rules) in
    signed_non_zero_made c.new.result c.args.n (subst (λ z. MatchOption c.new.result (z ≡ pos 0) (λ x. x.value ≡ z)) same c.new.ensures)
