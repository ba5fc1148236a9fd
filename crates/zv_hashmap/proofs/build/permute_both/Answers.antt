use Rattle.zv_hashmap.proofs.Common.{Err}
use Rattle.std.proofs.lemmas.Result.{err_from_is_err_and}
use Rattle.zv_hashmap.proofs.Refused.{memory_alone}
use Rattle.zv_hashmap.proofs.build.permute_both.Goals as goal

pub returns-in_err-zvl_permute-clause-err : goal.returns-in_err-zvl_permute-clause-err
returns-in_err-zvl_permute-clause-err g c =
    let p = err_from_is_err_and c.from_residual.result c.from_residual.ensures.1 in
    rw (p.1, p.2) (memory_alone {A = Unit {0}} g.C.ZvContainer.takes_insert g.met.C.ZvContainer.any_order (g.C.ZeroVecLike.list c.args.keys.now)
    c.args.places.now c.requires.keys c.requires.keys_taken (Err c.in_err-zvl_permute.field-0.0) c.in_err-zvl_permute.ensures.refused)

pub returns-clause-err : goal.returns-clause-err
returns-clause-err g c =
    memory_alone g.D.ZvContainer.takes_insert g.met.D.ZvContainer.any_order (g.D.ZeroVecLike.list c.args.values.now) c.args.places.now
    (rw c.requires.values c.requires.keys) c.requires.values_taken c.zvl_permute-2.result c.zvl_permute-2.ensures.refused
