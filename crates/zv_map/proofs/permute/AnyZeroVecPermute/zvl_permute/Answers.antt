use Rattle.std.proofs.lemmas.Result.{err_from_is_err_and}
use Rattle.zv_map.proofs.Common.{◌≡◌, [], true, refl, length, permuted, takes_pushes}
use Rattle.zv_map.proofs.Permuted.{places_within, taken_alike}
use Rattle.zv_map.proofs.permute.AnyZeroVecPermute.zvl_permute.Goals as goal

pub returns-then-not-zvl_takes_elements-clause-refused : goal.returns-then-not-zvl_takes_elements-clause-refused
returns-then-not-zvl_takes_elements-clause-refused g c =
    let xs = g.C.ZeroVecLike.list c.args.self.now in
    let alike = taken_alike g.C.ZvContainer.takes_insert g.met.C.ZvContainer.any_order xs c.args.permutation.now c.requires in
    cc

pub returns-clause-refused : goal.returns-clause-refused
returns-clause-refused g c =
    let xs = g.C.ZeroVecLike.list c.args.self.now in
    let alike = taken_alike g.C.ZvContainer.takes_insert g.met.C.ZvContainer.any_order xs c.args.permutation.now c.requires in
    cc

pub elements_at-requires : goal.elements_at-requires
elements_at-requires g c κs =
    let xs = g.C.ZeroVecLike.list c.args.self.now in
    let alike = taken_alike g.C.ZvContainer.takes_insert g.met.C.ZvContainer.any_order xs c.args.permutation.now c.requires in
    let taken : takes_pushes g.C.ZvContainer.takes_insert [] (permuted xs c.args.permutation.now) ≡ true = cc in
    ((refl, tt), (places_within (length xs) c.args.permutation.now c.requires, taken))

pub returns-in_err-self-clause-refused : goal.returns-in_err-self-clause-refused
returns-in_err-self-clause-refused g c =
    let xs = g.C.ZeroVecLike.list c.args.self.now in
    let alike = taken_alike g.C.ZvContainer.takes_insert g.met.C.ZvContainer.any_order xs c.args.permutation.now c.requires in
    let taken : takes_pushes g.C.ZvContainer.takes_insert [] (permuted xs c.args.permutation.now) ≡ true = cc in
    let refused = err_from_is_err_and c.from_residual.result c.from_residual.ensures.1 in
    rw (refused.1, refused.2, c.in_err-self.ensures.err) taken
