use Rattle.zv_frozen.proofs.Common.{◌<◌, ◌^◌, length, refl}
use Rattle.zv_frozen.proofs.Thawed.{all_written}
use Rattle.zv_frozen.proofs.frozen.Frozen.thaw.Goals as goal

pub try_from_triples-requires : goal.try_from_triples-requires
try_from_triples-requires c =
    let sized = c.in_ok-triples.ensures.sized in
    let xs = c.in_ok-triples.triples.items in
    let first = all_written _ (λ t. length t.0 < 2 ^ 64) xs sized.first in
    let second = all_written _ (λ t. length t.1 < 2 ^ 64) xs sized.second in
    let value = all_written _ (λ t. length t.2 < 2 ^ 64) xs sized.value in
    λ k. ((refl, tt), (refl, (refl, (refl, (rw c.deref.ensures.value first, (rw c.deref.ensures.value second, rw c.deref.ensures.value value))))))
