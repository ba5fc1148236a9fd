use Rattle.zv_ule.proofs.Common.{ap, sym, ◌∙◌, IsChunk, niche_fault}
use Rattle.std.specs.Prelude.{option_map}
use Rattle.zv_ule.specs.declared.error.TyName.TheVariants.{NichedOpt}
use Rattle.zv_ule.specs.laws.NicheSpellings.{niche_spelling}
use Rattle.zv_ule.specs.Niches.{niche_chunk}
use Rattle.zv_ule.specs.laws.OptionSpellings.{option_twin}
use Rattle.zv_ule.proofs.ChunkFaults.{one_good}
use Rattle.zv_ule.proofs.ComposedOrders.{same_options}
use Rattle.zv_ule.proofs.Exact.{through_twin}
use Rattle.zv_ule.proofs.laws.composed_orders.exact_order_of_niched_options.Goals as goal

pub returns : goal.returns
returns g c a b bytes_a bytes_b good_a good_b equal =
    let pattern = g.U.ULE.NicheBytes.NICHE_BIT_PATTERN in
    let fault = niche_fault pattern g.U.ULE.ULE.chunk_fault in
    let s = through_twin (option_twin g.met.U.AsULE.twin) (niche_spelling g.met.U.ULE.NicheBytes.free g.met.U.ULE.ULE.spelling) in
    let p = one_good NichedOpt g.U.ULE.ULE.width fault a good_a in
    let q = one_good NichedOpt g.U.ULE.ULE.width fault b good_b in
    let of_a : IsChunk g.U.ULE.ULE.width fault a = record { each = bytes_a; long = p.0; good = p.1 } in
    let of_b : IsChunk g.U.ULE.ULE.width fault b = record { each = bytes_b; long = q.0; good = q.1 } in
    let same = same_options c.requires _ _ (s.reads a of_a) (s.reads b of_b) equal in
    sym (s.again a of_a) ∙ ap (λ o. niche_chunk pattern g.U.ULE.ULE.chunk (option_map g.U.AsULE.stored o)) same ∙ s.again b of_b
