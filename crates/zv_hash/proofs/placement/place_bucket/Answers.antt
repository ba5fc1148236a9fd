use Rattle.zv_hash.proofs.Fillings.{one_filled}
use Rattle.zv_hash.proofs.placement.place_bucket.Goals as goal

pub returns : goal.returns
returns c =
    let d = c.in-Some.ensures in
    one_filled c.requires.filled c.requires.bucket d.0 d.1 d.2 c.hold.ensures.len c.hold.ensures.held c.hold.ensures.others
