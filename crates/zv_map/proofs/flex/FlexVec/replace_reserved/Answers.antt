use Rattle.std.proofs.Common.{◌∙◌, ◌≡◌, ap, arith, length, refl}
use Rattle.std.proofs.Common.{length-set}
use Rattle.zv_owned.specs.Vectors.{vector_list}
use Rattle.zv_map.proofs.Flexes.{narrow_roomy, narrow_spare, roomy_owned}
use Rattle.zv_map.proofs.flex.FlexVec.replace_reserved.Goals.{After-replace_reserved}
use Rattle.zv_map.proofs.flex.FlexVec.replace_reserved.Goals as goal

count : (g : _) (c : After-replace_reserved g) → length (vector_list c.replace_reserved.new.self) ≡ length (vector_list c.in-Narrow.v)
count g c =
    let same = rw c.in-Narrow.is at (c.widen_unless.ensures.list ∙ c.trim.ensures.list) in
    ap length c.replace_reserved.ensures.list ∙ length-set (vector_list c.in-Narrow.v) c.args.index _

pub replace_reserved-requires-clause-room : goal.replace_reserved-requires-clause-room
replace_reserved-requires-clause-room g c =
    let was = narrow_spare _ c.in-Narrow.v c.in-Narrow.is (roomy_owned _ c.widen_unless.ensures.roomy) c.widen_unless.ensures.exact in
    omega (arith, was, c.requires.room, c.trim.ensures.spare, c.widen_unless.ensures.spare)

pub returns-in-Narrow-clause-roomy : goal.returns-in-Narrow-clause-roomy
returns-in-Narrow-clause-roomy g c =
    let was = narrow_spare _ c.in-Narrow.v c.in-Narrow.is (roomy_owned _ c.widen_unless.ensures.roomy) c.widen_unless.ensures.exact in
    narrow_roomy c.replace_reserved.new.self c.replace_reserved.ensures.owned c.replace_reserved.ensures.bytes
    (omega (arith, was, count g c, c.requires.room, c.trim.ensures.spare, c.widen_unless.ensures.spare, c.replace_reserved.ensures.keeps_room))

pub returns-in-Narrow-clause-keeps_room : goal.returns-in-Narrow-clause-keeps_room
returns-in-Narrow-clause-keeps_room g c =
    let was = narrow_spare _ c.in-Narrow.v c.in-Narrow.is (roomy_owned _ c.widen_unless.ensures.roomy) c.widen_unless.ensures.exact in
    let now = narrow_spare _ c.replace_reserved.new.self refl c.replace_reserved.ensures.owned c.replace_reserved.ensures.bytes in
    omega (arith, was, now, count g c, c.trim.ensures.spare, c.widen_unless.ensures.spare, c.replace_reserved.ensures.keeps_room)
