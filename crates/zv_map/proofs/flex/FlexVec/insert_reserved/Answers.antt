use Rattle.std.proofs.Common.{◌∙◌, ◌+◌, ◌≡◌, ap, arith, length, refl}
use Rattle.std.proofs.lemmas.List.Edits.{length-insert}
use Rattle.zv_owned.specs.Vectors.{vector_list}
use Rattle.zv_map.proofs.Flexes.{narrow_roomy, narrow_spare, roomy_owned}
use Rattle.zv_map.proofs.flex.FlexVec.insert_reserved.Goals.{After-insert_reserved}
use Rattle.zv_map.proofs.flex.FlexVec.insert_reserved.Goals as goal

count : (g : _) (c : After-insert_reserved g) → length (vector_list c.insert_reserved.new.self) ≡ length (vector_list c.in-Narrow.v) + 1
count g c =
    let same = rw c.in-Narrow.is at (c.widen_unless.ensures.list ∙ c.trim.ensures.list) in
    ap length c.insert_reserved.ensures.list ∙ length-insert (vector_list c.in-Narrow.v) c.args.index _ (rw same c.requires.place)

pub insert_reserved-requires-clause-room : goal.insert_reserved-requires-clause-room
insert_reserved-requires-clause-room g c =
    let was = narrow_spare _ c.in-Narrow.v c.in-Narrow.is (roomy_owned _ c.widen_unless.ensures.roomy) c.widen_unless.ensures.exact in
    omega (arith, was, c.requires.room, c.trim.ensures.spare, c.widen_unless.ensures.spare)

pub returns-in-Narrow-clause-roomy : goal.returns-in-Narrow-clause-roomy
returns-in-Narrow-clause-roomy g c =
    let was = narrow_spare _ c.in-Narrow.v c.in-Narrow.is (roomy_owned _ c.widen_unless.ensures.roomy) c.widen_unless.ensures.exact in
    narrow_roomy c.insert_reserved.new.self c.insert_reserved.ensures.owned c.insert_reserved.ensures.bytes
    (omega (arith, was, count g c, c.requires.room, c.trim.ensures.spare, c.widen_unless.ensures.spare, c.insert_reserved.ensures.keeps_room))

pub returns-in-Narrow-clause-keeps_room : goal.returns-in-Narrow-clause-keeps_room
returns-in-Narrow-clause-keeps_room g c =
    let was = narrow_spare _ c.in-Narrow.v c.in-Narrow.is (roomy_owned _ c.widen_unless.ensures.roomy) c.widen_unless.ensures.exact in
    let now = narrow_spare _ c.insert_reserved.new.self refl c.insert_reserved.ensures.owned c.insert_reserved.ensures.bytes in
    omega (arith, was, now, count g c, c.trim.ensures.spare, c.widen_unless.ensures.spare, c.insert_reserved.ensures.keeps_room)
