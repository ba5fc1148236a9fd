use Rattle.std.proofs.Common.{◌∙◌, ◌+◌, ◌≡◌, ap, arith, length, refl}
use Rattle.std.proofs.lemmas.List.Edits.{length-remove}
use Rattle.zv_owned.specs.Vectors.{vector_list}
use Rattle.zv_map.proofs.Flexes.{narrow_room, narrow_roomy, narrow_spare}
use Rattle.zv_map.proofs.flex.FlexVec.remove_reserved.Goals.{After-remove_reserved}
use Rattle.zv_map.proofs.flex.FlexVec.remove_reserved.Goals as goal

fewer : (g : _) (c : After-remove_reserved g) → length (vector_list c.remove_reserved.new.self) + 1 ≡ length (vector_list c.in-Narrow.v)
fewer g c =
    let same = rw c.in-Narrow.is at c.trim.ensures.list in
    ap (λ xs. length xs + 1) c.remove_reserved.ensures.list ∙ length-remove (vector_list c.in-Narrow.v) c.args.index (rw same c.requires.place)

pub returns-in-Narrow-clause-roomy : goal.returns-in-Narrow-clause-roomy
returns-in-Narrow-clause-roomy g c = λ roomy.
    let room = narrow_room _ c.in-Narrow.v c.in-Narrow.is c.trim.ensures.exact (c.trim.ensures.roomy roomy) in
    narrow_roomy c.remove_reserved.new.self c.remove_reserved.ensures.owned c.remove_reserved.ensures.bytes
    (omega (arith, room, fewer g c, c.remove_reserved.ensures.keeps_room))

pub returns-in-Narrow-clause-keeps_room : goal.returns-in-Narrow-clause-keeps_room
returns-in-Narrow-clause-keeps_room g c =
    let was = narrow_spare _ c.in-Narrow.v c.in-Narrow.is (c.trim.ensures.owned ∙ c.requires.owned) c.trim.ensures.exact in
    let now = narrow_spare _ c.remove_reserved.new.self refl c.remove_reserved.ensures.owned c.remove_reserved.ensures.bytes in
    omega (arith, was, now, fewer g c, c.trim.ensures.spare, c.remove_reserved.ensures.keeps_room)
