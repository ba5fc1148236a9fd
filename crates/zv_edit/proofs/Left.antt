-- What commands leave of a map of texts that can be written is one again.
use Rattle.zv_edit.proofs.Common.{arith, List, [], ◌∷◌, Rows, Command, Get, Put, Del, Row, last, next}
use Rattle.zv_edit.proofs.Common.{OfTexts, AllByRecursion, IsTextMap, put_texts, del_texts, put_codable, del_codable, LeftStands}
use Rattle.zv_map2d_laws.specs.Laws.{IsCodable}
use Rattle.zv_map2d_laws.proofs.Standing.{canon_stands, codable_lists}

next_kept : (m : Rows) (c : Command) → IsTextMap m → IsCodable m → OfTexts c → IsTextMap (next m c) × IsCodable (next m c)
next_kept m (Get k0 k1) texts lists keys = (texts, lists)
next_kept m (Put k0 k1 v) texts lists keys =
    let one = put_texts m k0 k1 v keys.0 keys.1 texts in let other = put_codable m k0 k1 v texts lists in grind arith
next_kept m (Del k0 k1) texts lists keys = (del_texts m k0 k1 texts, del_codable m k0 k1 texts lists)
next_kept m (Row k0) texts lists keys = (texts, lists)

last_kept : (m : Rows) (cs : List Command) → IsTextMap m → IsCodable m → AllByRecursion OfTexts cs → IsTextMap (last m cs) × IsCodable (last m cs)
last_kept m [] texts lists keys = (texts, lists)
last_kept m (c ∷ cs) texts lists keys =
    let one = next_kept m c texts lists keys.0 in
    last_kept (next m c) cs one.0 one.1 keys.1

pub left_stands : LeftStands
left_stands image m cs stands keys =
    let s = stands.spelled in
    let lists : IsCodable m = codable_lists s in
    let kept = last_kept m cs stands.map lists keys in
    canon_stands (last m cs) kept.0 kept.1
