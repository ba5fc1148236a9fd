use Rattle.zv_map2d.proofs.Common.{rules, ◌∙◌, ap, IsBytes, bytes_of}
use Rattle.zv_map2d.specs.Image.{fault_of}
use Rattle.zv_map2d.proofs.Formed.{parsed_stands, parsed_formed}
use Rattle.zv_map2d.proofs.image.parse_image.Goals as goal

pub returns-clause-error : goal.returns-clause-error
returns-clause-error c = c.read_parts.ensures.error ∙ ap fault_of c.in-Some.ensures

pub returns-clause-map : goal.returns-clause-map
returns-clause-map c =
    let bytes : IsBytes c.args.image.now = search (rules, c.type_inv.image) in
    let read = c.read_parts.ensures in
    parsed_stands c.args.image.now c.in-Some.lists (bytes_of c.in-Some.parts) bytes c.in-Some.ensures c.read_parts.result read.error read.rows

pub returns-clause-formed : goal.returns-clause-formed
returns-clause-formed c =
    let bytes : IsBytes c.args.image.now = search (rules, c.type_inv.image) in
    let read = c.read_parts.ensures in
    parsed_formed c.args.image.now c.in-Some.lists (bytes_of c.in-Some.parts) bytes c.in-Some.ensures c.read_parts.result read.parts read.lists
