use Rattle.zv_edit.proofs.Common.{◌≡◌, ◌++◌, ◌∙◌, List, ℕ, refl, length, Rows, take_all}
use Rattle.zv_edit.proofs.Common.{sym, ap, rules, arith, frame, canon, bytes_of, last, reply_lines, image_line}
use Rattle.zv_map2d.proofs.Formed.{settled_lists, settled_parts}
use Rattle.zv_map2d.specs.Formats.{head_of}
use Rattle.zv_edit.proofs.Served.{at_err}
use Rattle.zv_command.proofs.Sending.{sends_as, sends_then}
use Rattle.zv_map2d.specs.Frame.{Parts}
use Rattle.zv_map2d.specs.Image.{spelling_in, wides_of}
use Rattle.zv_map2d.specs.declared.image.WideLists.{WideLists}
use Rattle.zv_edit.proofs.serving.write_answer.Goals as goal

-- the canonical image is written of the formats that the lists need
canon_written : (m : Rows) (w : WideLists) (p : Parts) → w ≡ wides_of m → p ≡ spelling_in (wides_of m) m → canon m ≡ head_of w ++ frame p
canon_written m w p lists parts = rw (lists, parts) refl

pub returns-clause-text : goal.returns-clause-text
returns-clause-text g c =
    let m = c.args.map.now.rows in
    let cs = c.args.commands in
    let ran : c.run_commands.new.map.rows ≡ last m cs = search rules in
    let layouts = c.settle.ensures.layouts in
    let lists = c.wide_lists.ensures ∙ settled_lists _ layouts in
    let parts = c.canon_parts.ensures.written ∙ settled_parts _ layouts in
    let image : canon (last m cs) ≡ head_of c.wide_lists.result ++ frame (bytes_of c.canon_parts.result) =
    ap canon (sym (c.settle.ensures.rows ∙ ran)) ∙ canon_written _ _ _ lists parts in
    sends_as (ap (λ (i : List ℕ). reply_lines m cs ++ image_line i) image)
    (sends_then c.run_commands.ensures.text (search rules) c.write_image.ensures.text)

pub returns-clause-failed : goal.returns-clause-failed
returns-clause-failed g c =
    let cs = c.args.commands in
    let ran : c.run_commands.new.map.rows ≡ last c.args.map.now.rows cs = search rules in
    at_err c.write_image.result (length cs, c.settle.ensures.rows ∙ ran ∙ ap (last c.args.map.now.rows) (sym (take_all (length cs) cs (omega arith))))
