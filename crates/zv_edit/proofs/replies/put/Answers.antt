use Rattle.zv_edit.proofs.Common.{◌≡◌, Bool, false, true, ap, rules, if◌then◌else◌, option_map_or, fits_texts, by_bytes, find, added, old}
use Rattle.zv_edit.proofs.Common.{text, too_large}
use Rattle.zv_command.proofs.Sending.{sends_as}
use Rattle.zv_edit.proofs.replies.put.Goals as goal

pub returns-then-not-fits-clause-text : goal.returns-then-not-fits-clause-text
returns-then-not-fits-clause-text g c =
    let m = c.args.map.now.rows in
    let fit : fits_texts m c.args.key0.now c.args.key1.now c.args.value.now ≡ false = search rules in
    let found = find by_bytes by_bytes m c.args.key0.now c.args.key1.now in
    sends_as (ap (λ (b : Bool). text (if b then option_map_or old found added else too_large)) fit) c.write.ensures

pub returns-clause-text : goal.returns-clause-text
returns-clause-text g c =
    let m = c.args.map.now.rows in
    let fit : fits_texts m c.args.key0.now c.args.key1.now c.args.value.now ≡ true = search rules in
    let found = find by_bytes by_bytes m c.args.key0.now c.args.key1.now in
    sends_as (ap (λ (b : Bool). text (if b then option_map_or old found added else too_large)) fit) c.put_at.ensures.text
