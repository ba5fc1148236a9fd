use Rattle.zv_frozen.proofs.Common.{◌≡◌, IsFrozen, List, false_from_ne_true, refl, rules, tells_sent, told, ℕ}
use Rattle.zv_frozen.specs.Placed.{is_placed}
use Rattle.zv_frozen.specs.RequestLines.{frozen_line}
use Rattle.zv_frozen.specs.Requests.{freeze_due, key_hashes}
use Rattle.zv_frozen.proofs.Placements.{chosen_of, placed}
use Rattle.zv_frozen.proofs.form.answer_map.Goals as goal

pub returns-in-Ok : goal.returns-in-Ok
unfolding freeze_due
returns-in-Ok g c =
    let m = c.args.map.now.rows in
    let is = c.in-Ok.ensures.frozen in
    rw (c.requires.sound, ← c.requires.rows, is.of_map.taken, placed (key_hashes m) is.table.displacements is.of_map.chosen)
    (told (λ text. (b : List ℕ) × IsFrozen m b × (text ≡ frozen_line b)) _ _ (c.in-Ok.bytes.items, is, refl)
    (rw c.deref.ensures.value at c.tell_frozen.ensures.text) c.tell_frozen.ensures.cause c.status_of.ensures)

pub returns-in-Err-TooLarge : goal.returns-in-Err-TooLarge
unfolding freeze_due
returns-in-Err-TooLarge g c =
    let large = rw c.in-Err-TooLarge.field-0-is at c.in-Err-TooLarge.ensures.frozen in
    rw (c.requires.sound, ← c.requires.rows, large) (tells_sent _ refl refl c.send.ensures.sent c.send.ensures.later)

pub returns-in-Ok-format : goal.returns-in-Ok-format
unfolding freeze_due
returns-in-Ok-format g c =
    let m = c.args.map.now.rows in
    let bucket = c.in-Err-NoPlace.bucket in
    let is = rw c.in-Err-NoPlace.field-0-is at c.in-Err-NoPlace.ensures.frozen in
    let stuck = false_from_ne_true (is_placed (key_hashes m))
    (λ e. let (ds, chosen) = chosen_of (key_hashes m) e in c.stuck_bucket.ensures.none (key_hashes m) ds bucket chosen is.1) in
    rw (c.requires.sound, ← c.requires.rows, is.0, stuck)
    (tells_sent c.as_bytes.result.now refl (bucket, is.1, search rules) c.send-in-Err-NoPlace.ensures.sent c.send-in-Err-NoPlace.ensures.later)
