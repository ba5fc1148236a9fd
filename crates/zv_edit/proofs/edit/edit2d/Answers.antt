use Rattle.zv_edit.proofs.Common.{answers, refl, rules}
use Rattle.std.specs.Io.KnownBytes.{Appends}
use Rattle.zv_devices.specs.Devices.{AppendsPrefix}
use Rattle.zv_edit.proofs.Served.{made}
use Rattle.zv_edit.proofs.edit.edit2d.Goals as goal

pub serve-requires : goal.serve-requires
serve-requires g c = record { room = rw c.put_sizes.ensures.sizes at (made c.reserve.result c.if-is_err.ensures.value c.reserve.ensures.room) }

pub returns-in-Ok-clause-ok : goal.returns-in-Ok-clause-ok
returns-in-Ok-clause-ok g c =
    let m = c.reserve.new.map.rows in
    let text : Appends (g.K.Sink.taken c.args.sink.now) (g.K.Sink.taken c.serve.new.sink) (answers m c.args.commands.now) = search rules in
    (_, (m, rw c.reserve.ensures.rows c.in_ok-map.ensures.map, refl), text)

pub returns-clause-in_part : goal.returns-clause-in_part
returns-clause-in_part g c =
    let m = c.reserve.new.map.rows in
    let text : AppendsPrefix (g.K.Sink.taken c.args.sink.now) (g.K.Sink.taken c.serve.new.sink) (answers m c.args.commands.now) = search rules in
    λ _. (_, (m, rw c.reserve.ensures.rows c.in_ok-map.ensures.map, refl), text)
