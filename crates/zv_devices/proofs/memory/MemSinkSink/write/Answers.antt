use Rattle.std.proofs.Common.{◌≡◌, ◌++◌, take, rules}
use Rattle.zv_devices.proofs.memory.MemSinkSink.write.Goals as goal

pub returns-then-fails-2-clause-bytes : goal.returns-then-fails-2-clause-bytes
returns-then-fails-2-clause-bytes c =
    let grown : c.extend_from_slice.new.self.items ≡ c.args.self.now.taken ++ take c.min-count.result c.args.piece.now = search rules in
    (c.min-count.result, grown)
