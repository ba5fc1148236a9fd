use Rattle.std.proofs.Common.{◌<◌, ◌++◌, length, ◌∙◌, sym, arith, length-append}
use Rattle.zv_xxhash.proofs.Pieces.{holds_more, lanes_few, left_few, few_flag, many_flag}
use Rattle.zv_xxhash.proofs.hasher.XxHash64.write.Goals as goal

pub returns-then-bytes-len : goal.returns-then-bytes-len
returns-then-bytes-len c = λ seed written held.
    let both = c.args.self.now.pending ++ c.args.bytes.now in
    let few : length both < 32 = omega (arith, length-append c.args.self.now.pending c.args.bytes.now) in
    holds_more c.args.self.now seed written c.args.bytes.now _ _ _ held (sym (lanes_few c.args.self.now.lanes both few))
    (c.push.ensures ∙ sym (left_few both few)) (few_flag c.args.self.now.is_striped _ (omega arith))

pub returns : goal.returns
returns c = λ seed written held.
    holds_more c.args.self.now seed written c.args.bytes.now _ _ _ held c.take_stripes.ensures.lanes
    c.take_stripes.ensures.left (many_flag c.args.self.now.is_striped _ (omega arith))
