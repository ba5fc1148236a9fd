use Rattle.zv_var.proofs.Common.{ℕ, ◌+◌, length, arith, rules, ap, ◌∙◌, le, suc-mul, ◌*◌, ◌-◌, ◌≤◌}
use Rattle.std.proofs.Math.Nat.{mul-le-mul_right}
use Rattle.zv_var.proofs.Serialized.{spelled_more, start_more, starts_written, within}
use Rattle.zv_var.proofs.serialize.write_starts.Goals as goal

pub overflow_add-start : goal.overflow_add-start
overflow_add-start g c = grind (arith, within g.A.EncodeAsVarULE.spelling c.args.elements.now c.loop-index.index, g.F.VarZeroVecFormat.field_small)

pub write_start-requires-clause-fits : goal.write_start-requires-clause-fits
write_start-requires-clause-fits g c = grind (arith, within g.A.EncodeAsVarULE.spelling c.args.elements.now c.loop-index.index)

pub slice_bounds-write_start-end : goal.slice_bounds-write_start-end
slice_bounds-write_start-end g c =
    let k : (c.loop-index.index + 1) * g.F.VarZeroVecFormat.W ≤ (length c.args.elements.now - 1) * g.F.VarZeroVecFormat.W = mul-le-mul_right _ (omega arith) in
    omega (arith, suc-mul c.loop-index.index g.F.VarZeroVecFormat.W)

pub loop-index-preserved : goal.loop-index-preserved
loop-index-preserved g c =
    let kept = c.loop-index.invariant in
    let f = g.A.EncodeAsVarULE.spelling in
    let xs = c.args.elements.now in
    let x = c.index-elements-index.result in
    let w = g.F.VarZeroVecFormat.W in
    record {
      long = search rules;
      at = omega (arith, suc-mul c.loop-index.index w);
      start = omega (arith, spelled_more f xs c.loop-index.index x (omega arith) c.index-elements-index.is);
      done = start_more f w xs c.W-width.result c.loop-index.index c.loop-index.at c.loop-index.start x c.loop-index.out c.write_start.new.field (omega arith)
          c.index-elements-index.is c.W-width.ensures kept.at kept.start kept.long
          (c.write_start.ensures ∙ ap (λ (n : ℕ). le w (c.loop-index.start + n)) c.encode_var_ule_len-start.ensures.len) kept.done;
    }

pub returns : goal.returns
returns g c = let end = c.loop-index.invariant in
    starts_written g.A.EncodeAsVarULE.spelling g.F.VarZeroVecFormat.W c.args.elements.now c.loop-index.index c.loop-index.at c.loop-index.out
    end.at (omega arith) end.long end.done
