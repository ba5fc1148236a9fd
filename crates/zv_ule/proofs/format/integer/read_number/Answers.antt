use Rattle.zv_ule.proofs.Common.{◌≡◌, ap, ◌∙◌, arith, IsChunk}
use Rattle.zv_ule.specs.Bytes.{number}
use Rattle.zv_ule.proofs.Fields.{number_below}
use Rattle.zv_ule.proofs.format.integer.read_number.Goals as goal

chunk_of : (g : _) (c : goal.After-iule_to_usize g) → IsChunk g.U.ULE.width g.U.ULE.chunk_fault c.args.bytes.now
chunk_of g c = record {
  each = record { at = λ i. omega (arith, c.type_inv.bytes i) };
  long = c.requires.whole;
  good = g.met.U.IntegerULE.each_chunk c.args.bytes.now;
}

value_of : (g : _) (c : goal.After-iule_to_usize g) → c.iule_to_usize.result ≡ number c.args.bytes.now
value_of g c = c.iule_to_usize.ensures ∙ ap (λ v. number (g.U.ULE.chunk v)) c.read_chunk.ensures.read ∙
    ap number (g.met.U.ULE.spelling.again c.args.bytes.now (chunk_of g c))

pub returns-clause-value : goal.returns-clause-value
returns-clause-value g c = value_of g c

pub returns-clause-bound : goal.returns-clause-bound
returns-clause-bound g c = rw (value_of g c) (number_below g.U.ULE.width c.args.bytes.now c.requires.whole (chunk_of g c).each)
