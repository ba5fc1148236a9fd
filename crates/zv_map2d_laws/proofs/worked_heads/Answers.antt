use Rattle.std.specs.Char.{encode_utf8}
use Rattle.std.specs.Str.{chars, is_utf8}
use Rattle.zv_map2d_laws.proofs.worked_heads.Goals as goal

-- each by computing
pub returns : goal.returns
unfolding chars is_utf8 encode_utf8
returns c = search
