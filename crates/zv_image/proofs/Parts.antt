-- The hex digits of an image are those of its parts, each after its length.
use Rattle.std.proofs.Common.{◌≡◌, ◌++◌, ℕ, List, length}
use Rattle.hex.specs.Hex.{encode_lower}
use Rattle.zv_ule.specs.Bytes.{le}
use Rattle.zv_var.specs.Frame.{framed}
use Rattle.zv_map2d.specs.Frame.{frame}
use Rattle.zv_map2d.specs.Views.{bytes_of}
use Rattle.zv_map2d.specs.declared.map.Parts.{Parts}
use Rattle.zv_command.proofs.HexText.{encode_lower_append}

pub in_two : (part : List ℕ) → encode_lower (framed part) ≡ encode_lower (le 8 (length part)) ++ encode_lower part
in_two part = encode_lower_append (le 8 (length part)) part

pub in_four : (p : Parts) → encode_lower (frame (bytes_of p)) ≡ encode_lower (framed p.keys0.now)
    ++ (encode_lower (framed p.joiner.now) ++ (encode_lower (framed p.keys1.now) ++ encode_lower (framed p.values.now)))
in_four p = simp encode_lower_append

pub after_head : (head frame : List ℕ) → encode_lower (head ++ frame) ≡ encode_lower head ++ encode_lower frame
after_head head frame = encode_lower_append head frame
