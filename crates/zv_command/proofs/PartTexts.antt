-- Hex digits, one piece of bytes after another.
use Rattle.zv_command.proofs.HexText.{encode_lower_append}
use Rattle.zv_command.proofs.Sending.{sends_more}

pub ruleset digits_sent = (sends_more, encode_lower_append)
