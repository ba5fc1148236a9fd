-- The key of two texts that are at hand.
use Rattle.zv_map.specs.Keys.{Bytes}
use Rattle.zv_frozen.specs.Keys.{pair_key}
use Rattle.zv_frozen.specs.declared.key.PairKey.{PairKey}

-- the bytes of the key
abbrev pub key_of : PairKey → Bytes
key_of k = pair_key k.key0.now k.key1.now
