-- Worked values, computed by the definition. The digests are those of xxHash's own library.
use Rattle.std.specs.Prelude.{◌≡◌, codes, []}
use Rattle.zv_xxhash.specs.Digest.{xxh64}

abbrev pub NoBytes : Type 0
NoBytes = xxh64 0 [] ≡ 0xEF46DB3751D8E999

-- bytes alone
abbrev pub ThreeBytes : Type 0
ThreeBytes = xxh64 0 (codes "abc") ≡ 0x44BC2CF5AD770999

-- a word and half a word
abbrev pub TwelveBytes : Type 0
TwelveBytes = xxh64 0 (codes "Twelve bytes") ≡ 0xB3B7D5F3154A2FB6

-- a stripe, half a word and three bytes
abbrev pub ThirtyNineBytes : Type 0
ThirtyNineBytes =
    xxh64 0 (codes "Nobody inspects the spammish repetition") ≡ 0xFBCEA83C8A378BF1
