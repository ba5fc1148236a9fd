-- Changes of a table that is stored as an image.
use Rattle.zv_map2d.specs.Image.{by_bytes}
use Rattle.zv_map2d.specs.Rows.{Rows, del, put}
use Rattle.zv_callers.specs.declared.images.Entry.{Entry}
use Rattle.zv_callers.specs.declared.images.Keys.{Keys}

-- the rows with an entry, in the place of what its keys had
abbrev pub with_entry : Rows → Entry → Rows
with_entry m e = put by_bytes by_bytes m e.keys.language.now e.keys.script.now e.value.now

-- the rows without a pair of keys
abbrev pub without : Rows → Keys → Rows
without m k = del by_bytes by_bytes m k.language.now k.script.now

-- the rows after two puts and then two discards
abbrev pub changed : Rows → Entry × Entry → Keys × Keys → Rows
changed m puts discards =
    without (without (with_entry (with_entry m puts.0) puts.1) discards.0) discards.1
