-- Whether the pairs of a map can be put.
use Rattle.std.specs.Prelude.{[], Option}
use Rattle.zv_map2d.specs.Appending.{first_refusal}
use Rattle.zv_map2d.specs.Fits.{texts_rule}
use Rattle.zv_map2d.specs.Image.{by_bytes}
use Rattle.zv_map2d.specs.Rows.{Rows}
use Rattle.zv_map2d.specs.declared.error.Map2dError.{Map2dError}
use Rattle.zv_map2d_laws.specs.Overlays.{triples}

-- why the pairs of a map, put in order into the empty one, are refused
abbrev pub refusal : Rows → Option Map2dError
refusal m = first_refusal texts_rule by_bytes by_bytes [] (triples m)
