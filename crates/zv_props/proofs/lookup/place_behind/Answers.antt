use Rattle.zv_props.proofs.Searches.{err_place, ok_place}
use Rattle.zv_props.proofs.lookup.place_behind.Goals as goal

pub returns-in-Ok : goal.returns-in-Ok
returns-in-Ok c = ok_place _ c.args.c c.requires.proper c.ranges.c.fits _ _ c.requires.found c.in-Ok.is

pub returns-in-Err : goal.returns-in-Err
returns-in-Err c = err_place _ c.args.c c.requires.proper c.ranges.c.fits _ _ c.requires.found c.in-Err.is
