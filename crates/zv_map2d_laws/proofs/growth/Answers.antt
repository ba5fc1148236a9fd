use Rattle.zv_map2d_laws.proofs.Sizes.{put_grows, del_shrinks, image_holds, small_fits}
use Rattle.zv_map2d_laws.proofs.growth.Goals as goal

pub returns : goal.returns
returns c = search (put_grows, del_shrinks, image_holds, small_fits)
