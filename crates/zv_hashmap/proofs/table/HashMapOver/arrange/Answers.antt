use Rattle.zv_hashmap.proofs.Common.{◌≡◌, length, arith, length-map}
use Rattle.std.proofs.lemmas.List.Sorted.{length_permutation}
use Rattle.std.proofs.lemmas.List.FromFn.{length-range_with_len}
use Rattle.zv_hashmap.proofs.table.HashMapOver.arrange.Goals as goal

pub invariant_of-result : goal.invariant_of-result
invariant_of-result g c =
    let long = length_permutation _ _ c.requires.places in
    let keys : length (g.C.ZeroVecLike.list c.permute_both.new.keys) ≡ length (g.C.ZeroVecLike.list c.args.keys) =
    grind (arith, c.in-Ok.ensures.keys, c.deref.ensures.value, length-map, length-range_with_len, long) in
    let values : length (g.D.ZeroVecLike.list c.permute_both.new.values) ≡ length (g.C.ZeroVecLike.list c.args.keys) =
    grind (arith, c.in-Ok.ensures.values, c.deref.ensures.value, length-map, length-range_with_len, long) in
    record {
      keys = c.requires.usable_keys;
      values = c.requires.usable_values;
      value_count = omega (arith, keys, values);
      displacement_count = rw (c.in-Ok-alloc_from_slice.ensures.values, c.deref-2.ensures.value) (omega (arith, keys, c.requires.displacements));
      few = omega (arith, keys, c.requires.few);
    }
