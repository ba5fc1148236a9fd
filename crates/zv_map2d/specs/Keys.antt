-- Lists of keys, as the containers have them.
pub use Rattle.zv_map.specs.Keys.{Bytes, Order, nth, below_next, ascends}
