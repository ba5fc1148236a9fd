-- Kinds of usable parts are usable.
use Rattle.std.specs.Prelude.{◌&&◌, Bool, IsTrue, refl}

pub both : {a b : Bool} → IsTrue a → IsTrue b → IsTrue (a && b)
both h k = rw (h, k) refl
