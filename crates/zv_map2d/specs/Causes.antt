-- Why four parts are no map: the causes in their order.
use Rattle.std.specs.Prelude.{ℕ, ◌==◌, not, Bool, true, false, ◌&&◌, nat_lt, List, [], ◌∷◌, length}
use Rattle.std.specs.Prelude.{Option, Some, None, is_none, option_map, unwrap_or, if◌then◌else◌}
use Rattle.std.specs.Int.{w32, from_le_bytes}
use Rattle.std.specs.List.{list_all}
use Rattle.std.specs.Option.{option_or}
use Rattle.zv_ule.specs.Chunks.{chunks_fault, values_of}
use Rattle.zv_ule.specs.declared.error.TyName.{TyName}
use Rattle.zv_ule.specs.declared.error.UleError.{UleError}
use Rattle.zv_var.specs.Format.{pieces}
use Rattle.zv_map2d.specs.Keys.{Bytes, Order, ascends}
use Rattle.zv_map2d.specs.Rows.{Rows, rows_of}
use Rattle.zv_map2d.specs.Frame.{Parts}
use Rattle.zv_map2d.specs.declared.error.EditError.{EditError}

-- ---- what parts are read as

-- how a container reads a part: its error, and the list that a part without an error stands for
pub record Reading : Type 0 where
  pub fault : Bytes → Option UleError
  pub list : Bytes → List Bytes

-- how a map's first keys, second keys and values are read, and the orders of its keys
pub record Readings : Type 0 where
  pub keys0 : Reading
  pub keys1 : Reading
  pub values : Reading
  pub order0 : Order
  pub order1 : Order

abbrev pub reading : (Bytes → Option UleError) → (Bytes → List Bytes) → Reading
reading fault list = record { fault = fault; list = list }

abbrev pub readings : Reading → Reading → Reading → Order → Order → Readings
readings keys0 keys1 values order0 order1 =
    record { keys0 = keys0; keys1 = keys1; values = values; order0 = order0; order1 = order1 }

-- the error of a joiner that is no list of numbers of four bytes
abbrev pub joiner_fault : List ℕ → Option UleError
joiner_fault joiner = chunks_fault TyName.RawBytes4 4 (λ chunk. None) joiner

-- the numbers of a joiner
abbrev pub numbers : List ℕ → List ℕ
numbers joiner = values_of 4 (λ chunk. from_le_bytes w32 chunk) joiner

-- four lists: first keys, ends of the rows, second keys, values
pub record Lists : Type 0 where
  pub keys0 : List Bytes
  pub joiner : List ℕ
  pub keys1 : List Bytes
  pub values : List Bytes

-- the lists that parts are read as
abbrev pub lists_read : Readings → Parts → Lists
lists_read r p = record {
  keys0 = r.keys0.list p.keys0;
  joiner = numbers p.joiner;
  keys1 = r.keys1.list p.keys1;
  values = r.values.list p.values;
}

-- the map that parts are read as
abbrev pub rows_read : Readings → Parts → Rows
rows_read r p = rows_of (r.keys0.list p.keys0) (numbers p.joiner) (r.keys1.list p.keys1)
    (r.values.list p.values)

-- ---- the tests

-- the last number, or n where there is none, if each is above the one before, the first above n
abbrev pub last_ascending : ℕ → List ℕ → Option ℕ
last_ascending n [] = Some n
last_ascending n (e ∷ es) = if nat_lt n e then last_ascending e es else None

-- the first keys ascend, and the second keys of each row
abbrev pub keys_ascend : Order → Order → Lists → Bool
keys_ascend order0 order1 l =
    ascends order0 l.keys0 && list_all (ascends order1) (pieces l.keys1 0 l.joiner)

-- ---- the causes

-- why lists are those of no map: first keys and ends are not as many; nor are second keys and
-- values; the ends don't ascend from above 0; the last isn't the number of second keys; keys don't
-- ascend
abbrev pub lists_fault : Order → Order → Lists → Option EditError
lists_fault order0 order1 l =
    if not (length l.keys0 == length l.joiner) then Some EditError.Keys0Joiner
    else (if not (length l.keys1 == length l.values) then Some EditError.Keys1Values
    else (if is_none (last_ascending 0 l.joiner) then Some EditError.JoinerOrder
    else (if not (unwrap_or (last_ascending 0 l.joiner) 0 == length l.keys1)
    then Some EditError.JoinerEnd
    else (if not (keys_ascend order0 order1 l) then Some EditError.KeyOrder
    else None))))

-- why parts are those of no map: the joiner's own error, then that of another part in their order,
-- then the first cause that lies in the lists
abbrev pub read_fault : Readings → Parts → Option EditError
read_fault r p = option_or (option_map EditError.Ule (joiner_fault p.joiner))
    (option_or (option_map EditError.Ule (r.keys0.fault p.keys0))
    (option_or (option_map EditError.Ule (r.keys1.fault p.keys1))
    (option_or (option_map EditError.Ule (r.values.fault p.values))
    (lists_fault r.order0 r.order1 (lists_read r p)))))

-- ---- errors

-- whether an error lies in the image, and neither in memory nor in a sink
abbrev pub is_cause : EditError → Bool
is_cause EditError.Memory = false
is_cause EditError.Write = false
is_cause e = true

-- whether an error lies in the parts of an image
abbrev pub is_parts_cause : EditError → Bool
is_parts_cause EditError.Frame = false
is_parts_cause e = is_cause e
