-- Why parts are no vector, map or table.
use Rattle.std.specs.Prelude.{ℕ, List, [], ◌∷◌, length, Option}
use Rattle.std.specs.Option.{option_map, option_or}
use Rattle.zv_ule.specs.declared.error.UleError.{UleError}
use Rattle.zv_map.specs.Keys.{Order, nth}
use Rattle.zv_map1.specs.Building.{columns_fault}
use Rattle.zv_map1.specs.declared.error.VecsError.{VecsError}
use Rattle.zv_map1.specs.declared.error.VecsError.TheVariants.{Count as VecsCount}
use Rattle.zv_map1.specs.declared.error.VecsError.TheVariants.{KeyOrder as VecsKeyOrder}
use Rattle.zv_map2d.specs.Causes.{Reading, Readings, joiner_fault, lists_fault, lists_read}
use Rattle.zv_map2d.specs.Frame.{Parts}
use Rattle.zv_map2d.specs.declared.error.EditError.{EditError}
use Rattle.zv_hashmap.specs.Table.{parts_fault}
use Rattle.zv_hashmap.specs.declared.error.HashPartsError.{HashPartsError}
use Rattle.zv_framed.specs.Displacements.{displacements_fault, displacements_in}
use Rattle.zv_framed.specs.declared.error.FormError.{FormError}
use Rattle.zv_framed.specs.declared.error.FormError.TheVariants.{Frame, Part, Count, JoinerOrder}
use Rattle.zv_framed.specs.declared.error.FormError.TheVariants.{JoinerEnd, KeyOrder}

-- ---- what is wrong with lists, as the error of a frame

-- the keys and the values of a map
abbrev pub columns_error : VecsError → FormError
columns_error VecsCount = Count
columns_error VecsKeyOrder = KeyOrder

-- the lists of a map in two levels
abbrev pub rows_error : EditError → FormError
rows_error (EditError.Ule e) = Part e
rows_error EditError.Keys0Joiner = Count
rows_error EditError.Keys1Values = Count
rows_error EditError.JoinerOrder = JoinerOrder
rows_error EditError.JoinerEnd = JoinerEnd
rows_error EditError.KeyOrder = KeyOrder
rows_error e = Frame

-- the lists of a hash table
abbrev pub table_error : HashPartsError → FormError
table_error e = Count

-- ---- the first error of parts, else that of their lists

abbrev pub first_of : List (Option UleError) → Option FormError → Option FormError
first_of [] lists = lists
first_of (part ∷ parts) lists = option_or (option_map Part part) (first_of parts lists)

-- keys, values
abbrev pub map_fault : Reading → Reading → Order → List (List ℕ) → Option FormError
map_fault keys values order parts =
    first_of (keys.fault (nth parts 0) ∷ values.fault (nth parts 1) ∷ [])
    (option_map columns_error
    (columns_fault order (keys.list (nth parts 0)) (values.list (nth parts 1))))

-- the four parts of a map in two levels: first keys, joiner, second keys, values
abbrev pub four_parts : List (List ℕ) → Parts
four_parts parts = record {
  keys0 = nth parts 0;
  joiner = nth parts 1;
  keys1 = nth parts 2;
  values = nth parts 3;
}

abbrev pub map2d_fault : Readings → List (List ℕ) → Option FormError
map2d_fault r parts =
    first_of (r.keys0.fault (nth parts 0) ∷ joiner_fault (nth parts 1)
    ∷ r.keys1.fault (nth parts 2) ∷ r.values.fault (nth parts 3) ∷ [])
    (option_map rows_error (lists_fault r.order0 r.order1 (lists_read r (four_parts parts))))

-- displacements, keys, values
abbrev pub table_fault : Reading → Reading → List (List ℕ) → Option FormError
table_fault keys values parts =
    first_of (displacements_fault (nth parts 0) ∷ keys.fault (nth parts 1)
    ∷ values.fault (nth parts 2) ∷ [])
    (option_map table_error (parts_fault (length (displacements_in (nth parts 0)))
    (length (keys.list (nth parts 1))) (length (values.list (nth parts 2)))))
