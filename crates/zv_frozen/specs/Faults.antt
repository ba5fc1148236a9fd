-- Why a map is not frozen, and why bytes are no frozen image.
use Rattle.std.specs.Prelude.{◌≡◌, ⊤, ℕ, suc, ◌==◌, Bool, ◌&&◌, false, true, List, [], ◌∷◌, length}
use Rattle.std.specs.Prelude.{Option, Some, None, if◌then◌else◌}
use Rattle.std.specs.Option.{option_map, option_map_or, option_or}
use Rattle.zv_hash.specs.Placement.{IsStuck}
use Rattle.zv_hash.specs.declared.error.HashError.{HashError}
use Rattle.zv_hashmap.specs.Building.{hashes_of}
use Rattle.zv_hashmap.specs.Hashed.{key_hash}
use Rattle.zv_hashmap.specs.Table.{slot_of_hash}
use Rattle.zv_map.specs.Keys.{Bytes, nth}
use Rattle.zv_map.specs.Maps.{keys_of}
use Rattle.zv_map2d.specs.Rows.{Rows}
use Rattle.zv_framed.specs.Faults.{table_fault}
use Rattle.zv_framed.specs.Displacements.{displacements_in}
use Rattle.zv_framed.specs.Frames.{form_fault, parts_in}
use Rattle.zv_framed.specs.declared.error.FormError.{FormError}
use Rattle.zv_frozen.specs.Keys.{is_key, key_hashed}
use Rattle.zv_frozen.specs.Tables.{entries, fit16, list16}
use Rattle.zv_frozen.specs.declared.error.FreezeError.{FreezeError}
use Rattle.zv_frozen.specs.declared.error.FreezeError.TheVariants.{TooLarge, NoPlace, Memory}
use Rattle.zv_frozen.specs.declared.error.FrozenError.{FrozenError}
use Rattle.zv_frozen.specs.declared.error.FrozenError.TheVariants.{Frame, Part, Count, Key, Lies}

-- why a map is not frozen: its lists would be too large; or they are not, and a bucket is stuck;
-- but an allocation may fail at any point
abbrev pub IsNotFrozen : Rows → FreezeError → Type 0
IsNotFrozen m TooLarge = fit16 (entries m) ≡ false
IsNotFrozen m (NoPlace bucket) =
    (fit16 (entries m) ≡ true) × IsStuck (hashes_of key_hashed (keys_of (entries m))) bucket
IsNotFrozen m Memory = ⊤

-- the error of a map for that of the table of its pairs, whose keys don't repeat
abbrev pub freeze_error : HashError → FreezeError
freeze_error (HashError.NoPlace bucket) = NoPlace bucket
freeze_error HashError.Memory = Memory
freeze_error e = TooLarge

-- the error of bytes that are not the framed form of a hash table
abbrev pub frame_error : FormError → FrozenError
frame_error (FormError.Part e) = Part e
frame_error FormError.Count = Count
frame_error e = Frame

abbrev pub frame_fault : List ℕ → Option FrozenError
frame_fault bytes = option_map frame_error (form_fault 3 (table_fault list16 list16) bytes)

-- the place of the first key that is not, counted on from n
abbrev pub first_no_key : ℕ → List Bytes → Option ℕ
first_no_key n [] = None
first_no_key n (k ∷ ks) = if is_key k then first_no_key (suc n) ks else Some n

-- whether a slot is the one that a key leads to, in a table of n slots with these displacements
abbrev pub is_slot : ℕ → Option ℕ → Bool
is_slot s None = false
is_slot s (Some r) = r == s

-- whether each key leads to its slot, the first of them to slot s
abbrev pub are_home : List (ℕ × ℕ) → ℕ → ℕ → List Bytes → Bool
are_home ds n s [] = true
are_home ds n s (k ∷ ks) =
    is_slot s (slot_of_hash ds n (key_hash key_hashed k)) && are_home ds n (suc s) ks

-- why a table with these displacements and keys is not that of a frozen image
abbrev pub keys_fault : List (ℕ × ℕ) → List Bytes → Option FrozenError
keys_fault ds ks = option_or (option_map Key (first_no_key 0 ks))
    (if are_home ds (length ks) 0 ks then None else Some Lies)

-- the same of the parts of a frame
abbrev pub parts_fault : List (List ℕ) → Option FrozenError
parts_fault ps = keys_fault (displacements_in (nth ps 0)) (list16.list (nth ps 1))

-- why bytes are no frozen image: they are not the framed form of a table, or one of such keys
abbrev pub frozen_fault : List ℕ → Option FrozenError
frozen_fault bytes =
    option_or (frame_fault bytes) (option_map_or parts_fault (parts_in 3 bytes) None)
