-- What an iterator has left.
use Rattle.std.specs.Prelude.{ℕ, List, map, zip, slice_range}
use Rattle.zv_ule.specs.Views.{element_of}
use Rattle.zv_ule.specs.declared.kind.ZvKind.{Ghosts as KindGhosts}
use Rattle.zv_ule.specs.declared.kinds.view.VarRef.{VarRef}
use Rattle.zv_map.specs.Views.{list_of}
use Rattle.zv_map.specs.declared.copied.ZeroMapCopied.{ZeroMapCopied}
use Rattle.zv_map.specs.declared.copied.ZeroMapCopiedValues.{ZeroMapCopiedValues}
use Rattle.zv_map.specs.declared.iter.KvSliceIter.{KvSliceIter}
use Rattle.zv_map.specs.declared.iter.ZeroMapIter.{ZeroMapIter}

-- the elements that are left
abbrev pub elements_left : {T : Type 0} {kind : KindGhosts T} → KvSliceIter T kind → List (List ℕ)
elements_left it = slice_range (list_of it.list) it.next it.end

module _ {K V : Type 0} {key : KindGhosts K} {value : KindGhosts V} where
  -- the bytes of a pair
  abbrev pub pair_of : VarRef K key × VarRef V value → List ℕ × List ℕ
  pair_of p = (element_of p.0, element_of p.1)

  -- the pairs that are left
  abbrev pub left_of : ZeroMapIter K V key value → List (List ℕ × List ℕ)
  left_of it =
      zip (slice_range (list_of it.keys) it.next it.end)
      (slice_range (list_of it.values) it.next it.end)

-- a key's bytes, and a value
abbrev pub copied_value_of : {K V : Type 0} {key : KindGhosts K} → VarRef K key × V → List ℕ × V
copied_value_of p = (element_of p.0, p.1)

-- the pairs that are left, keys and values read from their bytes
abbrev pub copied_left : {K V KU VU : Type 0} {key : KindGhosts K} {value : KindGhosts V} →
    (List ℕ → K) → (List ℕ → V) → ZeroMapCopied K V KU VU key value → List (K × V)
copied_left read_key read_value it = map (λ p. (read_key p.0, read_value p.1)) (left_of it.pairs)

-- the pairs that are left, values read from their bytes
abbrev pub copied_values_left : {K V VU : Type 0} {key : KindGhosts K} {value : KindGhosts V} →
    (List ℕ → V) → ZeroMapCopiedValues K V VU key value → List (List ℕ × V)
copied_values_left read it = map (λ p. (p.0, read p.1)) (left_of it.pairs)
