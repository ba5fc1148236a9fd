use Rattle.zv_frozen.proofs.Common.{◌++◌, ◌≡◌, AllByRecursion, AreSized, IsRow, Rows, by_bytes, entries, map, rows_left}
use Rattle.zv_frozen.proofs.build.gather.Given as goal

-- with the rows that are left they are those of the map
abbrev pub invariant-loop-row : goal.invariant-loop-row
invariant-loop-row l =
    let left : Rows = map (λ c. (c.key, c.pairs)) (rows_left l.row-iterator) in
    record {
      can_next : goal.iterator-loop-row.can_next l.row-iterator;
      is_finite : goal.iterator-loop-row.is_finite l.row-iterator;
      rest : l.entries.items ++ entries left ≡ entries l.map.rows;
      rows : AllByRecursion (IsRow by_bytes) left;
      sized : AreSized l.entries.items;
    }
