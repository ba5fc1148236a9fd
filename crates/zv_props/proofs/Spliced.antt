-- Rows put in place of others, by their bytes.
use Rattle.zv_props.proofs.Common.{◌≡◌, ℕ, ◌+◌, ◌*◌, ◌≤◌, List, ◌++◌, length, take, drop, map, None, refl, ◌∙◌, ap, arith, Row, row, rows_of, length-map}
use Rattle.zv_props.proofs.Common.{AllByRecursion, table_bytes}
use Rattle.std.specs.List.{splice}
use Rattle.zv_fixed.proofs.ChunkEdits.{AreChunks, are_chunks, joined, map_splice, no_fault, parted, start_within, they_are}
use Rattle.zv_ule.specs.Chunks.{chunks_of}
use Rattle.zv_ule.specs.Fixed.{IsSpelling}
use Rattle.zv_ule.specs.laws.Joined.{joined_values}
use Rattle.zv_ule.specs.laws.PairSpellings.{both_spelling}
use Rattle.zv_ule.specs.laws.Spellings.{held_spelling, raw_spelling, through_twin}
use Rattle.zv_ule.specs.laws.Twins.{number_twin, u32_twin}
use Rattle.zv_ule.specs.declared.error.TyName.TheVariants.{Tuple3}
use Rattle.zv_ule.proofs.Lists.{joined_fault}
use Rattle.zv_props.specs.Stored.{IsStored, chunk, chunk_fault, list_fault}

-- a row and its ten bytes
row_spelling : IsSpelling IsStored 10 chunk_fault chunk row
row_spelling =
    let four = through_twin u32_twin (raw_spelling 4) in
    let two = through_twin (number_twin 1) (raw_spelling 2) in
    held_spelling (both_spelling four (both_spelling four two)) (λ r. (r.0, (r.1, r.2))) (λ p. (p.0, p.1.0, p.1.1)) (λ _. refl) (λ _. refl)

-- where a row begins in bytes
pub ruleset row_starts = (start_within, length-map)

-- rows in place of those from one place up to another
module _ (old new : List ℕ) (mid : List Row) (start end : ℕ) (order : start ≤ end) (within : end ≤ length (rows_of old)) (good : list_fault old ≡ None)
    (stored : AllByRecursion IsStored mid) (is : new ≡ splice old (start * 10) (end * 10) (table_bytes mid)) where
  parts : AreChunks 10 chunk_fault new (splice (chunks_of 10 old) start end (chunks_of 10 (table_bytes mid)))
  parts =
      let count : length (rows_of old) ≡ length (chunks_of 10 old) = simp length-map in
      let all = are_chunks {f = chunk_fault} Tuple3 old good in
      let few = are_chunks {f = chunk_fault} Tuple3 (table_bytes mid) (joined_fault row_spelling Tuple3 mid stored (omega arith)) in
      rw is (joined (parted start all (omega arith)).0 (joined few (parted end all (omega arith)).1))

  pub spliced_rows : rows_of new ≡ take start (rows_of old) ++ (mid ++ drop end (rows_of old))
  spliced_rows =
      ap (map row) (they_are refl parts) ∙ map_splice row (chunks_of 10 old) start end (chunks_of 10 (table_bytes mid))
      ∙ ap (λ m. take start (rows_of old) ++ (m ++ drop end (rows_of old))) (joined_values row_spelling mid stored (omega arith))

  pub spliced_good : list_fault new ≡ None
  spliced_good = no_fault Tuple3 refl parts

pub ruleset splices = (spliced_rows, spliced_good)
