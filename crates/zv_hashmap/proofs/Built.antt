-- A table whose keys and values went where a placement says.
use Rattle.zv_hashmap.proofs.Common.{◌≡◌, ℕ, ◌<◌, ◌^◌, Bool, true, List, [], length, map, Result, Err, IfErr, arith, refl}
use Rattle.zv_hashmap.proofs.Common.{length-map, get_or-map, range_with_len, IsTotalOrder, IsPermutation, IsPermutation-map, Ordering, AreHome, Table, pairs_of}
use Rattle.zv_hashmap.proofs.Common.{key_hash, Bytes, nth, keys_of, values_of, permuted}
use Rattle.std.specs.Prelude.{IfOk, MatchResult}
use Rattle.std.proofs.Common.{◌∷◌, get_or, Ok}
use Rattle.std.proofs.Math.ListN.{get_or-map as get_or_of_map}
use Rattle.std.proofs.lemmas.List.{get_or_default, same_lists}
use Rattle.std.proofs.lemmas.List.FromFn.{get_or-map-range_with_len, length-map-range_with_len}
use Rattle.std.proofs.lemmas.Map.Entries.{length-keys_of}
use Rattle.std.specs.List.{zip}
use Rattle.zv_hash.specs.declared.error.HashError.{HashError}
use Rattle.zv_hash.specs.declared.error.HashError.TheVariants.{Memory}
use Rattle.zv_hashmap.proofs.Lookups.{AreHashedAlike, answers}
use Rattle.zv_hashmap.specs.Building.{IsNoTable, IsPlacement, IsTableOf, hashes_of}

-- the entry at a place
abbrev entry_at : List (Bytes × Bytes) → ℕ → Bytes × Bytes
entry_at es i = get_or es i ([], [])

-- the entries at places, as their keys and their values
zip_places : (es : List (Bytes × Bytes)) (places : List ℕ) → zip (permuted (keys_of es) places) (permuted (values_of es) places) ≡ map (entry_at es) places
zip_places es [] = refl
zip_places es (i ∷ is) = λ j. (get_or_of_map (λ e. e.0) es i ([], []) j, get_or_of_map (λ e. e.1) es i ([], []) j) ∷ zip_places es is j

-- entries at all places are all
all_places : (es : List (Bytes × Bytes)) → map (entry_at es) (range_with_len 0 (length es)) ≡ es
all_places es =
    let long = length-map-range_with_len (entry_at es) 0 (length es) in
    same_lists _ es long (λ k d h. grind (arith, get_or_default, get_or-map-range_with_len, long))

module _ (order : Bytes → Bytes → Ordering) (total : IsTotalOrder order) (hashed : List ℕ → List ℕ) (alike : AreHashedAlike order hashed)
    (pairs : List (Bytes × Bytes)) (fits : Bool) (few : length pairs < 2 ^ 32) (taken : fits ≡ true) (ds : List (ℕ × ℕ)) (places : List ℕ) where
  module _ (t : Table) (placement : IsPlacement order hashed (keys_of pairs) t.displacements places)
      (keys : t.keys ≡ permuted (keys_of pairs) places) (values : t.values ≡ permuted (values_of pairs) places) where
    home : AreHome hashed t
    home s h =
        let hs = hashes_of hashed (keys_of pairs) in
        let long : length t.keys ≡ length hs = rw (keys, length-map places (nth (keys_of pairs))) placement.placed.len in
        let within = placement.placed.within s (omega (arith, h, long)) in
        let hash : get_or hs (get_or places s 0) 0 ≡ key_hash hashed (nth t.keys s) = grind (arith, get_or-map, length-map, within, placement.placed.len) in
        rw (long, ← hash) (placement.placed.slots s (omega (arith, h, long)))

    same : IsPermutation pairs (pairs_of t)
    same =
        let all : IsPermutation (range_with_len 0 (length pairs)) places = rw length-keys_of at placement.permutation in
        rw (keys, values, zip_places) (rw (all_places pairs) at (IsPermutation-map (entry_at pairs) _ places all))

    built : IsTableOf order hashed fits pairs t
    built = record {
      few = few;
      taken = taken;
      apart = rw length-keys_of at placement.apart;
      chosen = placement.chosen;
      same = same;
      home = home;
      answers = answers order total hashed alike t (simp (keys, values, length-map)) home pairs same;
    }

  pub built_or_memory : IsPlacement order hashed (keys_of pairs) ds places → (r : Result Table HashError) → IfOk r (λ t. t.displacements ≡ ds)
      → IfOk r (λ t. t.keys ≡ permuted (keys_of pairs) places) → IfOk r (λ t. t.values ≡ permuted (values_of pairs) places) → IfErr r (λ e. e ≡ Memory)
      → MatchResult r (IsTableOf order hashed fits pairs) (IsNoTable order hashed fits pairs)
  built_or_memory placement (Ok t) displacements keys values err = built t (rw displacements placement) keys values
  built_or_memory placement (Err e) displacements keys values err = rw err tt
