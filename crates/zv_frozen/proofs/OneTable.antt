-- The pairs of a map have one table.
use Rattle.zv_frozen.proofs.Common.{◌<◌, ◌∙◌, ◌≡◌, AreHome, Bytes, Chosen, Contains-get_or, IsPermutation, List, OneFrozen, Some, Table, [], ap, arith}
use Rattle.zv_frozen.proofs.Common.{ext_get_or, firsts-zip, get_or, get_or-map, get_or_default, key_hashed, keys_of, length, length-keys_of, nth, pairs_of}
use Rattle.zv_frozen.proofs.Common.{refl, seconds-zip, slot_of_key, sym, table_bytes, values_of, ℕ}
use Rattle.std.proofs.lemmas.List.Sorted.{Contains-permutation, IsPermutation-sym, IsPermutation-trans, length_permutation}

-- the key in a slot leads to it
leads : (t : Table) → length t.values ≡ length t.keys → AreHome key_hashed t → (s : ℕ) → s < length (pairs_of t) →
    slot_of_key key_hashed t (get_or (pairs_of t) s ([], [])).0 ≡ Some s
leads t long home s h =
    let keys = firsts-zip t.keys t.values long in
    let key = ap (λ ks. nth ks s) (sym keys) ∙ get_or-map (λ (p : Bytes × Bytes). p.0) (pairs_of t) s ([], []) [] h in
    rw (← key) (home s (omega (arith, h, length-keys_of (pairs_of t), ap length keys)))

module _ (t u : Table) (long_t : length t.values ≡ length t.keys) (long_u : length u.values ≡ length u.keys) (home_t : AreHome key_hashed t)
    (home_u : AreHome key_hashed u) (same : IsPermutation (pairs_of t) (pairs_of u)) (ds : t.displacements ≡ u.displacements) where
  keys_t : keys_of (pairs_of t) ≡ t.keys
  keys_t = firsts-zip t.keys t.values long_t

  keys_u : keys_of (pairs_of u) ≡ u.keys
  keys_u = firsts-zip u.keys u.values long_u

  many : length (pairs_of u) ≡ length (pairs_of t)
  many = length_permutation (pairs_of t) (pairs_of u) same

  -- a pair of one lies in the same slot of the other
  same_pair : (s : ℕ) → s < length (pairs_of t) → get_or (pairs_of t) s ([], []) ≡ get_or (pairs_of u) s ([], [])
  same_pair s h =
      let p = get_or (pairs_of t) s ([], []) in
      let (r, within, is) = Contains-permutation (pairs_of t) (pairs_of u) p same (Contains-get_or (pairs_of t) s ([], []) h) in
      let other : get_or (pairs_of u) r ([], []) ≡ p = get_or_default (pairs_of u) r ([], []) p within ∙ is in
      let two : slot_of_key key_hashed u p.0 ≡ Some r = rw other at (leads u long_u home_u r within) in
      let counts : length t.keys ≡ length u.keys =
      omega (arith, many, length-keys_of (pairs_of t), ap length keys_t, length-keys_of (pairs_of u), ap length keys_u) in
      let both : Some s ≡ Some r = sym (leads t long_t home_t s h) ∙ rw (ds, counts) two in
      let alike : s ≡ r = cc in
      sym other ∙ ap (λ i. get_or (pairs_of u) i ([], [])) (sym alike)

  pub same_bytes : table_bytes t ≡ table_bytes u
  same_bytes =
      let pairs : pairs_of t ≡ pairs_of u = ext_get_or ([], []) (pairs_of t) (pairs_of u) (sym many) same_pair in
      let keys : t.keys ≡ u.keys = sym keys_t ∙ ap keys_of pairs ∙ keys_u in
      let values : t.values ≡ u.values = sym (seconds-zip t.keys t.values long_t) ∙ ap values_of pairs ∙ seconds-zip u.keys u.values long_u in
      rw (ds, keys, values) refl

pub one_frozen : ((hs : List ℕ) (ds es : List (ℕ × ℕ)) → Chosen hs ds → Chosen hs es → ds ≡ es) → OneFrozen
one_frozen one m bytes other a b =
    let t = a.table in
    let u = b.table in
    a.framed ∙ same_bytes t u a.counts b.counts a.of_map.home b.of_map.home
    (IsPermutation-trans _ _ _ (IsPermutation-sym _ _ a.of_map.same) b.of_map.same) (one _ t.displacements u.displacements a.of_map.chosen b.of_map.chosen)
    ∙ sym b.framed
