-- Worked rows of the definitions, computed.
use Rattle.zv_layers.proofs.Common.{◌++◌, ◌∷◌, ◌≡◌, List, None, Rows, Some, [], codes, layer_line, map, overlay, refl, replicate, triples, with_layer, ℕ}
use Rattle.hex.specs.Hex.{decode_pairs}
use Rattle.std.specs.Fmt.{digits}
use Rattle.zv_map2d.specs.declared.error.EditError.TheVariants.{Frame}

-- a row of pairs whose keys and values are a byte each
abbrev one_row : ℕ → List (ℕ × ℕ) → Rows
one_row k ps = (k ∷ [], map (λ p. (p.0 ∷ [], p.1 ∷ [])) ps) ∷ []

-- the pairs of two rows
pairs : triples (one_row 97 ((98, 1) ∷ (99, 2) ∷ []) ++ one_row 98 ((97, 3) ∷ []))
    ≡ (97 ∷ [], 98 ∷ [], 1 ∷ []) ∷ (97 ∷ [], 99 ∷ [], 2 ∷ []) ∷ (98 ∷ [], 97 ∷ [], 3 ∷ []) ∷ []
pairs = refl

-- a row over another of its key; rows before and after
same_row : overlay (one_row 97 ((98, 1) ∷ (100, 4) ∷ [])) (one_row 97 ((97, 5) ∷ (98, 6) ∷ (101, 7) ∷ []))
    ≡ one_row 97 ((97, 5) ∷ (98, 6) ∷ (100, 4) ∷ (101, 7) ∷ [])
same_row = refl

other_rows : overlay (one_row 98 ((98, 1) ∷ [])) (one_row 97 ((97, 5) ∷ []) ++ one_row 99 ((97, 6) ∷ []))
    ≡ one_row 97 ((97, 5) ∷ []) ++ one_row 98 ((98, 1) ∷ []) ++ one_row 99 ((97, 6) ∷ [])
other_rows = refl

-- lines that are added: a field, a word that is none, and the last two that may come
lines : map (λ (l : List (List ℕ) × List ℕ). with_layer l.0 l.1)
    (([], codes "x01") ∷ ([], codes "x0") ∷ (replicate 62 [], codes "x") ∷ (replicate 63 [], codes "x") ∷ [])
    ≡ Some ((1 ∷ []) ∷ []) ∷ None ∷ Some (replicate 63 []) ∷ None ∷ []
unfolding decode_pairs
lines = refl

fault_line : layer_line 2 Frame ≡ codes "error layer 2 frame" ++ 10 ∷ []
unfolding digits
fault_line = refl
