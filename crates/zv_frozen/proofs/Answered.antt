-- A frozen image is parsed, answers as its map does, and thaws to it.
use Rattle.zv_frozen.proofs.Common.{◌∙◌, ◌∷◌, ◌≡◌, All, All-from_recursion, AllByRecursion, AnswersAs, AreHome, Bytes, FormError, IfSome, IsKey, IsReadAs}
use Rattle.zv_frozen.proofs.Common.{IsReadTable, IsSameTable, IsSound, IsTableFor, IsWell, List, None, Option, Rows, Some, Table, [], by_bytes, entries}
use Rattle.zv_frozen.proofs.Common.{false, first_no_key, firsts-zip, form_fault, found, found_same, key_hashed, key_order, keys_of, length, list16, look_up}
use Rattle.zv_frozen.proofs.Common.{map, none_well, nth, option_map_or, pairs_of, parts_in, puts_in_order, recursion_from_All, refl, suc, table_fault}
use Rattle.zv_frozen.proofs.Common.{thawed, triples, triples_of, true, values_of, ℕ}
use Rattle.std.proofs.lemmas.Map.Views.{All-map-IsPermutation}
use Rattle.zv_framed.specs.Displacements.{displacements_in}
use Rattle.zv_map.specs.Keys.{IsElementOf}
use Rattle.zv_map.specs.Vectors.{Vector}
use Rattle.zv_map.specs.declared.view.Layout.TheVariants.{Index16}
use Rattle.zv_map2d.specs.Elements.{AreElements}
use Rattle.zv_map2d_laws.proofs.FiniteMap.{rows_keys}
use Rattle.zv_ule.specs.Kinds.{text_fault}
use Rattle.zv_frozen.proofs.Keys.{key_shown, passes}
use Rattle.zv_frozen.proofs.Parsed.{keys_are, read_fault}
use Rattle.zv_frozen.proofs.Thawed.{AreShort, found_as_in_map, shorts, thawed_alike}

-- ---- the keys of a map's table

map_keys : (m : Rows) → AllByRecursion (IsElementOf text_fault) (keys_of m) →
    AllByRecursion (λ ps. AllByRecursion (IsElementOf text_fault) (keys_of ps)) (values_of m) → AreShort (triples m) →
    AllByRecursion IsKey (keys_of (entries m))
map_keys [] t0 t1 short = tt
map_keys ((k, []) ∷ m) t0 t1 short = map_keys m t0.1 t1.1 short
map_keys ((k, p ∷ ps) ∷ m) t0 t1 short =
    (key_shown (record { text0 = t0.0.valid; text1 = t1.0.0.valid; short = short.0; is = refl }), map_keys ((k, ps) ∷ m) t0 (t1.0.1, t1.1) short.1)

none_bad : (n : ℕ) (ks : List Bytes) → AllByRecursion IsKey ks → first_no_key n ks ≡ None
none_bad n [] keys = refl
none_bad n (k ∷ ks) keys = rw (passes keys.0) (none_bad (suc n) ks keys.1)

module _ (m : Rows) (well : IsWell by_bytes by_bytes m) (elements : AreElements text_fault text_fault m) (t : Table)
    (counts : length t.values ≡ length t.keys) (of_map : IsTableFor m t) (home_tables : (t : Table) → length t.values ≡ length t.keys →
    AreHome key_hashed t → (key : Bytes) → found key_order key_hashed t key ≡ look_up key_order (pairs_of t) key) where
  keys : All IsKey t.keys
  keys =
      let given = map_keys m elements.firsts (rows_keys _ m elements.seconds) (shorts m of_map.taken) in
      rw (firsts-zip t.keys t.values counts) at (All-map-IsPermutation (λ (e : Bytes × Bytes). e.0) IsKey (entries m) (pairs_of t) of_map.same
      (All-from_recursion IsKey (keys_of (entries m)) given))

  sound : IsSound t
  sound = record { keys = λ s h. keys s [] h; home = of_map.home }

  thaws : thawed t ≡ m
  thaws =
      found_same (thawed t) m (puts_in_order [] (triples_of t) (none_well by_bytes by_bytes refl)) well
      (λ k0 k1. thawed_alike home_tables t counts sound k0 k1 ∙ found_as_in_map m well t of_map k0 k1)

  module _ (bytes : List ℕ) (formed : form_fault 3 (table_fault list16 list16) bytes ≡ None) (same : (u : Table) → IsReadAs bytes u → IsSameTable t u) where
    abbrev vector_in : List ℕ → Vector
    vector_in b = record { bytes = b; layout = Index16; spare = 0; owned = false; ready = false }

    -- a table is read from the bytes
    table_in : (parts : Option (List (List ℕ))) → option_map_or (table_fault list16 list16) parts (Some FormError.Frame) ≡ None →
        (u : Table) × IfSome parts (λ ps. IsReadTable list16 list16 ps u)
    table_in None none = absurd cc
    table_in (Some ps) none = (
      record {
        displacements = displacements_in (nth ps 0);
        keys = list16.list (nth ps 1);
        values = list16.list (nth ps 2);
        displacement_vector = vector_in (nth ps 0);
        key_vector = vector_in (nth ps 1);
        value_vector = vector_in (nth ps 2);
      },
      record { displacements = refl; keys = refl; values = refl; displacement_bytes = (refl, refl); key_bytes = (refl, refl); value_bytes = (refl, refl) },
    )

    pub answers : AnswersAs m bytes
    answers =
        let (u, read) = table_in (parts_in 3 bytes) formed in
        let alike = same u read in
        record {
          parsed = read_fault bytes u (rw formed refl) read ∙ rw (alike.displacements, alike.keys)
              (keys_are t true (none_bad 0 t.keys (recursion_from_All IsKey t.keys keys)) (λ _. of_map.home, λ _. refl));
          found = λ v is k0 k1. let w = same v is in rw (w.displacements, w.keys, w.values) (found_as_in_map m well t of_map k0 k1);
          thaws = λ v is. let w = same v is in rw (w.keys, w.values) thaws;
        }
