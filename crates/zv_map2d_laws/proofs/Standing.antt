-- Images: the frame and its parts, and what they stand for.
use Rattle.zv_map2d.proofs.Common.{◌≡◌, ℕ, suc, ◌+◌, ◌^◌, ◌<◌, ◌≤◌, Bool, true, false, List, [], ◌∷◌, ◌++◌, length, get_or, take, Some, None, refl, sym}
use Rattle.zv_map2d.proofs.Common.{◌∙◌, ap, arith}
use Rattle.zv_map2d.proofs.Common.{length-append, append_assoc, take_at, same_Some, le, number, inl, inr, append-nil, AllByRecursion, Part}
use Rattle.zv_map2d.proofs.Common.{lists_read, IsFlat, read_fault, rows_read, Bytes, Rows, ends, firsts, seconds, values}
use Rattle.std.proofs.Common.{◌-◌}
use Rattle.std.proofs.lemmas.Bool.{cases_Bool}
use Rattle.std.proofs.lemmas.Bool.Decides.{nat_tests}
use Rattle.std.proofs.lemmas.Slice.Eq.{bytes_eq-Decides}
use Rattle.std.specs.Prelude.{bytes_eq}
use Rattle.std.proofs.lemmas.List.Elements.{All-from_get_or, recursion_from_All}
use Rattle.zv_ule.proofs.ChunkFaults.{plain_bytes}
use Rattle.zv_ule.proofs.Lists.{joined_fault, joined_values}
use Rattle.zv_ule.specs.Kinds.{text_fault}
use Rattle.zv_ule.specs.declared.error.TyName.TheVariants.{RawBytes4, U8}
use Rattle.zv_var.proofs.Encoding.{codable_from_Part}
use Rattle.zv_var.proofs.Frames.{first_part_of_framed}
use Rattle.zv_var.proofs.Read.{fault_from_Part, elements_from_Part}
use Rattle.zv_var.specs.Format.{enc, codable}
use Rattle.zv_var.specs.Frame.{framed, first_part}
use Rattle.zv_owned.proofs.Codable.{fields_fit}
use Rattle.zv_owned.proofs.Rewritten.{codable_narrower, codable_wider}
use Rattle.zv_owned.specs.Widths.{wide}
use Rattle.zv_ule.proofs.Fields.{length-le, number-le}
use Rattle.zv_map2d.specs.Causes.{Readings, joiner_fault}
use Rattle.zv_map2d.specs.Frame.{Parts, frame, unframe}
use Rattle.zv_map2d.specs.Formats.{IsFormed, code, head, head_of, mark, unformed, wide_named, width}
use Rattle.zv_map2d.specs.Image.{by_bytes, bytes_fault, texts_in, Spells, Stands, spelling_in, fault_of, fault, wides_of}
use Rattle.zv_map2d.specs.declared.image.WideLists.{WideLists}
use Rattle.zv_map2d_laws.specs.Laws.{CanonStands, FrameExactly, IsCodable, IsReadExactly, ReadsAsRows, StandsForOne}
use Rattle.zv_map2d.specs.declared.error.EditError.{EditError}
use Rattle.zv_map2d.proofs.Flat.{before_within, end_at, length_ends, length_pick, view_of}
use Rattle.zv_map2d.proofs.Numbers.{as_joiner}
use Rattle.zv_map2d.proofs.Formed.{formed-unformed, lists}
use Rattle.zv_map2d.proofs.Unframed.{parts_stand, some_width}
use Rattle.zv_map2d_laws.proofs.Checks.{held_fault}

pub length_frame : (p : Parts) → length (frame p) ≡ 32 + (length p.keys0 + length p.joiner + length p.keys1 + length p.values)
length_frame p = simp length-append (omega arith)

-- what a frame is read as
framed_back : (image : List ℕ) (p : Parts) → length image < 2 ^ 64 → image ≡ frame p → unframe image ≡ Some p
framed_back image p l h =
    let long = length_frame p in
    let size = ap length h in
    let a = first_part_of_framed p.keys0 (framed p.joiner ++ (framed p.keys1 ++ framed p.values)) (omega arith) in
    let b = first_part_of_framed p.joiner (framed p.keys1 ++ framed p.values) (omega arith) in
    let c = first_part_of_framed p.keys1 (framed p.values) (omega arith) in
    let d = ap first_part (sym (append-nil (framed p.values))) ∙ first_part_of_framed p.values [] (omega arith) in
    rw (h, a, b, c, d) refl

-- the first length of a frame that is short is no mark
no_mark : (image : List ℕ) (p : Parts) → length image < 2 ^ 64 - 1 → image ≡ frame p → take 8 image ≡ mark → ⊥
no_mark image p l h e =
    let rest : List ℕ = p.keys0 ++ (framed p.joiner ++ (framed p.keys1 ++ framed p.values)) in
    let is : image ≡ le 8 (length p.keys0) ++ rest = h ∙ append_assoc (le 8 (length p.keys0)) p.keys0 _ in
    let short : length p.keys0 < 2 ^ 64 - 1 =
    omega (arith, ap length is, length-append (le 8 (length p.keys0)) rest, length-append p.keys0 (framed p.joiner ++ (framed p.keys1 ++ framed p.values))) in
    let first : take 8 image ≡ le 8 (length p.keys0) = ap (take 8) is ∙ take_at (le 8 (length p.keys0)) rest 8 (length-le 8 (length p.keys0)) in
    let n : length p.keys0 ≡ number mark = sym (number-le 8 (length p.keys0) (omega arith)) ∙ ap number (sym first ∙ e) in
    omega arith

code_named : (wide : Bool) → wide_named (code wide) ≡ Some wide
code_named true = refl
code_named false = refl

-- what an image that is formed of parts is read as
pub read_back : (image : List ℕ) (w : WideLists) (p : Parts) → length image < 2 ^ 64 - 1 → IsFormed image w p → unformed image ≡ Some (w, p)
read_back image w p l (inl h) =
    let none : bytes_eq (take 8 image) mark ≡ false = grind (arith, bytes_eq-Decides, no_mark image p l h.0) in
    rw (none, framed_back image p (omega arith) h.0, h.1) refl
read_back image w p l (inr h) =
    let back = framed_back (frame p) p (omega (arith, ap length h, length-append (head w) (frame p))) refl in
    rw (h, code_named w.keys0, code_named w.keys1, code_named w.values, back) refl

-- ---- from the map to the parts

width_fits : (wide : Bool) → 256 ^ width wide ≤ 2 ^ 32
width_fits true = omega arith
width_fits false = omega arith

-- a list that is spelled can be written with fields of four bytes
codable_spelled : (wide : Bool) (b : List ℕ) (xs : List Bytes) → Part (width wide) b xs → codable 4 xs ≡ true
codable_spelled true b xs p = codable_from_Part 4 b xs p
codable_spelled false b xs p = codable_wider xs (codable_from_Part 2 b xs p)

pub codable_lists : {w : WideLists} {p : Parts} {m : Rows} → Spells w p m → IsCodable m
codable_lists {w} {p} {m} s = record {
  keys0 = codable_spelled w.keys0 p.keys0 (firsts m) s.keys0;
  keys1 = codable_spelled w.keys1 p.keys1 (seconds m) s.keys1;
  values = codable_spelled w.values p.values (values m) s.values;
}

-- an image has at most 2 ^ 30 pairs
pub few_pairs : (image : List ℕ) (m : Rows) → Stands image m → length (seconds m) ≤ 2 ^ 30
few_pairs image m s = omega (arith, (fields_fit 4 (seconds m) (codable_lists s.spelled).keys1).short)

module _ {image : List ℕ} (m : Rows) (s : Stands image m) where
  -- each end is at most the number of second keys, so four bytes hold it
  ends_fit : AllByRecursion (λ e. e < 2 ^ 32) (ends m)
  ends_fit =
      let few = (fields_fit 4 (seconds m) (codable_lists s.spelled).keys1).count in
      recursion_from_All _ _ (All-from_get_or (λ e. e < 2 ^ 32) (ends m) 0
      (λ i h. omega (arith, end_at 0 m i, length_ends 0 m, before_within m (suc i), length_pick (λ q. q.0) m)))

  -- the parts of an image are read as the lists of the map that it stands for
  lists_are : let l = lists_read (texts_in s.lists) s.parts in IsFlat l.keys0 l.joiner l.keys1 l.values m
  lists_are = record {
    firsts_are = elements_from_Part _ s.parts.keys0 (firsts m) (some_width s.lists.keys0) s.spelled.keys0;
    ends_are = rw s.spelled.joiner (joined_values as_joiner (ends m) ends_fit (omega arith));
    seconds_are = elements_from_Part _ s.parts.keys1 (seconds m) (some_width s.lists.keys1) s.spelled.keys1;
    values_are = elements_from_Part _ s.parts.values (values m) (some_width s.lists.values) s.spelled.values;
  }

  -- and without a fault
  no_fault : read_fault (texts_in s.lists) s.parts ≡ None
  no_fault =
      let joined : joiner_fault s.parts.joiner ≡ None = rw s.spelled.joiner (joined_fault as_joiner RawBytes4 (ends m) ends_fit (omega arith)) in
      let any = recursion_from_All (λ x. bytes_fault x ≡ None) (values m) (λ i d h. plain_bytes U8 1 _ (get_or (values m) i d) refl (λ c. refl)) in
      rw (
        joined,
        fault_from_Part (width s.lists.keys0) text_fault s.parts.keys0 (firsts m) (some_width s.lists.keys0) s.spelled.keys0 s.map.texts0,
        fault_from_Part (width s.lists.keys1) text_fault s.parts.keys1 (seconds m) (some_width s.lists.keys1) s.spelled.keys1 s.map.texts1,
        fault_from_Part (width s.lists.values) bytes_fault s.parts.values (values m) (some_width s.lists.values) s.spelled.values any,
      )
      (held_fault by_bytes by_bytes (lists_read (texts_in s.lists) s.parts) m (lists_are, s.map.in_order))

-- ---- images

pub none_from_stands : (image : List ℕ) (m : Rows) → length image < 2 ^ 64 - 1 → Stands image m → fault image ≡ None
none_from_stands image m l s = rw (read_back image s.lists s.parts l s.formed) (no_fault m s)

pub read_exactly : IsReadExactly
read_exactly image bytes l = (
  (elim (unformed image) as (λ o. unformed image ≡ o → fault_of o ≡ None → (m : Rows) × Stands image m) [
    | None ↦ λ h e. cc
    | Some x ↦ λ h e.
        let k = formed-unformed image x.0 x.1 bytes h in (rows_read (texts_in x.0) x.1, parts_stand image x.0 x.1 k.0 k.1 e)
  ]) refl,
  λ s. none_from_stands image s.0 l s.1,
)

pub reads_as_rows : ReadsAsRows
reads_as_rows image m l s = rw (read_back image s.lists s.parts l s.formed) (sym (view_of (lists_are m s)))

pub one_map : StandsForOne
one_map image m n l s t =
    let same : (s.lists, s.parts) ≡ (t.lists, t.parts) =
    same_Some _ _ (sym (read_back image s.lists s.parts l s.formed) ∙ read_back image t.lists t.parts l t.formed) in
    sym (view_of (lists_are m s)) ∙ ap (λ x. rows_read (texts_in x.0) x.1) same ∙ view_of (lists_are n t)

-- what is written for a list spells it
part_enc : (w : ℕ) (xs : List Bytes) → codable w xs ≡ true → Part w (enc w xs) xs
part_enc w [] c = inl refl
part_enc w (x ∷ xs) c = (c, refl)

-- and in its canonical format
part_canon : (xs : List Bytes) → codable 4 xs ≡ true → Part (width (wide xs)) (enc (width (wide xs)) xs) xs
part_canon xs c = part_enc _ xs (elim (cases_Bool (wide xs)) [
  | inl t ↦ rw t c
  | inr t ↦ rw t (codable_narrower xs (grind (arith, nat_tests)))
])

formed_canon : (a b c : Bool) (p : Parts) → IsFormed (head_of (lists a b c) ++ frame p) (lists a b c) p
formed_canon false false false p = inl (refl, refl)
formed_canon false false true p = inr refl
formed_canon false true c p = inr refl
formed_canon true b c p = inr refl

pub canon_stands : CanonStands
canon_stands m t c = record {
  map = t;
  lists = wides_of m;
  parts = spelling_in (wides_of m) m;
  formed = formed_canon (wide (firsts m)) (wide (seconds m)) (wide (values m)) _;
  spelled = record { keys0 = part_canon _ c.keys0; joiner = refl; keys1 = part_canon _ c.keys1; values = part_canon _ c.values };
}

-- ---- images that are no frame

-- no fault of parts is that of a frame
parts_not_frame : (r : Readings) (p : Parts) → read_fault r p ≡ Some EditError.Frame → ⊥
parts_not_frame r p e = grind (arith, nat_tests)

pub frame_exactly : FrameExactly
frame_exactly image bytes l = (
  λ e w p h. parts_not_frame (texts_in w) p (rw (read_back image w p l h) at e),
  λ none. (elim (unformed image) as (λ o. unformed image ≡ o → fault_of o ≡ Some EditError.Frame) [
    | None ↦ λ h. refl
    | Some x ↦ λ h. absurd (none x.0 x.1 (formed-unformed image x.0 x.1 bytes h).0)
  ]) refl,
)
