-- Images: from the bytes to the formats and the parts that they are formed of.
use Rattle.zv_map2d.proofs.Common.{◌≡◌, ℕ, Bool, List, [], ◌∷◌, take, drop, Option, Some, None, inl, inr, refl, sym, ◌∙◌, ap, arith, same_Some}
use Rattle.zv_map2d.proofs.Common.{option_and_then_some}
use Rattle.zv_map2d.proofs.Common.{option_map, take-append-drop, IsBytes}
use Rattle.std.proofs.lemmas.Bool.{cases_Bool}
use Rattle.std.proofs.lemmas.Bool.Decides.{nat_tests}
use Rattle.std.proofs.lemmas.Slice.Eq.{bytes_eq-Decides}
use Rattle.std.specs.Prelude.{bytes_eq}
use Rattle.zv_ule.proofs.Lists.{back_bytes}
use Rattle.zv_ule.specs.laws.Fields.{later_bytes}
use Rattle.zv_map2d.specs.Formats.{IsFormed, after_mark, code, lists_named, mark, narrow, unformed, wide_named}
use Rattle.zv_map2d.specs.Frame.{Parts, frame, unframe}
use Rattle.zv_map2d.specs.declared.image.WideLists.{WideLists}
use Rattle.zv_map2d.proofs.Unframed.{AreBytes, frame-unframe, parts_stand}
use Rattle.std.specs.Prelude.{if◌then◌else◌}
use Rattle.std.specs.Result.{result_err, IfOk}
use Rattle.zv_var.specs.Format.{enc}
use Rattle.zv_owned.specs.Widths.{wide}
use Rattle.zv_map.specs.Flexes.{flex_settled}
use Rattle.zv_map.specs.Layouts.{encoding_in, field_width}
use Rattle.zv_map.specs.declared.view.Layout.{Layout}
use Rattle.zv_map.specs.declared.view.Layout.TheVariants.{Index16, Index32}
use Rattle.zv_map2d.proofs.Common.{◌==◌, true, false, firsts, seconds, values, Bytes, Map2d, Vector, Result, Ok, Err, parts_of, read_fault, rows_read}
use Rattle.zv_map2d.specs.Formats.{width}
use Rattle.zv_map2d.specs.Image.{Stands, lists_of, spelling_in, texts_in, wides_of}
use Rattle.zv_map2d.specs.Views.{AreSettled, written_of}
use Rattle.zv_map2d.specs.declared.error.EditError.{EditError}

abbrev pub lists : Bool → Bool → Bool → WideLists
lists a b c = record { keys0 = a; keys1 = b; values = c }

map_some : {A B : Type 0} (g : A → B) (o : Option A) (y : B) → option_map g o ≡ Some y → (x : A) × (o ≡ Some x) × (g x ≡ y)
map_some g None y e = absurd cc
map_some g (Some x) y e = (x, refl, same_Some (g x) y e)

named_is : (n : ℕ) (wide : Bool) → wide_named n ≡ Some wide → n ≡ code wide
named_is n wide e = grind (arith, nat_tests)

named_lists : (a b c : ℕ) (w : WideLists) → lists_named a b c ≡ Some w → (a ≡ code w.keys0) × (b ≡ code w.keys1) × (c ≡ code w.values)
named_lists a b c w e =
    option_and_then_some _ (wide_named a) w e (λ x ea fa.
    option_and_then_some _ (wide_named b) w fa (λ y eb fb.
    let k = map_some (lists x y) (wide_named c) w fb in (
      named_is a x ea ∙ ap (λ v. code v.keys0) k.2,
      named_is b y eb ∙ ap (λ v. code v.keys1) k.2,
      named_is c k.0 k.1 ∙ ap (λ v. code v.values) k.2,
    )))

after_is : (b : List ℕ) (w : WideLists) (p : Parts) → IsBytes b → after_mark b ≡ Some (w, p) →
    (b ≡ code w.keys0 ∷ code w.keys1 ∷ code w.values ∷ frame p) × AreBytes p
after_is [] w p bytes e = absurd cc
after_is (a ∷ []) w p bytes e = absurd cc
after_is (a ∷ b ∷ []) w p bytes e = absurd cc
after_is (a ∷ b ∷ c ∷ rest) w p bytes e =
    let each = later_bytes c rest (later_bytes b (c ∷ rest) (later_bytes a (b ∷ c ∷ rest) bytes)) in
    option_and_then_some _ (lists_named a b c) (w, p) e (λ v ev fv.
    let k = map_some (λ (q : Parts). (v, q)) (unframe rest) (w, p) fv in
    let n = named_lists a b c w (ev ∙ ap (λ x. Some x.0) k.2) in
    let f = frame-unframe rest p each (k.1 ∙ ap (λ x. Some x.1) k.2) in
    (cc (n.0, n.1, n.2, f.0), f.1))

-- what an image is read as forms it
pub formed-unformed : (image : List ℕ) (w : WideLists) (p : Parts) → IsBytes image → unformed image ≡ Some (w, p) → IsFormed image w p × AreBytes p
formed-unformed image w p bytes e = elim (cases_Bool (bytes_eq (take 8 image) mark)) [
  | inl t ↦
      let first : take 8 image ≡ mark = (bytes_eq-Decides (take 8 image) mark).0 t in
      let later = after_is (drop 8 image) w p (back_bytes 8 image bytes) (rw t at e) in
      (inr (sym (take-append-drop 8 image) ∙ cc (first, later.0)), later.1)
  | inr t ↦
      let k = map_some (λ (q : Parts). (narrow, q)) (unframe image) (w, p) (rw t at e) in
      let f = frame-unframe image p bytes (k.1 ∙ ap (λ x. Some x.1) k.2) in
      (inl (f.0, sym (ap (λ x. x.0) k.2)), f.1)
]

-- the same formats and parts
formed_as : (image : List ℕ) (v : WideLists) (q : Parts) (w : WideLists) (p : Parts) → v ≡ w → q ≡ p → IsFormed image w p → IsFormed image v q
formed_as image v q w p same_lists same_parts h = rw (same_lists, same_parts) h

-- a list's format is seen in its layout
abbrev pub layout_of : Bool → Layout
layout_of wide = if wide then Index32 else Index16

seen_width : (wide : Bool) → (field_width (layout_of wide) == 4) ≡ wide
seen_width true = refl
seen_width false = refl

pub formats_seen : (r : Result Map2d EditError) (w : WideLists) (a b c : Vector) →
    IfOk r (λ m. m.keys0 ≡ a) → IfOk r (λ m. m.keys1 ≡ b) → IfOk r (λ m. m.values ≡ c) →
    a.layout ≡ layout_of w.keys0 → b.layout ≡ layout_of w.keys1 → c.layout ≡ layout_of w.values → IfOk r (λ m. lists_of m ≡ w)
formats_seen (Ok m) w a b c ea eb ec la lb lc =
    let keys0 = ap (λ (v : Vector). field_width v.layout == 4) ea ∙ ap (λ l. field_width l == 4) la ∙ seen_width w.keys0 in
    let keys1 = ap (λ (v : Vector). field_width v.layout == 4) eb ∙ ap (λ l. field_width l == 4) lb ∙ seen_width w.keys1 in
    let vs = ap (λ (v : Vector). field_width v.layout == 4) ec ∙ ap (λ l. field_width l == 4) lc ∙ seen_width w.values in
    λ i. lists (keys0 i) (keys1 i) (vs i)
formats_seen (Err x) w a b c ea eb ec la lb lc = tt

-- what reading the parts of an image gives
module _ (image : List ℕ) (w : WideLists) (p : Parts) (bytes : IsBytes image) (e : Some (w, p) ≡ unformed image) where
  pub parsed_stands : (r : Result Map2d EditError) → result_err r ≡ read_fault (texts_in w) p → IfOk r (λ m. m.rows ≡ rows_read (texts_in w) p) →
      IfOk r (λ m. Stands image m.rows)
  parsed_stands (Ok m) none same = let k = formed-unformed image w p bytes (sym e) in rw same (parts_stand image w p k.0 k.1 (sym none))
  parsed_stands (Err x) none same = tt

  pub parsed_formed : (r : Result Map2d EditError) → IfOk r (λ m. parts_of m ≡ p) → IfOk r (λ m. lists_of m ≡ w) →
      IfOk r (λ m. IsFormed image (lists_of m) (parts_of m))
  parsed_formed (Ok m) parts wides = formed_as image _ _ w p wides parts (formed-unformed image w p bytes (sym e)).0
  parsed_formed (Err x) parts wides = tt

-- a map whose lists are settled is written as its canonical image says
written_settled : (xs : List Bytes) → encoding_in (flex_settled xs) xs ≡ enc (width (wide xs)) xs
written_settled xs = elim (wide xs) as (λ b. encoding_in (if b then Index32 else Index16) xs ≡ enc (width b) xs) [ true ↦ refl | false ↦ refl ]

wide_settled : (xs : List Bytes) → (field_width (flex_settled xs) == 4) ≡ wide xs
wide_settled xs = elim (wide xs) as (λ b. (field_width (if b then Index32 else Index16) == 4) ≡ b) [ true ↦ refl | false ↦ refl ]

pub settled_parts : (m : Map2d) → AreSettled flex_settled flex_settled flex_settled m → written_of m ≡ spelling_in (wides_of m.rows) m.rows
settled_parts m h =
    rw (h.keys0, h.keys1, h.values, written_settled (firsts m.rows), written_settled (seconds m.rows), written_settled (values m.rows)) refl

pub settled_lists : (m : Map2d) → AreSettled flex_settled flex_settled flex_settled m → lists_of m ≡ wides_of m.rows
settled_lists m h =
    rw (h.keys0, h.keys1, h.values, wide_settled (firsts m.rows), wide_settled (seconds m.rows), wide_settled (values m.rows)) refl
