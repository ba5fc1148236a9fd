-- Images: from the bytes to the parts, and to the map that they stand for.
use Rattle.zv_map2d.proofs.Common.{◌≡◌, ℕ, ◌<◌, ◌≤◌, List, ◌++◌, length, take, drop, Option, Some, None, sym, ◌∙◌, ap, subst, arith}
use Rattle.zv_map2d.proofs.Common.{append-nil, nil_from_length, take-append-drop, option_and_then_some, IsBytes, le, number, elements, list_fault}
use Rattle.zv_map2d.proofs.Common.{Part, lists_read, read_fault, rows_read, Bytes, append_assoc, length-take-le}
use Rattle.std.proofs.lemmas.Cmp.{nat_list_cmp_total as total}
use Rattle.zv_ule.proofs.Fields.{le-number_at}
use Rattle.zv_ule.proofs.Lists.{front_bytes, back_bytes}
use Rattle.zv_ule.specs.Kinds.{text_fault}
use Rattle.zv_ule.specs.declared.error.UleError.{UleError}
use Rattle.zv_var.proofs.Read.{Part_from_fault, valid_from_fault}
use Rattle.zv_var.specs.Frame.{framed, first_part}
use Rattle.zv_var.specs.Laws.{AreValid}
use Rattle.zv_map2d.specs.Frame.{Parts, frame, unframe}
use Rattle.zv_map2d.specs.Formats.{IsFormed, width}
use Rattle.zv_map2d.specs.Image.{by_bytes, bytes_fault, texts_in, var_list, Stands}
use Rattle.zv_map2d.specs.declared.image.WideLists.{WideLists}
use Rattle.zv_map2d.proofs.Common.{Bool, true, false}
use Rattle.zv_map2d.proofs.Numbers.{joiner_written}
use Rattle.zv_map2d.proofs.Parsed.{held_lists}

-- a first part in its frame, and the rest
record IsCut (b : List ℕ) (x : List ℕ × List ℕ) : Type 0 where
  pub whole : b ≡ framed x.0 ++ x.1
  pub part : IsBytes x.0
  pub rest : IsBytes x.1

first_cut : (b : List ℕ) (x : List ℕ × List ℕ) → IsBytes b → first_part b ≡ Some x → IsCut b x
first_cut b x h e =
    let n : ℕ = number (take 8 b) in
    let d : List ℕ = drop 8 b in
    let long : 8 ≤ length b = grind arith in
    let within : n ≤ length d = grind arith in
    let cut : (take n d, drop n d) ≡ x = grind arith in
    let size : le 8 (length (take n d)) ≡ take 8 b =
    ap (le 8) (length-take-le n d within) ∙ le-number_at 8 (take 8 b) (length-take-le 8 b long) (front_bytes 8 b h long) in
    let whole : framed (take n d) ++ drop n d ≡ b =
    rw (append_assoc (le 8 (length (take n d))), take-append-drop n d) (ap (λ (c : List ℕ). c ++ d) size ∙ take-append-drop 8 b) in
    let later = back_bytes 8 b h in
    subst (IsCut b) cut (record { whole = sym whole; part = front_bytes n d later within; rest = back_bytes n d later })

-- the parts of bytes are bytes
pub record AreBytes (p : Parts) : Type 0 where
  pub keys0 : IsBytes p.keys0
  pub joiner : IsBytes p.joiner
  pub keys1 : IsBytes p.keys1
  pub values : IsBytes p.values

pub frame-unframe : (b : List ℕ) (p : Parts) → IsBytes b → unframe b ≡ Some p → (b ≡ frame p) × AreBytes p
frame-unframe b p h e =
    option_and_then_some _ _ p e (λ x e0 f0. let k0 = first_cut b x h e0 in
    option_and_then_some _ _ p f0 (λ y e1 f1. let k1 = first_cut x.1 y k0.rest e1 in
    option_and_then_some _ _ p f1 (λ z e2 f2. let k2 = first_cut y.1 z k1.rest e2 in
    option_and_then_some _ _ p f2 (λ w e3 f3. let k3 = first_cut z.1 w k2.rest e3 in
    let q : Parts = record { keys0 = x.0; joiner = y.0; keys1 = z.0; values = w.0 } in
    let none : length w.1 ≡ 0 = grind arith in
    let same : q ≡ p = grind arith in
    let whole : b ≡ frame q = cc (k0.whole, k1.whole, k2.whole, k3.whole, nil_from_length w.1 none, append-nil (framed w.0)) in
    subst (λ (x : Parts). (b ≡ frame x) × AreBytes x) same (whole, record { keys0 = k0.part; joiner = k1.part; keys1 = k2.part; values = k3.part })))))

-- a part without a fault spells the elements that are read of it, which are valid
spelled : (w : ℕ) (fault : Bytes → Option UleError) (b : List ℕ) {xs : List Bytes} → 0 < w → IsBytes b → (var_list w fault).fault b ≡ None →
    elements w b ≡ xs → Part w b xs × AreValid fault xs
spelled w fault b some bytes none e =
    let k : list_fault w fault b ≡ None = grind arith in
    rw (← e) (Part_from_fault w fault b some bytes k, valid_from_fault w fault b some bytes k)

pub some_width : (wide : Bool) → 0 < width wide
some_width true = omega arith
some_width false = omega arith

-- parts of bytes that are read without a fault are those of a map
pub parts_stand : (image : List ℕ) (w : WideLists) (p : Parts) → IsFormed image w p → AreBytes p → read_fault (texts_in w) p ≡ None →
    Stands image (rows_read (texts_in w) p)
parts_stand image w p h bytes e =
    let held = held_lists by_bytes by_bytes total total (lists_read (texts_in w) p) (grind arith) in
    let k0s = spelled (width w.keys0) text_fault p.keys0 (some_width w.keys0) bytes.keys0 (grind arith) held.0.firsts_are in
    let k1s = spelled (width w.keys1) text_fault p.keys1 (some_width w.keys1) bytes.keys1 (grind arith) held.0.seconds_are in
    let vs = spelled (width w.values) bytes_fault p.values (some_width w.values) bytes.values (grind arith) held.0.values_are in
    let es = sym (joiner_written p.joiner bytes.joiner (grind arith)) in
    record {
      map = record { in_order = held.1; texts0 = k0s.1; texts1 = k1s.1 };
      lists = w;
      parts = p;
      formed = h;
      spelled = record { keys0 = k0s.0; joiner = rw (← held.0.ends_are) es; keys1 = k1s.0; values = vs.0 };
    }
