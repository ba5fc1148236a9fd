-- The canonical image of a map that an image stands for.
use Rattle.zv_map2d.proofs.Common.{ℕ, zero, suc, ◌+◌, ◌-◌, ◌<◌, ◌≤◌, Bool, true, false, List, [], ◌∷◌, ◌++◌, length, refl, ap, subst, inl, inr}
use Rattle.zv_map2d.proofs.Common.{arith, drop_at, IsBytes}
use Rattle.zv_map2d.proofs.Common.{flat_map, length-append, le, Part, Bytes, Rows, ends, firsts, seconds, values}
use Rattle.std.proofs.Common.{◌*◌, ◌/◌, ◌%◌}
use Rattle.std.specs.Prelude.{replicate, if◌then◌else◌}
use Rattle.std.specs.List.{concat}
use Rattle.zv_ule.proofs.Lists.{back_bytes}
use Rattle.zv_ule.specs.laws.PairSpellings.{joined_bytes}
use Rattle.zv_ule.specs.laws.Spellings.{more_bytes, no_bytes}
use Rattle.zv_var.specs.Format.{enc, starts}
use Rattle.zv_var.specs.Frame.{framed}
use Rattle.zv_owned.proofs.Sizes.{size_of}
use Rattle.zv_map2d.specs.Formats.{IsFormed, code, head, head_of, is_any_wide, mark, width}
use Rattle.zv_map2d.specs.Frame.{Parts, frame}
use Rattle.zv_map2d.specs.Image.{Stands, canon, spelling_in, wides_of}
use Rattle.zv_map2d.specs.declared.image.WideLists.{WideLists}
use Rattle.zv_map2d.proofs.Formed.{formed-unformed}
use Rattle.zv_map2d.proofs.Unframed.{AreBytes}
use Rattle.zv_map2d_laws.specs.Laws.{CanonBounded}
use Rattle.zv_map2d_laws.proofs.Standing.{length_frame, read_back}

-- ---- how long it is

-- a list is written in at most twice the bytes that spell it
pub twice : (a b : Bool) (part : List ℕ) (xs : List Bytes) → Part (width a) part xs → length (enc (width b) xs) ≤ 2 * length part
twice a b part [] p = omega arith
twice true true part (x ∷ xs) p = omega (arith, ap length p.1)
twice true false part (x ∷ xs) p = omega (arith, ap length p.1, size_of 4 (x ∷ xs), size_of 2 (x ∷ xs))
twice false true part (x ∷ xs) p = omega (arith, ap length p.1, size_of 4 (x ∷ xs), size_of 2 (x ∷ xs))
twice false false part (x ∷ xs) p = omega (arith, ap length p.1)

short_head : (w : WideLists) → length (head_of w) ≤ 11
short_head w = grind arith

-- an image is no shorter than its frame
pub long_image : (image : List ℕ) (w : WideLists) (p : Parts) → IsFormed image w p → length (frame p) ≤ length image
long_image image w p (inl h) = omega (arith, ap length h.0)
long_image image w p (inr h) = omega (arith, ap length h, length-append (head w) (frame p))

module _ (image : List ℕ) (m : Rows) (s : Stands image m) where
  pub canon_short : length (canon m) ≤ 2 * length image
  canon_short =
      let w = wides_of m in
      omega (
        arith,
        length-append (head_of w) (frame (spelling_in w m)),
        short_head w,
        length_frame (spelling_in w m),
        length_frame s.parts,
        long_image image s.lists s.parts s.formed,
        ap length s.spelled.joiner,
        twice s.lists.keys0 w.keys0 s.parts.keys0 (firsts m) s.spelled.keys0,
        twice s.lists.keys1 w.keys1 s.parts.keys1 (seconds m) s.spelled.keys1,
        twice s.lists.values w.values s.parts.values (values m) s.spelled.values,
      )

-- ---- that it is bytes

later_part : (x y : List ℕ) → IsBytes (x ++ y) → IsBytes y
later_part x y h = rw (drop_at x y (length x) refl) at (back_bytes (length x) (x ++ y) h)

small_bytes : (w n : ℕ) → IsBytes (le w n)
small_bytes zero n = no_bytes
small_bytes (suc w) n = more_bytes (n % 256) (le w (n / 256)) (omega arith) (small_bytes w (n / 256))

fields_bytes : (w : ℕ) (ns : List ℕ) → IsBytes (flat_map (le w) ns)
fields_bytes w [] = no_bytes
fields_bytes w (n ∷ ns) = joined_bytes (le w n) (flat_map (le w) ns) (small_bytes w n) (fields_bytes w ns)

-- a list that bytes spell is written as bytes
enc_bytes : (w v : ℕ) (part : List ℕ) (xs : List Bytes) → IsBytes part → Part w part xs → IsBytes (enc v xs)
enc_bytes w v part [] bytes p = no_bytes
enc_bytes w v part (x ∷ xs) bytes p =
    let values = later_part (flat_map (le w) (starts (x ∷ xs))) (concat (x ∷ xs)) (later_part (le w (length xs + 1)) _ (subst IsBytes p.1 bytes)) in
    joined_bytes (le v (length xs + 1)) _ (small_bytes v (length xs + 1))
    (joined_bytes (flat_map (le v) (starts (x ∷ xs))) (concat (x ∷ xs)) (fields_bytes v (starts (x ∷ xs))) values)

code_small : (wide : Bool) → code wide < 256
code_small true = omega arith
code_small false = omega arith

marks : (n : ℕ) → IsBytes (replicate n 255)
marks zero = no_bytes
marks (suc n) = more_bytes 255 (replicate n 255) (omega arith) (marks n)

head_bytes : (w : WideLists) → IsBytes (head_of w)
head_bytes w =
    let codes = more_bytes _ _ (code_small w.keys0) (more_bytes _ _ (code_small w.keys1) (more_bytes _ [] (code_small w.values) no_bytes)) in
    elim (is_any_wide w) as (λ b. IsBytes (if b then head w else [])) [ true ↦ joined_bytes mark _ (marks 8) codes | false ↦ no_bytes ]

framed_bytes : (part : List ℕ) → IsBytes part → IsBytes (framed part)
framed_bytes part bytes = joined_bytes (le 8 (length part)) part (small_bytes 8 (length part)) bytes

frame_bytes : (p : Parts) → AreBytes p → IsBytes (frame p)
frame_bytes p b =
    joined_bytes (framed p.keys0) _ (framed_bytes p.keys0 b.keys0)
    (joined_bytes (framed p.joiner) _ (framed_bytes p.joiner b.joiner)
    (joined_bytes (framed p.keys1) _ (framed_bytes p.keys1 b.keys1) (framed_bytes p.values b.values)))

pub canon_bounded : CanonBounded
canon_bounded image m bytes l s =
    let w = wides_of m in
    let b = (formed-unformed image s.lists s.parts bytes (read_back image s.lists s.parts l s.formed)).1 in
    let parts : AreBytes (spelling_in w m) = record {
      keys0 = enc_bytes _ _ s.parts.keys0 (firsts m) b.keys0 s.spelled.keys0;
      joiner = fields_bytes 4 (ends m);
      keys1 = enc_bytes _ _ s.parts.keys1 (seconds m) b.keys1 s.spelled.keys1;
      values = enc_bytes _ _ s.parts.values (values m) b.values s.spelled.values;
    } in
    (joined_bytes (head_of w) _ (head_bytes w) (frame_bytes _ parts), canon_short image m s)
