-- Commands whose fields stand at the front of bytes.
use Rattle.zv_input.proofs.Common.{◌≡◌, ◌∙◌, ℕ, ◌+◌, ◌-◌, ◌≤◌, List, [], ◌∷◌, ◌++◌, length, take, drop, refl, sym, ap, arith, IfSome, Some, None, Option}
use Rattle.zv_input.proofs.Common.{length-take, OfTexts, all_puts, command_of_words, command_size, sizes_of, sum_by-cons, sum_by_push, total_of}
use Rattle.zv_input.proofs.Common.{total_size, words}
use Rattle.std.proofs.Math.Seq.{take-append_seam}
use Rattle.std.proofs.lemmas.List.{drop-drop, drop-take, length-drop, take-take}
use Rattle.std.specs.Option.{option_map}
use Rattle.zv_input.proofs.Fields.{line_command, not_last, put_by_keys}
use Rattle.zv_input.proofs.SizesOfPuts.{put_sizes_push, puts_within}
use Rattle.zv_input.specs.Lines.{AreKept}
use Rattle.zv_input.specs.Shapes.{command_at, commands_at, fields_size, shape_size}
use Rattle.zv_input.specs.declared.shape.Shape.{Shape}
use Rattle.zv_input.specs.declared.sizes.PutSizes.{PutSizes}
use Rattle.zv_ule.proofs.Lists.{all_append}

-- what stands within the front of bytes
drop_front : (m n : ℕ) (bytes : List ℕ) → m ≤ n → drop m (take n bytes) ≡ take (n - m) (drop m bytes)
drop_front m n bytes le = ap (λ k. drop m (take k bytes)) (omega arith) ∙ drop-take m (n - m) bytes

part_front : (start len n : ℕ) (bytes : List ℕ) → start + len ≤ n → take len (drop start (take n bytes)) ≡ take len (drop start bytes)
part_front start len n bytes le =
    ap (take len) (drop_front start n bytes (omega arith)) ∙ take-take len (n - start) (drop start bytes) (omega arith)

-- fields within the front are those of the front alone
pub command_front : (s : Shape) (n : ℕ) (bytes : List ℕ) → shape_size s ≤ n → command_at s (take n bytes) ≡ command_at s bytes
command_front (Shape.Get a b) n bytes le = rw (take-take a n bytes (omega arith), part_front a b n bytes le) refl
command_front (Shape.Put a b c) n bytes le =
    rw (take-take a n bytes (omega arith), part_front a b n bytes (omega arith), part_front (a + b) c n bytes (omega arith)) refl
command_front (Shape.Del a b) n bytes le = rw (take-take a n bytes (omega arith), part_front a b n bytes le) refl
command_front (Shape.Row a) n bytes le = rw (take-take a n bytes le) refl

commands_front : (shapes : List Shape) (n : ℕ) (bytes : List ℕ) → fields_size shapes ≤ n → commands_at shapes (take n bytes) ≡ commands_at shapes bytes
commands_front [] n bytes le = refl
commands_front (s ∷ shapes) n bytes le =
    let m = shape_size s in
    let sum = sum_by-cons shape_size s shapes in
    rw (command_front s n bytes (omega arith), drop_front m n bytes (omega arith), commands_front shapes (n - m) (drop m bytes) (omega arith)) refl

-- what stands behind them doesn't matter
same_front : (shapes : List Shape) (old new : List ℕ) → take (fields_size shapes) new ≡ take (fields_size shapes) old
    → commands_at shapes new ≡ commands_at shapes old
same_front shapes old new same =
    let n = fields_size shapes in
    sym (commands_front shapes n new (omega arith)) ∙ ap (commands_at shapes) same ∙ commands_front shapes n old (omega arith)

-- one command more
commands_push : (shapes : List Shape) (s : Shape) (bytes : List ℕ)
    → commands_at (shapes ++ s ∷ []) bytes ≡ commands_at shapes bytes ++ command_at s (drop (fields_size shapes) bytes) ∷ []
commands_push [] s bytes = refl
commands_push (t ∷ shapes) s bytes =
    rw (sum_by-cons shape_size t shapes, ← drop-drop (fields_size shapes) (shape_size t) bytes, commands_push shapes s (drop (shape_size t) bytes)) refl

-- a command is 1 and its fields
command_size_at : (s : Shape) (bytes : List ℕ) → shape_size s ≤ length bytes → command_size (command_at s bytes) ≡ 1 + shape_size s
command_size_at (Shape.Get a b) bytes le = omega (arith, length-take a bytes, length-take b (drop a bytes), length-drop a bytes)
command_size_at (Shape.Put a b c) bytes le =
    omega (arith, length-take a bytes, length-take b (drop a bytes), length-take c (drop (a + b) bytes), length-drop a bytes, length-drop (a + b) bytes)
command_size_at (Shape.Del a b) bytes le = omega (arith, length-take a bytes, length-take b (drop a bytes), length-drop a bytes)
command_size_at (Shape.Row a) bytes le = omega (arith, length-take a bytes)

sizes_at : (shapes : List Shape) (bytes : List ℕ) → fields_size shapes ≤ length bytes →
    total_size (commands_at shapes bytes) ≡ length shapes + fields_size shapes
sizes_at [] bytes le = refl
sizes_at (s ∷ shapes) bytes le =
    let rest = drop (shape_size s) bytes in
    let sum = sum_by-cons shape_size s shapes in
    omega (
      arith,
      sum,
      sum_by-cons command_size (command_at s bytes) (commands_at shapes rest),
      command_size_at s bytes (omega arith),
      sizes_at shapes rest (omega (arith, length-drop (shape_size s) bytes)),
    )

-- fields at the front of the bytes before others
pub at_front : (o : Option Shape) (front rest : List ℕ) → IfSome o (λ s. shape_size s ≤ length front)
    → option_map (λ s. command_at s (front ++ rest)) o ≡ option_map (λ s. command_at s front) o
at_front None front rest within = refl
at_front (Some s) front rest within =
    ap Some (sym (command_front s (length front) (front ++ rest) within) ∙ ap (command_at s) (take-append_seam front rest))

-- the keys of a put stay where a value is written behind them
pub keys_stay : (a b : ℕ) (old new : List ℕ) → take (a + b) new ≡ take (a + b) old → (take a new ≡ take a old) × (take b (drop a new) ≡ take b (drop a old))
keys_stay a b old new same = (
  sym (take-take a (a + b) new (omega arith)) ∙ ap (take a) same ∙ take-take a (a + b) old (omega arith),
  sym (part_front a b (a + b) new (omega arith)) ∙ ap (λ t. take b (drop a t)) same ∙ part_front a b (a + b) old (omega arith),
)

pub ruleset puts_by_keys = (put_by_keys, not_last, keys_stay)

-- ---- commands that are kept

-- bytes that begin as they did
pub kept_same : (shapes : List Shape) (old new : List ℕ) (end : ℕ) (puts : PutSizes) → AreKept shapes old end puts → end ≤ length new
    → take end new ≡ take end old → (commands_at shapes new ≡ commands_at shapes old) × AreKept shapes new end puts
kept_same shapes old new end puts kept within same =
    let is = same_front shapes old new (rw kept.end at same) in
    (is, record { end = kept.end; within = within; limit = rw is kept.limit; sizes = rw is kept.sizes; texts = rw is kept.texts })

pub kept_size : (shapes : List Shape) (bytes : List ℕ) (end : ℕ) (puts : PutSizes) → AreKept shapes bytes end puts → end ≤ total_size (commands_at shapes bytes)
kept_size shapes bytes end puts kept = omega (arith, kept.end, sizes_at shapes bytes (omega (arith, kept.end, kept.within)))

-- the command of a line, whose fields were written behind the others
pub record IsOneMore (shapes : List Shape) (old new : List ℕ) (end : ℕ) (puts : PutSizes) (s : Shape) (line : List ℕ) : Type 0 where
  pub commands : commands_at (shapes ++ s ∷ []) new ≡ commands_at shapes old ++ command_at s (drop end new) ∷ []
  pub kept : AreKept (shapes ++ s ∷ []) new (end + shape_size s) (all_puts puts (sizes_of (command_at s (drop end new))))
  pub room : total_of puts + shape_size s + 1 ≤ 16777216
  pub size : total_size (commands_at (shapes ++ s ∷ []) new) ≤ total_size (commands_at shapes old) + length line

pub one_more : (shapes : List Shape) (old new : List ℕ) (end : ℕ) (puts : PutSizes) (s : Shape) (line : List ℕ) → AreKept shapes old end puts
    → take end new ≡ take end old → end + shape_size s ≤ length new → total_size (commands_at shapes old) + length line ≤ 16777216
    → command_of_words (words line) ≡ Some (command_at s (drop end new)) → IsOneMore shapes old new end puts s line
one_more shapes old new end puts s line kept front within limit is =
    let cs = commands_at shapes old in
    let c = command_at s (drop end new) in
    let same = (kept_same shapes old new end puts kept (omega (arith, within)) front).0 in
    let pushed : commands_at (shapes ++ s ∷ []) new ≡ cs ++ c ∷ [] = rw (← kept.end) at (commands_push shapes s new) ∙ ap (λ x. x ++ c ∷ []) same in
    let of_line : (command_size c ≤ length line) × OfTexts c = rw is at (line_command line) in
    let size = command_size_at s (drop end new) (omega (arith, length-drop end new, within)) in
    let spent = rw (← kept.sizes) at (puts_within cs) in
    record {
      commands = pushed;
      kept = record {
        end = ap (λ n. n + shape_size s) kept.end ∙ sym (sum_by_push shape_size shapes s);
        within = within;
        limit = rw (pushed, sum_by_push command_size cs c) (omega (arith, limit, of_line.0));
        sizes = rw (pushed, put_sizes_push cs c) (ap (λ p. all_puts p (sizes_of c)) kept.sizes);
        texts = rw pushed (all_append OfTexts cs c kept.texts of_line.1);
      };
      room = omega (arith, spent, limit, of_line.0, size);
      size = rw (pushed, sum_by_push command_size cs c) (omega (arith, of_line.0));
    }
