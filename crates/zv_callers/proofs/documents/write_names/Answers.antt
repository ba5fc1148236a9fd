use Rattle.std.proofs.Common.{◌≡◌, ◌≤◌, ◌∙◌, List, [], ◌∷◌, ℕ, Option, Some, None, Result, Ok, Err, Ordering, Less, Equal, Greater, refl, sym, ap, subst}
use Rattle.std.proofs.Common.{arith, true}
use Rattle.std.specs.Option.{option_map}
use Rattle.std.specs.Ordering.{match_ordering}
use Rattle.serde_json.specs.Data.{Data, Members, depth, member, members_depth, no_members, object, put, string}
use Rattle.serde_json.specs.Read.{max_depth}
use Rattle.serde_json.specs.View.{view}
use Rattle.zv_forms.specs.Again.{SameKeys}
use Rattle.zv_forms.specs.Maps.{map_written, members_written}
use Rattle.zv_json.specs.Again.{IsAgain}
use Rattle.zv_json.specs.Json.{or_wide}
use Rattle.zv_json.specs.declared.error.JsonError.{JsonError}
use Rattle.zv_map1.specs.Views.{Pairs}
use Rattle.zv_callers.proofs.documents.write_names.Goals as goal

-- the value of a table of names
abbrev names_written : Pairs → Option Data
names_written m = map_written true (λ name. Some name) (λ text. Some (string text)) (λ text. Some (string text)) m

-- ---- how deep it nests

each_flat : (o : Ordering) (a b c : Members) → members_depth a ≤ 0 → members_depth b ≤ 0 → members_depth c ≤ 0 → members_depth (match_ordering o a b c) ≤ 0
each_flat Less a b c p q r = p
each_flat Equal a b c p q r = q
each_flat Greater a b c p q r = r

put_flat : (k t : List ℕ) (ms : Members) → members_depth ms ≤ 0 → members_depth (put k (string t) ms) ≤ 0
put_flat k t no_members h = omega arith
put_flat k t (member l e ms) h =
    each_flat _ (member k (string t) (member l e ms)) (member l (string t) ms) (member l e (put k (string t) ms)) (omega arith) (omega arith)
    (omega (arith, put_flat k t ms (omega arith)))

members_flat : (m : Pairs) (ms all : Members) → members_depth ms ≤ 0 → members_written (λ name. Some name) (λ text. Some (string text)) ms m ≡ Some all
    → members_depth all ≤ 0
members_flat [] ms all h e = let same : ms ≡ all = cc in subst (λ x. members_depth x ≤ 0) same h
members_flat (p ∷ m) ms all h e = members_flat m (put p.0 (string p.1) ms) all (put_flat p.0 p.1 ms h) e

object_flat : (o : Option Members) (d : Data) → option_map object o ≡ Some d → ((ms : Members) → o ≡ Some ms → members_depth ms ≤ 0) → depth d ≤ max_depth
object_flat None d e flat = cc
object_flat (Some ms) d e flat =
    let same : object ms ≡ d = cc in let low : members_depth ms ≤ 0 = flat ms refl in subst (λ x. depth x ≤ max_depth) same (omega arith)

names_flat : (m : Pairs) (d : Data) → names_written m ≡ Some d → depth d ≤ max_depth
names_flat m d e = object_flat (members_written (λ name. Some name) (λ text. Some (string text)) no_members m) d e
    (λ ms is. members_flat m no_members ms (omega arith) is)

-- ---- what it is read as

same_pairs : (m n : Pairs) → SameKeys (λ a b. a ≡ b) m n → n ≡ m
same_pairs [] [] h = refl
same_pairs [] (f ∷ n) h = absurd h
same_pairs (e ∷ m) [] h = absurd h
same_pairs (e ∷ m) (f ∷ n) h =
    ap (λ a. (a, f.1) ∷ n) (sym h.0) ∙ ap (λ b. (e.0, b) ∷ n) (sym h.1.0) ∙ ap (λ (l : Pairs). e ∷ l) (same_pairs m n h.1.1)

same_again : (m : Pairs) (r : Result Pairs JsonError) → IsAgain (SameKeys (λ a b. a ≡ b) m) r → IsAgain (λ n. n ≡ m) r
same_again m (Ok n) h = same_pairs m n h
same_again m (Err e) h = h

not_wide : (o : Option Data) (d : Data) → or_wide o ≡ Ok d → o ≡ Some d
not_wide None d e = cc
not_wide (Some x) d e = cc

pub returns : goal.returns
returns c =
    let written : names_written c.args.names.now.pairs ≡ Some (view c.in_ok-value.value) = not_wide _ _ c.in_ok-value.ensures in
    record {
      value = view c.in_ok-value.value;
      is = c.in_ok-to_string.ensures.reads_back (names_flat c.args.names.now.pairs _ written);
      same = λ rule. same_again c.args.names.now.pairs _ (c.maps_are_read_again.ensures.named rule _ refl written);
    }
