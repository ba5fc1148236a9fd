-- Maps that are written as the members of an object and read again, whatever their keys have.
use Rattle.std.proofs.Common.{◌≡◌, List, [], ◌∷◌, ◌++◌, Option, Some, None, Result, refl, sym, ap, ◌∙◌, subst, append_assoc, append-nil}
use Rattle.std.proofs.lemmas.Cmp.{tied_itself}
use Rattle.std.proofs.lemmas.Map.Text.{is_eq-slice_cmp}
use Rattle.std.proofs.lemmas.Slice.Eq.{bytes_eq-Decides}
use Rattle.std.specs.Cmp.{IsTotalOrder}
use Rattle.std.specs.Cmp.Lexicographic.{slice_cmp}
use Rattle.std.specs.List.{AllByRecursion}
use Rattle.std.specs.List.Sorted.{IsStrictlySortedBy}
use Rattle.std.specs.Option.{option_and_then}
use Rattle.std.specs.Ordering.{is_eq, match_ordering, nat_cmp}
use Rattle.std.specs.Prelude.{⊤, false}
use Rattle.std.specs.declared.cmp.Ordering.{Ordering}
use Rattle.std.specs.declared.cmp.Ordering.TheVariants.{Less, Equal, Greater}
use Rattle.serde_json.specs.Data.{Data, Members, no_members, member, put}
use Rattle.zv_json.specs.Again.{IsAgain, then_again}
use Rattle.zv_json.specs.declared.error.JsonError.{JsonError}
use Rattle.zv_map.proofs.Places.{look_up-insert_entry}
use Rattle.zv_map.specs.Maps.{IsMap, insert_entry, keys_of, look_up}
use Rattle.zv_map1.specs.Views.{Bytes, Order}
use Rattle.zv_forms.specs.Maps.{members_taken, members_written}
use Rattle.zv_forms.proofs.Rearranged.{AreBelow, Entries, above, put_all, put_at_end, put_between}

-- these entries are written as those members, in turn
abbrev pub AreMembers : {X : Type 0} → (Bytes → Option Bytes) → (X → Option Data) → Entries X → Members → Type 0
AreMembers name value [] no_members = ⊤
AreMembers name value (e ∷ es) (member l d ms) = (name e.0 ≡ Some l) × ((value e.1 ≡ Some d) × AreMembers name value es ms)
AreMembers name value [] (member l d ms) = ⊥
AreMembers name value (e ∷ es) no_members = ⊥

-- no key stands twice
abbrev pub AreDistinct : {X : Type 0} → Order → Entries X → Type 0
AreDistinct order [] = ⊤
AreDistinct order (e ∷ es) = AllByRecursion (λ f. is_eq (order e.0 f.0) ≡ false) es × AreDistinct order es

-- each key is below those that follow
abbrev pub AreInOrder : {X : Type 0} → Order → Entries X → Type 0
AreInOrder order [] = ⊤
AreInOrder order (e ∷ es) = AllByRecursion (λ f. order e.0 f.0 ≡ Less) es × AreInOrder order es

from_keys : {X : Type 0} (P : Bytes → Type 0) (es : Entries X) → AllByRecursion P (keys_of es) → AllByRecursion (λ e. P e.0) es
from_keys P [] h = tt
from_keys P (e ∷ es) h = (h.0, from_keys P es h.1)

-- the entries of a map stand in order
pub in_order : {X : Type 0} (order : Order) (m : Entries X) → IsMap order m → AreInOrder order m
unfolding IsStrictlySortedBy
in_order order [] up = tt
in_order order (e ∷ m) up = (from_keys (λ k. order e.0 k ≡ Less) m up.0, in_order order m up.1)

-- ---- entries one after another

module _ {A : Type 0} where
  pub split_all : (P : A → Type 0) (es fs : List A) → AllByRecursion P (es ++ fs) → AllByRecursion P es × AllByRecursion P fs
  split_all P [] fs h = (tt, h)
  split_all P (e ∷ es) fs h = let s = split_all P es fs h.1 in ((h.0, s.0), s.1)

  pub join_all : (P : A → Type 0) (es fs : List A) → AllByRecursion P es → AllByRecursion P fs → AllByRecursion P (es ++ fs)
  join_all P [] fs h i = i
  join_all P (e ∷ es) fs h i = (h.0, join_all P es fs h.1 i)

  pub between_all : (P : A → Type 0) (front back : List A) (e : A) → AllByRecursion P (front ++ back) → P e → AllByRecursion P (front ++ e ∷ back)
  between_all P front back e h p = let s = split_all P front back h in join_all P front (e ∷ back) s.0 (p, s.1)

module _ {X : Type 0} where
  -- each of the keys is above those before
  abbrev pub AreAfter : Order → Entries X → Entries X → Type 0
  AreAfter order done rest = AllByRecursion (λ e. AreBelow order done e.0) rest

  pub after_more : (order : Order) (done rest : Entries X) (e : Bytes × X) → AreAfter order done rest → AllByRecursion (λ f. order e.0 f.0 ≡ Less) rest →
      AreAfter order (done ++ e ∷ []) rest
  after_more order done [] e h i = tt
  after_more order done (f ∷ rest) e h i = (join_all (λ g. order g.0 f.0 ≡ Less) done (e ∷ []) h.0 (i.0, tt), after_more order done rest e h.1 i.1)

  pub after_none : (order : Order) (rest : Entries X) → AreAfter order [] rest
  after_none order [] = tt
  after_none order (e ∷ rest) = (tt, after_none order rest)

-- ---- members

same_name : (l j : Bytes) → slice_cmp nat_cmp l j ≡ Equal → l ≡ j
same_name l j e = (bytes_eq-Decides l j).0 (sym (is_eq-slice_cmp l j) ∙ ap is_eq e)

module _ {order : Order} (total : IsTotalOrder order) {X : Type 0} (name of_name : Bytes → Option Bytes)
    (value : X → Option Data) (IsEntry : Bytes × X → Type 0)
    (named : (e : Bytes × X) (l : Bytes) → IsEntry e → name e.0 ≡ Some l → of_name l ≡ Some e.0) where
  -- the entry among others, whose members are these
  record IsAmong (es : Entries X) (e : Bytes × X) (ms : Members) : Type 0 where
    front : Entries X
    back : Entries X
    parts : front ++ back ≡ es
    members : AreMembers name value (front ++ e ∷ back) ms

  -- names of different keys differ
  other_name : (e f : Bytes × X) (l j : Bytes) → IsEntry e → IsEntry f → name e.0 ≡ Some l → name f.0 ≡ Some j → order f.0 e.0 ≡ Less →
      slice_cmp nat_cmp l j ≡ Equal → ⊥
  other_name e f l j ke kf ne nf less same =
      let names : l ≡ j = same_name l j same in
      let mine = named e l ke ne in
      let its = named f j kf nf in
      let keys : e.0 ≡ f.0 = cc in
      let again : order f.0 f.0 ≡ Less = rw keys at less in
      cc (again, tied_itself total f.0)

  among : (es : Entries X) (ms : Members) (e : Bytes × X) (l : Bytes) (d : Data) → AreMembers name value es ms → AllByRecursion IsEntry es → IsEntry e →
      name e.0 ≡ Some l → value e.1 ≡ Some d → AreBelow order es e.0 → IsAmong es e (put l d ms)
  among [] no_members e l d are all here n v below = record { front = []; back = []; parts = refl; members = (n, (v, tt)) }
  among [] (member j c ms) e l d are all here n v below = absurd are
  among (f ∷ es) no_members e l d are all here n v below = absurd are
  among (f ∷ es) (member j c ms) e l d are all here n v below =
      go (slice_cmp nat_cmp l j) refl (among es ms e l d are.1.1 all.1 here n v below.1)
    where
      go : (r : Ordering) → slice_cmp nat_cmp l j ≡ r → IsAmong es e (put l d ms) →
          IsAmong (f ∷ es) e (match_ordering r (member l d (member j c ms)) (member j d ms) (member j c (put l d ms)))
      go Less same rest = record { front = []; back = f ∷ es; parts = refl; members = (n, (v, are)) }
      go Equal same rest = absurd (other_name e f l j here all.0 n are.0 below.0 same)
      go Greater same rest = record {
        front = f ∷ rest.front;
        back = rest.back;
        parts = ap (λ fs. f ∷ fs) rest.parts;
        members = (are.0, (are.1.0, rest.members));
      }

  -- the entries of members, which make the map `done`
  record AreEntriesOf (done : Entries X) (ms : Members) : Type 0 where
    entries : Entries X
    members : AreMembers name value entries ms
    same : put_all order [] entries ≡ done
    below : (k : Bytes) → AreBelow order done k → AreBelow order entries k
    all : AllByRecursion IsEntry entries
    distinct : AreDistinct order entries

  apart_below : (e : Bytes × X) (fs : Entries X) → AreBelow order fs e.0 → AllByRecursion (λ f. is_eq (order e.0 f.0) ≡ false) fs
  apart_below e [] h = tt
  apart_below e (f ∷ fs) h = (ap is_eq (above total f.0 e.0 h.0), apart_below e fs h.1)

  distinct_between : (front back : Entries X) (e : Bytes × X) → AreDistinct order (front ++ back) → AreBelow order (front ++ back) e.0 →
      AreDistinct order (front ++ e ∷ back)
  distinct_between [] back e h below = (apart_below e back below, h)
  distinct_between (f ∷ front) back e h below =
      (between_all (λ g. is_eq (order f.0 g.0) ≡ false) front back e h.0 (ap is_eq below.0), distinct_between front back e h.1 below.1)

  -- an entry is put at the end of the map, and somewhere among the members
  more : (done : Entries X) (ms : Members) (e : Bytes × X) (l : Bytes) (d : Data) → AreEntriesOf done ms → IsEntry e → name e.0 ≡ Some l → value e.1 ≡ Some d →
      AreBelow order done e.0 → AreEntriesOf (done ++ e ∷ []) (put l d ms)
  more done ms e l d a here n v below =
      let low = a.below e.0 below in
      let p = among a.entries ms e l d a.members a.all here n v low in
      let parts : (P : Entries X → Type 0) → P a.entries → P (p.front ++ p.back) = λ P h. subst P (sym p.parts) h in
      record {
        entries = p.front ++ e ∷ p.back;
        members = p.members;
        same = put_between total [] p.front e.0 e.1 p.back (split_all (λ f. order f.0 e.0 ≡ Less) p.front p.back (parts (λ es. AreBelow order es e.0) low)).1
            ∙ ap (λ es. insert_entry order (put_all order [] es) e.0 e.1) p.parts
            ∙ ap (λ m. insert_entry order m e.0 e.1) a.same ∙ put_at_end total done e.0 e.1 below;
        below = λ k h.
            let s = split_all (λ f. order f.0 k ≡ Less) done (e ∷ []) h in
            between_all (λ f. order f.0 k ≡ Less) p.front p.back e (parts (λ es. AreBelow order es k) (a.below k s.0)) s.1.0;
        all = between_all IsEntry p.front p.back e (parts (AllByRecursion IsEntry) a.all) here;
        distinct = distinct_between p.front p.back e (parts (AreDistinct order) a.distinct) (parts (λ es. AreBelow order es e.0) low);
      }

  -- an entry that was written, and then the others
  record IsWritten (e : Bytes × X) (ms : Members) (rest : Entries X) (all : Members) : Type 0 where
    key : Bytes
    has : Data
    key_is : name e.0 ≡ Some key
    has_is : value e.1 ≡ Some has
    others : members_written name value (put key has ms) rest ≡ Some all

  written_first : (e : Bytes × X) (ms : Members) (rest : Entries X) (all : Members) (n : Option Bytes) (v : Option Data) →
      name e.0 ≡ n → value e.1 ≡ v → option_and_then (λ l. option_and_then (λ d. members_written name value (put l d ms) rest) v) n ≡ Some all →
      IsWritten e ms rest all
  written_first e ms rest all None v nh vh is = cc
  written_first e ms rest all (Some l) None nh vh is = cc
  written_first e ms rest all (Some l) (Some d) nh vh is = record { key = l; has = d; key_is = nh; has_is = vh; others = is }

  arranged : (done rest : Entries X) (ms all : Members) → AreEntriesOf done ms → AreAfter order done rest → AreInOrder order rest →
      AllByRecursion IsEntry rest → members_written name value ms rest ≡ Some all → AreEntriesOf (done ++ rest) all
  arranged done [] ms all a after up entries is =
      let same : ms ≡ all = cc in
      subst (AreEntriesOf (done ++ [])) same (subst (λ es. AreEntriesOf es ms) (sym (append-nil done)) a)
  arranged done (e ∷ rest) ms all a after up entries is =
      let w = written_first e ms rest all (name e.0) (value e.1) refl refl is in
      let longer = more done ms e w.key w.has a entries.0 w.key_is w.has_is after.0 in
      subst (λ es. AreEntriesOf es all) (append_assoc done (e ∷ []) rest)
      (arranged (done ++ e ∷ []) rest (put w.key w.has ms) all longer (after_more order done rest e after.1 up.0) up.1 entries.1 w.others)

  -- the members that a map is written as, in any order
  entries_of : (m : Entries X) (ms : Members) → AreInOrder order m → AllByRecursion IsEntry m →
      members_written name value no_members m ≡ Some ms → AreEntriesOf m ms
  entries_of m ms up entries is = arranged [] m no_members ms none (after_none order m) up entries is
    where
      none : AreEntriesOf [] no_members
      none = record { entries = []; members = tt; same = refl; below = λ k h. tt; all = tt; distinct = tt }

  -- ---- and read again

  module _ {M : Type 0} (Alike : Entries X → M → Type 0) (take : M → Bytes → Data → Result M JsonError)
      (taken : (z : Entries X) (m : M) (e : Bytes × X) (d : Data) → Alike z m → IsEntry e → look_up order z e.0 ≡ None → value e.1 ≡ Some d →
      IsAgain (Alike (insert_entry order z e.0 e.1)) (take m e.0 d)) where
    -- none of them stands in the map
    abbrev AreNew : Entries X → Entries X → Type 0
    AreNew z es = AllByRecursion (λ e. look_up order z e.0 ≡ None) es

    still_new : (z : Entries X) (e : Bytes × X) (es : Entries X) → AreNew z es → AllByRecursion (λ f. is_eq (order e.0 f.0) ≡ false) es →
        AreNew (insert_entry order z e.0 e.1) es
    still_new z e [] new other = tt
    still_new z e (f ∷ es) new other = (rw (look_up-insert_entry total z e.0 f.0 e.1, other.0) new.0, still_new z e es new.1 other.1)

    taken_again : (z : Entries X) (m : M) (es : Entries X) (ms : Members) → AreMembers name value es ms → AllByRecursion IsEntry es → AreDistinct order es →
        AreNew z es → Alike z m → IsAgain (Alike (put_all order z es)) (members_taken of_name take m ms)
    taken_again z m [] no_members are all distinct new alike = alike
    taken_again z m [] (member l d ms) are all distinct new alike = absurd are
    taken_again z m (e ∷ es) no_members are all distinct new alike = absurd are
    taken_again z m (e ∷ es) (member l d ms) are all distinct new alike =
        rw (named e l all.0 are.0)
        (then_again (Alike (insert_entry order z e.0 e.1)) (Alike (put_all order (insert_entry order z e.0 e.1) es)) (take m e.0 d) _
        (taken z m e d alike all.0 new.0 are.1.0)
        (λ n a. taken_again (insert_entry order z e.0 e.1) n es ms are.1.1 all.1 distinct.1 (still_new z e es new.1 distinct.0) a))

    -- what a map is written as is read as one alike, or is too large
    pub members_again : (none : M) (m : Entries X) (ms : Members) → Alike [] none → AreInOrder order m → AllByRecursion IsEntry m →
        members_written name value no_members m ≡ Some ms →
        IsAgain (Alike m) (members_taken of_name take none ms)
    members_again none m ms empty up entries is =
        let a = entries_of m ms up entries is in
        subst (λ n. IsAgain (Alike n) (members_taken of_name take none ms)) a.same
        (taken_again [] none a.entries ms a.members a.all a.distinct (all_new a.entries) empty)
      where
        all_new : (es : Entries X) → AreNew [] es
        all_new [] = tt
        all_new (e ∷ es) = (refl, all_new es)
