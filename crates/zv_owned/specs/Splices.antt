-- What a change brings into a list, and what it changes in the list's bytes. w is the width of a
-- field in bytes.
use Rattle.std.specs.Prelude.{◌≡◌, ℕ, ◌+◌, ◌-◌, ◌*◌, ◌^◌, ◌<◌, ◌≤◌, ◌==◌, max, List, ◌++◌}
use Rattle.std.specs.Prelude.{length, map, if◌then◌else◌, Option, Some, None}
use Rattle.std.specs.Borrow.{Bor}
use Rattle.std.specs.List.{AllByRecursion, concat, flat_map}
use Rattle.std.specs.Option.{ForSome, option_map, option_to_list}
use Rattle.zv_ule.specs.Bytes.{le}
use Rattle.zv_var.specs.Format.{starts}
use Rattle.zv_owned.specs.declared.writes.Edit.{Edit}

-- what is written for an argument, if there is one
abbrev pub new_bytes : {Q : Type 0} → (Q → List ℕ) → Option (Bor Q) → Option (List ℕ)
new_bytes bytes value = option_map (λ v. bytes v.now) value

-- the elements that it brings: one, or none
abbrev pub new_elements : {Q : Type 0} → (Q → List ℕ) → Option (Bor Q) → List (List ℕ)
new_elements bytes value = option_to_list (new_bytes bytes value)

-- where an element starts that came after out bytes and comes after `into` of them
abbrev pub shifted : ℕ → ℕ → ℕ → ℕ
shifted into out s = s + into - out

-- each start fits a field, before and after
abbrev pub CanShift : ℕ → ℕ → ℕ → List ℕ → Type 0
CanShift w into out ss =
    AllByRecursion (λ s. (s < 256 ^ w) × ((out ≤ s + into) × (s + into < out + 256 ^ w))) ss

-- y is written over n bytes from a place on
abbrev pub Puts : List ℕ → ℕ → ℕ → List ℕ → List ℕ → Type 0
Puts old at n y new = (p x q : List ℕ) → old ≡ p ++ (x ++ q) → length p ≡ at → length x ≡ n →
    new ≡ p ++ (y ++ q)

-- how many elements there are after the change
abbrev pub count_after : Edit → ℕ
count_after e = e.kept + length (option_to_list e.start) + e.later

-- the change may be made in so many bytes, where `new` are those of the new element
pub record CanEdit (w long : ℕ) (new : List ℕ) (e : Edit) : Type 0 where
  pub kept : 0 < e.kept
  pub inside : w * e.kept + w * e.gone + w * e.later + e.before + e.out ≤ long
  pub short : long < 2 ^ 63
  pub into : e.into ≡ length new
  pub small : e.into < 2 ^ 32
  pub start_fits : ForSome e.start (λ n. n < 256 ^ w)
  pub count_fits : count_after e < 256 ^ w

-- The bytes after the change: c is the count, ps the starts that stay, gs those that go, ss those
-- after them; d are the elements that stay before the place, o those that go, t those after it.
abbrev pub Edits : ℕ → Edit → List ℕ → List ℕ → List ℕ → Type 0
Edits w e new old bytes = (c ps gs ss d o t : List ℕ) →
    old ≡ (c ++ flat_map (le w) ps) ++
    (flat_map (le w) gs ++ ((flat_map (le w) ss ++ d) ++ (o ++ t))) →
    length c ≡ w → length ps + 1 ≡ e.kept → length gs ≡ e.gone → length ss ≡ e.later →
    length d ≡ e.before → length o ≡ e.out → CanShift w e.into e.out ss →
    (length (option_to_list e.start) ≡ e.gone → c ≡ le w (count_after e)) →
    bytes ≡ le w (count_after e) ++ (flat_map (le w) ps ++ (flat_map (le w) (option_to_list e.start)
    ++ (flat_map (le w) (map (shifted e.into e.out) ss) ++ (d ++ (new ++ t)))))

-- what e says of how many there are
pub record HasCounts (front gone back : List (List ℕ)) (o : Option (List ℕ)) (e : Edit)
    (ps gs ss : List ℕ) : Type 0 where
  pub kept : e.kept ≡ length ps + 1
  pub left : e.gone ≡ length gs
  pub later : e.later ≡ length ss
  pub before : e.before ≡ length (concat front)
  pub out : e.out ≡ length (concat gone)
  pub into : e.into ≡ length (concat (option_to_list o))
  pub some : 0 < length front + length gone + length back
  pub left_some : 0 < length front + length (option_to_list o) + length back
  pub place : max (length front) 1 ≤ e.kept
  pub rest : e.later ≤ length back
  pub brief : length (option_to_list e.start) ≤ length (option_to_list o)
  pub in_place : length gone ≡ length (option_to_list o) →
      (e.gone ≡ 0) × (length (option_to_list e.start) ≡ 0)

-- e is the change of the bytes of a list in which, between the elements before and those after, the
-- elements `gone` give way to o, or to nothing
pub record IsEdit (front gone back : List (List ℕ)) (o : Option (List ℕ)) (e : Edit) : Type 0 where
  pub ps : List ℕ
  pub gs : List ℕ
  pub ss : List ℕ
  pub old : starts (front ++ (gone ++ back)) ≡ ps ++ (gs ++ ss)
  pub new : starts (front ++ (option_to_list o ++ back)) ≡
      ps ++ (option_to_list e.start ++ map (shifted e.into e.out) ss)
  pub above : AllByRecursion (λ s. e.out ≤ s + e.into) ss
  pub counts : HasCounts front gone back o e ps gs ss

-- the most steps in which bytes become the encoding of one element of so many bytes, or of none
abbrev pub begin_steps : ℕ → Option ℕ → ℕ
begin_steps w None = 0
begin_steps w (Some e) = w + 2 * (e + w)

-- how many bytes of a list of n elements in `long` bytes stand from place i on, with their starts
abbrev pub tail_of : ℕ → ℕ → ℕ → ℕ → ℕ
tail_of w n long i = if n == 0 then 0 else long - w * max i 1

-- the most steps in which the elements of such a list from place i on, `gone` of them, give way to
-- one of so many bytes, or to none
abbrev pub most_steps : ℕ → ℕ → ℕ → ℕ → ℕ → Option ℕ → ℕ
most_steps w n long i gone None = if n == 1 then 0
    else tail_of w n long i + w * (n - i - gone) + w
most_steps w n long i gone (Some e) =
    tail_of w n long i + w * (n - i - gone) + w + 2 * (e + w)
