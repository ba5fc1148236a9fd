-- What is written is read as what it was.
use Rattle.std.proofs.Common.{◌≡◌, ℕ, zero, suc, ◌^◌, ◌<◌, ◌-◌, ◌==◌, List, [], ◌∷◌, length, map}
use Rattle.std.proofs.Common.{Bool, true, false, ℤ, pos, negsuc, nat_lt, Option}
use Rattle.std.proofs.Common.{Some, None, Result, Ok, Err, if◌then◌else◌, refl, sym, ap, subst, ◌∙◌}
use Rattle.std.proofs.Common.{arith, FitsSigned}
use Rattle.std.proofs.lemmas.Bool.{lt-ltb, ltb-true}
use Rattle.std.specs.Option.{option_map, option_and_then}
use Rattle.std.specs.List.{AllByRecursion}
use Rattle.serde_json.specs.Data.{Data, Num, null, boolean, string, number, array, object, unsigned}
use Rattle.serde_json.specs.Data.{negative}
use Rattle.zv_json.specs.Arrays.{all_written, array_written, array_in, read_each, list_in}
use Rattle.zv_json.specs.Json.{and_then, array_of, items_in, list_of}
use Rattle.zv_json.specs.Numbers.{number_data, integer_in, number_in, unsigned_within}
use Rattle.zv_json.specs.Numbers.{signed_within, unless_zero, signed_unless_zero, non_zero_within}
use Rattle.zv_json.specs.Numbers.{signed_non_zero_within}
use Rattle.std.specs.Int.{w8}
use Rattle.std.specs.declared.num.NonZeroI8.{NonZeroI8}
use Rattle.std.specs.declared.num.NonZeroU8.{NonZeroU8}
use Rattle.std.proofs.Common.{get_or}
use Rattle.zv_ule.specs.Bytes.{IsRaw}
use Rattle.zv_ule.specs.NonZero.{of_value, of_signed_value}
use Rattle.std.proofs.Math.Pow.{pow_mono}
use Rattle.serde_json.specs.Find.{as_null}
use Rattle.serde_json.specs.Data.{no_items}
use Rattle.serde_json.specs.View.{items_of}
use Rattle.std.specs.Prelude.{IfSome, ⊤}
use Rattle.zv_json.specs.Options.{option_data, option_in, unless_null}
use Rattle.zv_json.specs.declared.error.JsonError.{JsonError}
use Rattle.std.proofs.Common.{◌++◌, bytes_eq, encode_utf8, chars, append-nil, decimal, neg_ℤ}
use Rattle.std.proofs.Common.{unsigned_abs}
use Rattle.std.proofs.lemmas.Fmt.{decimal_is_IsNumeral_wide}
use Rattle.std.proofs.lemmas.Slice.Eq.{bytes_eq-Decides}
use Rattle.std.proofs.lemmas.Str.{chars-encodes}
use Rattle.std.proofs.lemmas.Str.Parse.{digit_from_value}
use Rattle.std.specs.Char.{IsScalar}
use Rattle.std.specs.Fmt.{signed_decimal}
use Rattle.std.specs.Str.Parse.{AllDigits, digits_value, signed_digits_value}
use Rattle.zv_json.specs.Numbers.{number_key}
use Rattle.zv_json.specs.Texts.{bool_in, char_in, char_key}
use Rattle.std.proofs.Common.{eqb, inl, inr}
use Rattle.std.proofs.lemmas.Bool.Decides.{eqb_tells}
use mir.Syntax.{Width}
use mir.Val.{hbits}

-- ---- numbers

-- a value is what its number is read as, which has 128 bits
pub record IsInRange {A : Type 0} (within : ℤ → Option A) (z : ℤ) (v : A) : Type 0 where
  pub own : within z ≡ Some v
  pub small : unsigned_abs z < 2 ^ 128

-- a number of k bits is in their range
pub unsigned_in_range : (k n : ℕ) → nat_lt k 129 ≡ true → n < 2 ^ k →
    IsInRange (unsigned_within k) (pos n) n
unsigned_in_range k n few h = record {
  own = rw (lt-ltb n (2 ^ k) h) refl;
  small = omega (arith, pow_mono {i = k} {j = 128} (omega (arith, ltb-true k 129 few)));
}

signed_own : (w : Width) (z : ℤ) → FitsSigned w z → signed_within (suc (hbits w)) z ≡ Some z
signed_own w (pos n) h = let e : suc (hbits w) - 1 ≡ hbits w = omega arith in
    rw (e, lt-ltb n (2 ^ hbits w) h.sfits) refl
signed_own w (negsuc n) h = let e : suc (hbits w) - 1 ≡ hbits w = omega arith in
    rw (e, lt-ltb n (2 ^ hbits w) h.sfits) refl

signed_small : (w : Width) (z : ℤ) → hbits w < 128 → FitsSigned w z → unsigned_abs z < 2 ^ 128
signed_small w (pos n) few h = omega (
  arith,
  h.sfits,
  pow_mono {i = hbits w} {j = 127}
      (omega arith),
)
signed_small w (negsuc n) few h =
    omega (arith, h.sfits, pow_mono {i = hbits w} {j = 127} (omega arith))

-- so is one in two's complement
pub signed_in_range : (w : Width) (z : ℤ) → nat_lt (hbits w) 128 ≡ true → FitsSigned w z →
    IsInRange (signed_within (suc (hbits w))) z z
signed_in_range w z few h = record {
  own = signed_own w z h;
  small = signed_small w z (ltb-true (hbits w) 128 few) h;
}

pub some_non_zero : (n : ℕ) (h : 0 < n) → unless_zero n ≡ Some (record { value = n; ok = h })
some_non_zero zero h = absurd (omega (arith, h))
some_non_zero (suc n) h = ap Some (of_value (suc n) h)

pub some_signed : (z : ℤ) (h : 0 < unsigned_abs z) →
    signed_unless_zero z ≡ Some (record { value = z; ok = h })
some_signed (pos zero) h = absurd (omega (arith, h))
some_signed (pos (suc n)) h = ap Some (of_signed_value (pos (suc n)) h)
some_signed (negsuc n) h = ap Some (of_signed_value (negsuc n) h)

-- and so is one other than 0
pub non_zero_in_range : (v : NonZeroU8) → v.value < 2 ^ 8 →
    IsInRange non_zero_within (pos v.value) v
non_zero_in_range v h =
    let r = unsigned_in_range 8 v.value refl h in
    record { own = rw r.own (some_non_zero v.value v.ok); small = r.small }

pub signed_non_zero_in_range : (v : NonZeroI8) → FitsSigned w8 v.value →
    IsInRange signed_non_zero_within v.value v
signed_non_zero_in_range v h =
    let r = signed_in_range w8 v.value refl h in
    record { own = rw r.own (some_signed v.value v.ok); small = r.small }

taken : (b : Bool) (x d : Data) → (if b then Some x else None) ≡ Some d → x ≡ d
taken true x d e = cc
taken false x d e = cc

integer_back : (z : ℤ) (d : Data) → number_data z ≡ Some d → integer_in d ≡ Ok z
integer_back (pos n) d e = subst (λ x. integer_in x ≡ Ok (pos n)) (taken (nat_lt n (2 ^ 64))
    (number (unsigned n)) d e) refl
integer_back (negsuc n) d e = subst (λ x. integer_in x ≡ Ok (negsuc n)) (taken (nat_lt n (2 ^ 63))
    (number (negative (negsuc n))) d e) refl

pub number_back : {A : Type 0} (within : ℤ → Option A) (v : A) (z : ℤ) (d : Data) →
    IsInRange within z v → number_data z ≡ Some d → number_in within d ≡ Ok v
number_back within v z d is e = rw (integer_back z d e, is.own) refl

pub unsigned_back : (k : ℕ) → nat_lt k 129 ≡ true → (n : ℕ) (d : Data) → n < 2 ^ k →
    number_data (pos n) ≡ Some d → number_in (unsigned_within k) d ≡ Ok n
unsigned_back k few n d h e = number_back (unsigned_within k) n (pos n) d
    (unsigned_in_range k n few h) e

-- ---- lists

list_of-items_of : (ds : List Data) → list_of (items_of ds) ≡ ds
list_of-items_of [] = refl
list_of-items_of (d ∷ ds) = ap (λ xs. d ∷ xs) (list_of-items_of ds)

-- what is written first, and the rest
pub record Split (a : Option Data) (ds : List (Option Data)) (xs : List Data) : Type 0 where
  pub first : Data
  pub rest : List Data
  pub first_is : a ≡ Some first
  pub rest_is : all_written ds ≡ Some rest
  pub both : first ∷ rest ≡ xs

split_rest : (x : Data) (ds : List (Option Data)) (o : Option (List Data)) (xs : List Data) →
    all_written ds ≡ o →
    option_map (λ ys. x ∷ ys) o ≡ Some xs → Split (Some x) ds xs
split_rest x ds None xs is e = cc
split_rest x ds (Some ys) xs is e = record {
  first = x;
  rest = ys;
  first_is = refl;
  rest_is = is;
  both = cc;
}

pub split : (a : Option Data) (ds : List (Option Data)) (xs : List Data) →
    all_written (a ∷ ds) ≡ Some xs → Split a ds xs
split None ds xs e = cc
split (Some x) ds xs e = split_rest x ds (all_written ds) xs refl e

-- the items of an array that was written
pub record Items_of (ds : List (Option Data)) (d : Data) : Type 0 where
  pub items : List Data
  pub all : all_written ds ≡ Some items
  pub items_are : items_in d ≡ Ok items

items_of_map : (ds : List (Option Data)) (o : Option (List Data)) (d : Data) → all_written ds ≡ o →
    option_map array_of o ≡ Some d → Items_of ds d
items_of_map ds None d is e = cc
items_of_map ds (Some xs) d is e =
    let same : array_of xs ≡ d = cc in
    record {
      items = xs;
      all = is;
      items_are = subst (λ y. items_in y ≡ Ok xs) same
          (ap Ok (list_of-items_of xs));
    }

pub array_items : (ds : List (Option Data)) (d : Data) → array_written ds ≡ Some d → Items_of ds d
array_items ds d e = items_of_map ds (all_written ds) d refl e

all_length : {A : Type 0} (is : A → Type 0) (written : A →
    Option Data) (vs : List A) (ds : List Data) →
    all_written (map written vs) ≡ Some ds → length ds ≡ length vs
all_length is written [] ds e = let none : [] ≡ ds = cc in subst (λ xs. length xs ≡ 0) none refl
all_length is written (v ∷ vs) ds e =
    let s = split (written v) (map written vs) ds e in
    subst (λ xs. length xs ≡ length (v ∷ vs)) s.both
    (omega (arith, all_length is written vs s.rest s.rest_is))

pub each_back : {A : Type 0} (is : A → Type 0) (written : A → Option Data) (read : Data →
    Result A JsonError) →
    ((v : A) (d : Data) → is v → written v ≡ Some d → read d ≡ Ok v) →
    (vs : List A) (ds : List Data) → AllByRecursion is vs → all_written (map written vs) ≡ Some ds →
    read_each read ds ≡ Ok vs
each_back is written read back [] ds h e = let none : [] ≡ ds = cc in
    subst (λ xs. read_each read xs ≡ Ok []) none refl
each_back is written read back (v ∷ vs) ds h e =
    let s = split (written v) (map written vs) ds e in
    let here = back v s.first h.0 s.first_is in
    let there = each_back is written read back vs s.rest h.1 s.rest_is in
    subst (λ xs. read_each read xs ≡ Ok (v ∷ vs)) s.both (rw (here, there) refl)

pub list_back : {A : Type 0} (is : A → Type 0) (written : A → Option Data) (read : Data →
    Result A JsonError) →
    ((v : A) (d : Data) → is v → written v ≡ Some d → read d ≡ Ok v) →
    (vs : List A) (d : Data) → AllByRecursion is vs → array_written (map written vs) ≡ Some d →
    list_in read d ≡ Ok vs
list_back is written read back vs d h e =
    let s = array_items (map written vs) d e in
    rw (s.items_are, each_back is written read back vs s.items h s.all) refl

eqb_self : (n : ℕ) → eqb n n ≡ true
eqb_self n = elim (eqb_tells n n) [ inl p ↦ p.0 | inr p ↦ absurd (p.1 refl) ]

-- what is written of as many as there are places
pub array_back : {A : Type 0} (is : A → Type 0) (written : A → Option Data)
    (read : Data → Result A JsonError) →
    ((v : A) (d : Data) → is v → written v ≡ Some d → read d ≡ Ok v) →
    (n : ℕ) (vs : List A) (d : Data) → length vs ≡ n → AllByRecursion is vs →
    array_written (map written vs) ≡ Some d → array_in read n d ≡ Ok vs
array_back is written read back n vs d long h e =
    let s = array_items (map written vs) d e in
    let many : length s.items ≡ n = all_length is written vs s.items s.all ∙ long in
    rw (s.items_are, many, eqb_self n) (each_back is written read back vs s.items h s.all)

pub byte_list : (bytes : List ℕ) → ((i : ℕ) → get_or bytes i 0 < 256) →
    AllByRecursion (λ b. b < 2 ^ 8) bytes
byte_list [] h = tt
byte_list (b ∷ bs) h = (h 0, byte_list bs (λ i. h (suc i)))

pub bytes_back : (n : ℕ) (bytes : List ℕ) (d : Data) → IsRaw n bytes →
    array_written (map (λ b. number_data (pos b)) bytes) ≡ Some d →
    array_in (number_in (unsigned_within 8)) n d ≡ Ok bytes
bytes_back n bytes d h e = array_back (λ b. b < 2 ^ 8) (λ b. number_data (pos b))
    (number_in (unsigned_within 8)) (unsigned_back 8 refl) n bytes d h.long
    (byte_list bytes h.each.at) e

-- ---- values that may be missing

unless : {A : Type 0} (d : Data) (read : Result A JsonError) → (d ≡ null → ⊥) →
    unless_null (as_null d) read ≡ and_then read (λ v. Ok (Some v))
unless null read some = absurd (some refl)
unless (boolean b) read some = refl
unless (number n) read some = refl
unless (string s) read some = refl
unless (array ds) read some = refl
unless (object ms) read some = refl

pub option_back : {A : Type 0} (is : A → Type 0) (written : A → Option Data) (read : Data →
    Result A JsonError) →
    ((v : A) (d : Data) → is v → written v ≡ Some d → read d ≡ Ok v) →
    ((v : A) → written v ≡ Some null → ⊥) →
    (o : Option A) (d : Data) → IfSome o is → option_data written o ≡ Some d →
    option_in read d ≡ Ok o
option_back is written read back plain None d h e = let same : null ≡ d = cc in
    subst (λ x. option_in read x ≡ Ok None) same refl
option_back is written read back plain (Some v) d h e =
    rw (unless d (read d) (λ z. plain v (e ∙ ap Some z)), back v d h e) refl

-- ---- parts of an array, one after another

-- what follows of an answer follows of the call that gave it
pub then_ok : {A B : Type 0} {r : Result A JsonError} {a : A} (f : A →
    Result B JsonError) {y : Result B JsonError} → r ≡ Ok a → f a ≡ y → and_then r f ≡ y
then_ok f is more = ap (λ q. and_then q f) is ∙ more

-- these are written as those items
pub record AreWritten (ds : List (Option Data)) (xs : List Data) : Type 0 where
  pub all : all_written ds ≡ Some xs

pub of_items : {X : Type 0} (ds : List (Option Data)) (read : List Data →
    Result X JsonError) {y : Result X JsonError} →
    ((xs : List Data) → AreWritten ds xs → read xs ≡ y) → (d : Data) → array_written ds ≡ Some d →
    and_then (items_in d) read ≡ y
of_items ds read back d e = let s = array_items ds d e in
    then_ok read s.items_are (back s.items (record { all = s.all }))

pub one_item : {X : Type 0} {a : Option Data} {ds : List (Option Data)} (read : List Data →
    X) {y : X} →
    ((p : Data) → a ≡ Some p → (xs : List Data) → AreWritten ds xs → read (p ∷ xs) ≡ y) →
    (xs : List Data) → AreWritten (a ∷ ds) xs → read xs ≡ y
one_item {a = a} {ds = ds} read {y = y} back xs e =
    let s = split a ds xs e.all in
    subst (λ zs. read zs ≡ y) s.both (back s.first s.first_is s.rest (record { all = s.rest_is }))

pub no_item : {X : Type 0} (read : List Data → X) {y : X} → read [] ≡ y → (xs : List Data) →
    AreWritten [] xs → read xs ≡ y
no_item read {y = y} back xs e = let none : [] ≡ xs = cc (e.all) in
    subst (λ zs. read zs ≡ y) none back

-- ---- characters

char_of_bytes : (c : ℕ) → IsScalar c → chars (encode_utf8 c) ≡ c ∷ []
char_of_bytes c h = ap chars (sym (append-nil (encode_utf8 c))) ∙ chars-encodes (c ∷ []) (rw h refl)

same_text : (xs : List ℕ) → bytes_eq xs xs ≡ true
same_text xs = (bytes_eq-Decides xs xs).1 refl

char_key_own : (c : ℕ) → IsScalar c → char_key (encode_utf8 c) ≡ Some c
char_key_own c h = rw (char_of_bytes c h, same_text (encode_utf8 c)) refl

pub char_named : (c : ℕ) (name : List ℕ) → IsScalar c → Some (encode_utf8 c) ≡ Some name →
    char_key name ≡ Some c
char_named c name h e = let same : encode_utf8 c ≡ name = cc in
    subst (λ text. char_key text ≡ Some c) same (char_key_own c h)

pub char_back : (c : ℕ) (d : Data) → IsScalar c → Some (string (encode_utf8 c)) ≡ Some d →
    char_in d ≡ Ok c
char_back c d h e = let same : string (encode_utf8 c) ≡ d = cc in
    subst (λ x. char_in x ≡ Ok c) same (rw (char_key_own c h) refl)

pub bool_back : (b : Bool) (d : Data) → Some (boolean b) ≡ Some d → bool_in d ≡ Ok b
bool_back b d e = let same : boolean b ≡ d = cc in subst (λ x. bool_in x ≡ Ok b) same refl

-- ---- names

eqb_no : (a b : ℕ) → (a ≡ b → ⊥) → eqb a b ≡ false
eqb_no a b h = elim (eqb_tells a b) [ inl p ↦ absurd (h p.1) | inr p ↦ p.0 ]

first_digit : (ds : List ℕ) (n : ℕ) → AllDigits 10 ds → 0 < length ds → digits_value 10 ds ≡ n →
    signed_digits_value 10 ds ≡ pos n
first_digit [] n all some is = absurd (omega arith)
first_digit (c ∷ cs) n all some is =
    let low = digit_from_value c all.0 in
    rw (eqb_no c 45 (omega arith), eqb_no c 43 (omega arith)) (ap pos is)

pub decimal_back : (z : ℤ) → unsigned_abs z < 2 ^ 128 → signed_digits_value 10 (signed_decimal z)
    ≡ z
decimal_back (pos n) h =
    let k = decimal_is_IsNumeral_wide n (omega arith) in
    first_digit (decimal n) n k.0.1 k.0.0 k.1
decimal_back (negsuc n) h =
    let k = decimal_is_IsNumeral_wide (suc n) (omega arith) in
    ap (λ m. neg_ℤ (pos m)) k.1

pub number_named : {A : Type 0} (within : ℤ → Option A) (v : A) (z : ℤ) (name : List ℕ) →
    IsInRange within z v → Some (signed_decimal z) ≡ Some name →
    option_and_then within (number_key name) ≡ Some v
number_named within v z name is e =
    let same : signed_decimal z ≡ name = cc in
    subst (λ text. option_and_then within (number_key text) ≡ Some v) same
    (rw (decimal_back z is.small, same_text (signed_decimal z), is.own) refl)

-- what has no name has none that leads back
pub nothing_named : {A : Type 0} {o : Option A} (v : A) (name : List ℕ) →
    None ≡ Some name → o ≡ Some v
nothing_named v name e = cc
