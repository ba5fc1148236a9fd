-- Elements that are written and read again.
use Rattle.std.proofs.Common.{◌≡◌, ℕ, zero, suc, ◌+◌, ◌<◌, ◌≤◌, ◌^◌, List, [], ◌∷◌, ◌++◌, length}
use Rattle.std.proofs.Common.{map, take, drop}
use Rattle.std.proofs.Common.{Bool, true, false, Option, Some, None, is_some, Result, Ok, Err}
use Rattle.std.proofs.Common.{if◌then◌else◌, nat_lt}
use Rattle.std.proofs.Common.{refl, sym, ap, subst, ◌∙◌, arith, codes}
use Rattle.std.proofs.lemmas.Bool.Decides.{nat_tests}
use Rattle.std.proofs.lemmas.Grind.{common_steps}
use Rattle.std.proofs.lemmas.List.{map-id}
use Rattle.std.proofs.Common.{◌*◌, ◌-◌}
use Rattle.std.specs.List.{AllByRecursion, concat, flat_map}
use Rattle.std.specs.Option.{option_or, option_map, option_and_then}
use Rattle.std.specs.Prelude.{⊤}
use Rattle.serde_json.specs.Data.{Data, object, member, no_members, string}
use Rattle.zv_ule.proofs.ChunkFaults.{kind_chunk}
use Rattle.zv_ule.proofs.Lists.{back_bytes, front_bytes, front_of, back_of, read_list}
use Rattle.zv_ule.specs.Bytes.{IsBytes, le}
use Rattle.zv_ule.specs.Chunks.{chunks_fault, chunks_of, values_of}
use Rattle.zv_ule.specs.Fixed.{IsSpelling, IsTwin}
use Rattle.zv_ule.specs.Kinds.{IsFixedKind}
use Rattle.zv_ule.specs.declared.error.TyName.{TyName}
use Rattle.zv_ule.specs.declared.error.UleError.{UleError}
use Rattle.zv_ule.specs.laws.Spellings.{through_twin}
use Rattle.zv_multi.specs.VarTuples.{var_tuple_fault}
use Rattle.zv_var.proofs.Exact.{parted}
use Rattle.zv_var.proofs.Read.{Part_from_fault, elements_from_Part, valid_from_fault}
use Rattle.zv_var.proofs.Serialized.{Part_from_serialized, below_codable, length_spelled}
use Rattle.zv_var.specs.Format.{Part, codable, elements, list_fault, starts}
use Rattle.zv_var.specs.Laws.{AreValid}
use Rattle.zv_var.specs.Nested.{slice_fault}
use Rattle.zv_var.specs.Serialize.{lengthless, lengthless_len, serialized, serialized_len}
use Rattle.zv_var.specs.Serialize.{with_count}
use Rattle.zv_json.specs.Arrays.{all_written, array_written, read_each, list_in}
use Rattle.zv_json.specs.Back.{array_items, byte_list, list_back, split, then_ok, unsigned_back}
use Rattle.zv_json.specs.Numbers.{number_data, number_in, unsigned_within}
use Rattle.zv_json.specs.Texts.{text_in}
use Rattle.std.proofs.Common.{pos, ◌&&◌, IsTrue}
use Rattle.zv_json.specs.Json.{and_then, items_in}
use Rattle.zv_json.specs.Nested.{list_of_elements}
use Rattle.zv_json.specs.Records.{parts_in, parts_written, two_members}
use Rattle.zv_json.specs.declared.error.JsonError.{JsonError}
use Rattle.zv_json.specs.declared.error.JsonError.TheVariants.{TooLarge}

-- what is read is as the fact says, or it is too large for a format
abbrev pub IsAgain : {A : Type 0} → (A → Type 0) → Result A JsonError → Type 0
IsAgain alike (Ok x) = alike x
IsAgain alike (Err e) = e ≡ TooLarge

-- two lists have as many elements, each like the one at its place
abbrev pub EachAlike : (List ℕ → List ℕ → Type 0) → List (List ℕ) → List (List ℕ) → Type 0
EachAlike alike [] [] = ⊤
EachAlike alike (x ∷ xs) (y ∷ ys) = alike x y × EachAlike alike xs ys
EachAlike alike [] (y ∷ ys) = ⊥
EachAlike alike (x ∷ xs) [] = ⊥

-- two elements are the same value and then elements alike, the value having w bytes
abbrev pub AlikeBehind : ℕ → (List ℕ → List ℕ → Type 0) → List ℕ → List ℕ → Type 0
AlikeBehind w alike e x = (take w e ≡ take w x) × alike (drop w e) (drop w x)

-- what an element of a kind is written as is read as an element alike
abbrev pub ReadsAgain : (List ℕ → Option UleError) → (List ℕ → List ℕ → Type 0) →
    (List ℕ → Option Data) → (Data → Result (List ℕ) JsonError) → Type 0
ReadsAgain fault alike written read = (e : List ℕ) (d : Data) → IsBytes e → fault e ≡ None →
    written e ≡ Some d → IsAgain (alike e) (read d)

-- ---- one after another

pub then_again : {A B : Type 0} (P : A → Type 0) (Q : B → Type 0) (r : Result A JsonError) (f : A →
    Result B JsonError) →
    IsAgain P r → ((a : A) → P a → IsAgain Q (f a)) → IsAgain Q (and_then r f)
then_again P Q (Ok a) f p more = more a p
then_again P Q (Err e) f p more = p

-- elements of a kind
abbrev pub AreElements : (List ℕ → Option UleError) → List (List ℕ) → Type 0
AreElements fault xs = AllByRecursion (λ x. IsBytes x × (fault x ≡ None)) xs

each_again : (fault : List ℕ → Option UleError) (alike : List ℕ → List ℕ →
    Type 0) (written : List ℕ → Option Data) (read : Data → Result (List ℕ) JsonError) →
    ReadsAgain fault alike written read → (xs : List (List ℕ)) (ds : List Data) →
    AreElements fault xs → all_written (map written xs) ≡ Some ds →
    IsAgain (EachAlike alike xs) (read_each read ds)
each_again fault alike written read again [] ds h e =
    let none : [] ≡ ds = cc in
    subst (λ zs. IsAgain (EachAlike alike []) (read_each read zs)) none tt
each_again fault alike written read again (x ∷ xs) ds h e =
    let s = split (written x) (map written xs) ds e in
    let rest = each_again fault alike written read again xs s.rest h.1 s.rest_is in
    subst (λ zs. IsAgain (EachAlike alike (x ∷ xs)) (read_each read zs)) s.both
    (then_again (alike x) (EachAlike alike (x ∷ xs)) (read s.first) _
    (again x s.first h.0.0 h.0.1 s.first_is)
    (λ y p. then_again (EachAlike alike xs) (EachAlike alike (x ∷ xs))
    (read_each read s.rest) _ rest (λ ys q. (p, q))))

pub list_again : (fault : List ℕ → Option UleError) (alike : List ℕ → List ℕ →
    Type 0) (written : List ℕ → Option Data) (read : Data → Result (List ℕ) JsonError) →
    ReadsAgain fault alike written read → (xs : List (List ℕ)) (d : Data) → AreElements fault xs →
    array_written (map written xs) ≡ Some d →
    IsAgain (EachAlike alike xs) (list_in read d)
list_again fault alike written read again xs d h e =
    let s = array_items (map written xs) d e in
    subst (IsAgain (EachAlike alike xs)) (sym (then_ok (read_each read) s.items_are refl))
    (each_again fault alike written read again xs s.items h s.all)

-- ---- values of fixed width

module _ {V U : Type 0} {is_value : V → Type 0} {is_stored : U → Type 0} {to : V → U} {from : U →
    V} {usable : Bool}
    {fault chunk_fault : List ℕ → Option UleError} {ty : TyName} {w : ℕ} {chunk : U →
    List ℕ} {value : List ℕ → U}
    (kind : IsFixedKind usable fault ty w chunk_fault)
    (s : IsSpelling is_stored w chunk_fault chunk value) (t : IsTwin is_value is_stored to from)
    (written : V → Option Data) (read : Data → Result V JsonError) (back : (v : V) (d : Data) →
    is_value v → written v ≡ Some d → read d ≡ Ok v) where
  -- the value of one chunk
  pub value_again : ReadsAgain fault (λ e x. e ≡ x) (λ e. written (from (value e)))
      (λ d. and_then (read d) (λ v. Ok (chunk (to v))))
  value_again e d bytes good is =
      let c = kind_chunk kind e bytes good in
      let whole = through_twin t s in
      subst (IsAgain (λ x. e ≡ x)) (sym (then_ok (λ v. Ok (chunk (to v))) (back (from (value e)) d
      (whole.reads e c) is) refl)) (sym (whole.again e c))

  -- the values of chunks one after another
  pub values_again : ReadsAgain (chunks_fault ty w chunk_fault) (λ e x. e
      ≡ x) (λ e. array_written (map written (values_of w (λ b. from (value b)) e)))
      (λ d. and_then (list_in read d) (λ vs. Ok (flat_map (λ v. chunk (to v)) vs)))
  values_again e d bytes good is =
      let r = read_list (through_twin t s) ty e bytes good in
      subst (IsAgain (λ x. e ≡ x)) (sym (then_ok (λ vs. Ok (flat_map (λ v. chunk (to v)) vs))
      (list_back is_value written read back _ d r.values is) refl)) (sym r.joined)

  -- and the name of one
  pub value_named : (name_of : V → Option (List ℕ)) (named : List ℕ → Option V) →
      ((v : V) (name : List ℕ) → is_value v → name_of v ≡ Some name → named name ≡ Some v) →
      (e name : List ℕ) → IsBytes e → fault e ≡ None →
      name_of (from (value e)) ≡ Some name → option_map (λ v. chunk (to v)) (named name) ≡ Some e
  value_named name_of named again e name bytes good is =
      let c = kind_chunk kind e bytes good in
      let whole = through_twin t s in
      ap (option_map (λ v. chunk (to v))) (again (from (value e)) name (whole.reads e c) is)
      ∙ ap Some (whole.again e c)

-- a text, and bytes one after another
pub text_again : (fault : List ℕ → Option UleError) →
    ReadsAgain fault (λ e x. e ≡ x) (λ text. Some (string text)) text_in
text_again fault e d bytes good is = let same : string e ≡ d = cc in
    subst (λ z. IsAgain (λ x. e ≡ x) (text_in z)) same refl

pub bytes_again : (fault : List ℕ → Option UleError) → ReadsAgain fault (λ e x. e ≡ x)
    (λ e. array_written (map (λ b. number_data (pos b)) e))
    (list_in (number_in (unsigned_within 8)))
bytes_again fault e d bytes good is = subst (IsAgain (λ x. e ≡ x))
    (sym (list_back (λ b. b < 2 ^ 8) (λ b. number_data (pos b)) (number_in (unsigned_within 8))
    (unsigned_back 8 refl) e d (byte_list e bytes.at) is)) refl

-- ---- lists in a format

-- the elements of a list without a fault
are_elements : (fault : List ℕ → Option UleError) (xs : List (List ℕ)) → IsBytes (concat xs) →
    AreValid fault xs → AreElements fault xs
are_elements fault [] h v = tt
are_elements fault (x ∷ xs) h v = let p = parted x (concat xs) h in
    ((p.0, v.0), are_elements fault xs p.1 v.1)

concat_bytes : (w : ℕ) (b : List ℕ) (xs : List (List ℕ)) → IsBytes b → Part w b xs →
    IsBytes (concat xs)
concat_bytes w b [] h p = record { at = λ i. omega arith }
concat_bytes w b (x ∷ xs) h p =
    (parted (flat_map (le w) (starts (x ∷ xs))) (concat (x ∷ xs)) (parted (le w (length xs + 1)) _
    (rw p.1 at h)).1).1

pub elements_are : (w : ℕ) (fault : List ℕ → Option UleError) (b : List ℕ) → 0 < w → IsBytes b →
    list_fault w fault b ≡ None →
    AreElements fault (elements w b)
elements_are w fault b some h f = are_elements fault (elements w b)
    (concat_bytes w b (elements w b) h (Part_from_fault w fault b some h f))
    (valid_from_fault w fault b some h f)

no_fault_in : (o : _) → slice_fault o ≡ None → o ≡ None
no_fault_in None e = refl
no_fault_in (Some f) e = cc

-- a list that is not too large can be written
coded : (w : ℕ) (xs : List (List ℕ)) → 0 < w → 256 ^ w ≤ 2 ^ 32 →
    is_some (serialized_len (λ _. true) (λ x. x) w xs) ≡ true →
    codable w xs ≡ true
coded w xs some narrow h =
    let l = length_spelled (λ x. x) w xs in
    subst (λ ys. codable w ys ≡ true) (map-id xs) (below_codable (λ x. x) w some narrow xs
    (grind arith))

encoded_again : (w : ℕ) (P : List (List ℕ) → Type 0) (xs : List (List ℕ)) → 0 < w →
    256 ^ w ≤ 2 ^ 32 → P xs →
    IsAgain (λ x. P (elements w x)) (list_of_elements w xs)
encoded_again w P xs some narrow p = by (is_some (serialized_len (λ _. true) (λ x. x) w xs)) refl
  where
    by : (b : Bool) → is_some (serialized_len (λ _. true) (λ x. x) w xs) ≡ b →
        IsAgain (λ x. P (elements w x)) (if b then Ok (serialized w xs) else Err TooLarge)
    by true e = subst P (sym (elements_from_Part w (serialized w xs) xs some
        (Part_from_serialized w xs (coded w xs some narrow e)))) p
    by false e = refl

-- a list of elements that are read again is
pub nested_again : (w : ℕ) (fault : List ℕ → Option UleError) (alike : List ℕ → List ℕ →
    Type 0) (written : List ℕ → Option Data)
    (read : Data → Result (List ℕ) JsonError) → 0 < w → 256 ^ w ≤ 2 ^ 32 →
    ReadsAgain fault alike written read →
    ReadsAgain (λ b. slice_fault (list_fault w fault b)) (λ e x. EachAlike alike (elements w e)
    (elements w x))
    (λ e. array_written (map written (elements w e))) (λ d. and_then (list_in read d)
    (list_of_elements w))
nested_again w fault alike written read some narrow again e d bytes good is =
    then_again (EachAlike alike (elements w e)) (λ x. EachAlike alike (elements w e) (elements w x))
    (list_in read d) (list_of_elements w)
    (list_again fault alike written read again (elements w e) d (elements_are w fault e some bytes
    (no_fault_in _ good)) is)
    (λ ys p. encoded_again w (EachAlike alike (elements w e)) ys some narrow p)

-- ---- a value and an element behind it

pub second_usable : (a b : Bool) → IsTrue (a && b) → IsTrue b
second_usable true b h = h
second_usable false b h = cc

-- what two members are written as
pub record Parts (a b : Option Data) (d : Data) : Type 0 where
  pub first : Data
  pub second : Data
  pub first_is : a ≡ Some first
  pub second_is : b ≡ Some second
  pub read : parts_in d ≡ Ok (first, second)

pub parts_back : (a b : Option Data) (d : Data) → parts_written a b ≡ Some d → Parts a b d
parts_back None b d e = cc
parts_back (Some x) None d e = cc
parts_back (Some x) (Some y) d e =
    let same : object (member (codes "sized") x (member (codes "variable") y no_members))
    ≡ d = cc in
    record {
      first = x;
      second = y;
      first_is = refl;
      second_is = refl;
      read = subst (λ z. parts_in z
          ≡ Ok (x, y)) same refl;
    }

-- the value and the element of bytes without a fault
pub record TupleParts (w : ℕ) (f g : List ℕ → Option UleError) (e : List ℕ) : Type 0 where
  pub long : w ≤ length e
  pub sized : f (take w e) ≡ None
  pub variable : g (drop w e) ≡ None

tuple_parts : (w : ℕ) (f g : List ℕ → Option UleError) (e : List ℕ) →
    var_tuple_fault w f g e ≡ None → TupleParts w f g e
tuple_parts w f g e h = record {
  long = grind (arith, nat_tests, common_steps);
  sized = grind (arith, nat_tests, common_steps);
  variable = grind (
    arith,
    nat_tests,
    common_steps,
  );
}

module _ {V U : Type 0} {is_value : V → Type 0} {is_stored : U → Type 0} {to : V → U} {from : U →
    V} {usable : Bool}
    {fault chunk_fault : List ℕ → Option UleError} {ty : TyName} {w : ℕ} {chunk : U →
    List ℕ} {value : List ℕ → U}
    (kind : IsFixedKind usable fault ty w chunk_fault)
    (s : IsSpelling is_stored w chunk_fault chunk value) (t : IsTwin is_value is_stored to from)
    (written : V → Option Data) (read : Data → Result V JsonError) (back : (v : V) (d : Data) →
    is_value v → written v ≡ Some d → read d ≡ Ok v)
    (other : List ℕ → Option UleError) (alike : List ℕ → List ℕ → Type 0) (behind : List ℕ →
    Option Data) (read_behind : Data → Result (List ℕ) JsonError)
    (again : ReadsAgain other alike behind read_behind) where
  pub tuple_again : ReadsAgain (var_tuple_fault w fault other) (AlikeBehind w alike)
      (λ e. parts_written (written (from (value (take w e)))) (behind (drop w e)))
      (λ d. and_then (parts_in d) (λ p. and_then (read p.0) (λ a. and_then (read_behind p.1)
      (λ b. Ok (chunk (to a) ++ b)))))
  tuple_again e d bytes good is =
      let p = tuple_parts w fault other e good in
      let m = parts_back _ _ d is in
      let c = kind_chunk kind (take w e) (front_bytes w e bytes p.long) p.sized in
      let whole = through_twin t s in
      let front = whole.again (take w e) c in
      let long : length (chunk (to (from (value (take w e))))) ≡ w = ap length front ∙ c.long in
      let first = back (from (value (take w e))) m.first (whole.reads (take w e) c) m.first_is in
      let rest = again (drop w e) m.second (back_bytes w e bytes) p.variable m.second_is in
      subst (IsAgain (AlikeBehind w alike e)) (sym (then_ok _ m.read (then_ok _ first refl)))
      (then_again (alike (drop w e)) (AlikeBehind w alike e) (read_behind m.second)
      (λ b. Ok (chunk (to (from (value (take w e)))) ++ b)) rest
      (λ b q. (
        sym (front_of w _ b long ∙ front),
        subst (alike (drop w e)) (sym (back_of w _ b long)) q,
      )))
