-- Members whose keys ascend: each pair goes to the end of the map.
use Rattle.std.proofs.Common.{length-append, slice_get}
use Rattle.std.proofs.lemmas.Bool.{and_parts}
use Rattle.std.specs.Option.{ok_or, option_map_or}
use Rattle.serde_json.specs.Data.{Data, Members, member}
use Rattle.zv_json.specs.declared.error.JsonError.{JsonError}
use Rattle.zv_json.specs.declared.error.JsonError.TheVariants.{BadKey}
use Rattle.zv_map1.proofs.Appended.{gap_at_end, none_above}
use Rattle.zv_map1.proofs.Common.{◌≡◌, ◌-◌, ℕ, List, [], ◌∷◌, ◌++◌, length, Bool, true, Option, Result, Ok, refl, subst, append_assoc, append-nil}
use Rattle.zv_map1.proofs.Common.{arith, zip, ◌∙◌, firsts-zip, seconds-zip, length-zip, IsTotalOrder, is_lt, insert_end, insert_entry_gap, IsMap-insert_entry}
use Rattle.zv_map1.proofs.Common.{IsGap, compared, Bytes, Order, IsMap, insert_entry, keys_of}
use Rattle.zv_map1.proofs.Zipped.{none_ascends, zip_insert}
use Rattle.zv_map1.specs.Fits.{Rule}
use Rattle.zv_owned.specs.Size.{takes_pushes}
use Rattle.zv_forms.specs.Maps.{members_in}

-- where elements and one more may be pushed, the elements may, and then that one
pushed_first : (takes : List Bytes → ℕ → Bool) (xs es : List Bytes) (f : Bytes) → takes_pushes takes xs (es ++ f ∷ []) ≡ true →
    (takes_pushes takes xs es ≡ true) × (takes (xs ++ es) (length f) ≡ true)
pushed_first takes xs [] f h = (refl, rw append-nil (and_parts (takes xs (length f)) true h).0)
pushed_first takes xs (e ∷ es) f h =
    let here = and_parts (takes xs (length e)) (takes_pushes takes (xs ++ e ∷ []) (es ++ f ∷ [])) h in
    let rest = pushed_first takes (xs ++ e ∷ []) es f here.1 in
    (rw (here.0, rest.0) refl, rw append_assoc at rest.1)

-- keys and values that were read in order, and what is left of all members: by a rule whose lists take them, all are read as the rest is after them
pub record AreReadSoFar (order : Order) (of_name : Bytes → Option Bytes) (of_key of_value : Data → Result Bytes JsonError) (all rest : Members)
    (ks vs : List Bytes) : Type 0 where
  pub count : length vs ≡ length ks
  pub ascending : IsMap order (zip ks vs)
  pub read : (rule : Rule) → takes_pushes rule.takes_key [] ks ≡ true → takes_pushes rule.takes_value [] vs ≡ true →
      members_in rule order of_name of_key of_value [] all ≡ members_in rule order of_name of_key of_value (zip ks vs) rest

module _ {order : Order} {of_name : Bytes → Option Bytes} {of_key of_value : Data → Result Bytes JsonError} {all : Members} where
  pub read_none : {rest : Members} {ks vs : List Bytes} → rest ≡ all → ks ≡ [] → vs ≡ [] → AreReadSoFar order of_name of_key of_value all rest ks vs
  read_none e p q = rw (e, p, q) (record { count = refl; ascending = none_ascends order [] refl; read = λ rule ks vs. refl })

  module _ (total : IsTotalOrder order) {left : Members} {ks vs : List Bytes} (name k v : Bytes) (d : Data)
      (h : AreReadSoFar order of_name of_key of_value all left ks vs)
      (next : option_map_or (λ last. is_lt (order last k)) (slice_get ks (length ks - 1)) true ≡ true) where
    many : length (zip ks vs) ≡ length ks
    many = omega (arith, length-zip ks vs, h.count)

    gap : IsGap (compared order (keys_of (zip ks vs)) k) (length (zip ks vs))
    gap = gap_at_end total (zip ks vs) k h.ascending (rw (firsts-zip ks vs h.count, many) next)

    put_last : insert_entry order (zip ks vs) k v ≡ zip (ks ++ k ∷ []) (vs ++ v ∷ [])
    put_last =
        rw (insert_entry_gap total k (zip ks vs) v (length (zip ks vs)) gap, many, ← zip_insert ks vs (length ks) k v h.count)
        (rw (insert_end ks k, ← h.count, insert_end vs v) refl)

    -- one more member whose key is above all
    pub read_more : {rest : Members} {ks' vs' : List Bytes} → left ≡ member name d rest → ok_or (of_name name) BadKey ≡ Ok k → of_value d ≡ Ok v →
        ks' ≡ ks ++ k ∷ [] → vs' ≡ vs ++ v ∷ [] → AreReadSoFar order of_name of_key of_value all rest ks' vs'
    read_more first named valued p q = rw (p, q) (record {
      count = simp length-append (omega (arith, h.count));
      ascending = subst (IsMap order) put_last (IsMap-insert_entry total (zip ks vs) k v h.ascending);
      read = λ rule pk pv.
          let key = pushed_first rule.takes_key [] ks k pk in
          let value = pushed_first rule.takes_value [] vs v pv in
          h.read rule key.0 value.0
          ∙ rw (first, named, valued, none_above total (zip ks vs) k gap, firsts-zip ks vs h.count, seconds-zip ks vs h.count, key.1, value.1, put_last) refl;
    })
