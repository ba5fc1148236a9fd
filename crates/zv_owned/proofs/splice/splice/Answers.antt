use Rattle.zv_owned.proofs.Common.{[], ◌++◌, ◌+◌, ◌<◌, ◌∙◌, ◌≡◌, ◌≤◌, AreValid, Edit, IsEdit, List, Option, Part, Part_from_fault, Some, ap, arith}
use Rattle.zv_owned.proofs.Common.{codable, concat, drop, elements, enc, length, length-append, length-drop, length-take-le, new_bytes, option_map}
use Rattle.zv_owned.proofs.Common.{option_to_list, refl, sym, take, true, ℕ}
use Rattle.std.proofs.Common.{Result, Ok, Err, OnErr}
use Rattle.zv_var.proofs.Encoding.{codable_from_Part}
use Rattle.zv_var.proofs.Read.{valid_from_fault}
use Rattle.zv_owned.proofs.Placed.{IsPlaced, nothing_kept, placed, size_changed, steps_of, taken_codable}
use Rattle.zv_owned.proofs.SizeRule.{Made, in_parts, made, replaced_length, size_within, splice_valid}
use Rattle.zv_owned.proofs.Spliced.{IsSplice, begin_within, can_edit, encoded, grown, spliced, steps_within}
use Rattle.zv_owned.specs.Changes.{changed, growth}
use Rattle.zv_owned.proofs.splice.splice.Goals.{After-len_for}
use Rattle.zv_owned.proofs.splice.splice.Goals as goal

module _ (g : _) (c : After-len_for g) where
  abbrev w : ℕ
  w = g.F.VarZeroVecFormat.W

  abbrev bytes : List ℕ
  bytes = c.args.shelf.now.bytes

  abbrev list : List (List ℕ)
  list = elements w bytes

  abbrev new : Option (List ℕ)
  new = new_bytes g.Q.ZvArg.bytes c.value-value.result

  abbrev after : List (List ℕ)
  after = changed g.Q.ZvArg.bytes c.args.change list c.args.index

  same : c.of_valid-list.result.bytes.now ≡ bytes
  same = c.of_valid-list.ensures.bytes ∙ c.bytes.ensures

  part : Part w bytes list
  part =
      let v = c.of_valid-list.result in
      rw same at (Part_from_fault w g.T.ZvKind.fault v.bytes.now g.F.VarZeroVecFormat.width_positive v.each v.spells)

  valid : AreValid g.T.ZvKind.fault list
  valid =
      let v = c.of_valid-list.result in
      rw same at (valid_from_fault w g.T.ZvKind.fault v.bytes.now g.F.VarZeroVecFormat.width_positive v.each v.spells)

  place : IsPlaced g.Q.ZvArg.bytes c.args.change list c.args.index c.gone.result c.value-value.result
  place = placed g.Q.ZvArg.bytes c.args.change list c.args.index _ _ c.gone.ensures c.value-value.ensures c.requires.place

  can : codable w after ≡ true
  can = taken_codable g.Q.ZvArg.bytes w g.F.VarZeroVecFormat.width_positive g.F.VarZeroVecFormat.field_small c.args.change list c.args.index
      (codable_from_Part w bytes list part) c.requires.place c.requires.fits

  -- the bytes that are the encoding are sound, and read as the list
  is_made : (b : List ℕ) → b ≡ enc w after → Made w g.T.ZvKind.fault b after
  is_made b e = made w g.T.ZvKind.fault b after g.F.VarZeroVecFormat.width_positive e can
      (rw place.is (splice_valid g.T.ZvKind.fault list (option_to_list new) c.args.index _ valid c.len_for.ensures.valid))

  grows : length (enc w after) ≤ length bytes + growth g.Q.ZvArg.bytes w c.args.change
  grows = omega (arith, size_changed g.Q.ZvArg.bytes w c.args.change list c.args.index c.requires.place, size_within w bytes list part)

  is_splice : (e : Edit) → ((front mid back : List (List ℕ)) (o : Option (List ℕ)) →
      elements w c.of_valid-list.result.bytes.now ≡ front ++ (mid ++ back) → length front ≡ c.args.index → length mid ≡ c.gone.result →
      option_map (λ x. length x) o ≡ c.len_for.result → IsEdit front mid back o e) →
      IsSplice w bytes (take c.args.index list) (take c.gone.result (drop c.args.index list)) (drop (c.args.index + c.gone.result) list) new e
  is_splice e edit =
      let parts = in_parts list c.args.index c.gone.result in
      let i = length-take-le c.args.index list (omega (arith, place.inside)) in
      let j = length-take-le c.gone.result (drop c.args.index list) (omega (arith, place.inside, length-drop c.args.index list)) in
      let is_edit = edit _ _ _ new (ap (elements w) same ∙ sym parts) i j (sym c.len_for.ensures.len) in
      let some : 0 < length list = omega (arith, is_edit.counts.some, place.inside, length-drop {A = List ℕ}) in
      record {
        edit = is_edit;
        is = encoded w bytes list part some ∙ ap (enc w) (sym parts);
        old_codable = rw parts (codable_from_Part w bytes list part);
        new_codable = rw place.is at can;
      }

on_err : {T E P : Type 0} (r : Result T E) → P → OnErr r P
on_err (Ok v) p = tt
on_err (Err e) p = p

-- where an empty list stays or becomes one, nothing else stays
begins : (g : _) (c : After-len_for g) → length (elements g.F.VarZeroVecFormat.W c.of_valid-list.result.bytes.now) ≡ c.gone.result →
    after g c ≡ option_to_list (new g c)
begins g c none =
    let p = place g c in
    p.is ∙ nothing_kept (list g c) c.args.index c.gone.result (option_to_list (new g c)) p.inside (rw (same g c) at none)

pub edit_bytes-requires-clause-can : goal.edit_bytes-requires-clause-can
edit_bytes-requires-clause-can g c =
    let s = is_splice g (goal.at.edit_bytes-requires-clause-can g c).After-len_for c.in-Some.edit c.in-Some.ensures.edit in
    can_edit s (omega (arith, c.of_valid-list.result.short, ap length (c.of_valid-list.ensures.bytes ∙ c.bytes.ensures)))
    (omega (arith, s.edit.counts.into, c.len_for.ensures.short))

pub returns-in_err-edit_bytes-in-Some-clause-succeeds : goal.returns-in_err-edit_bytes-in-Some-clause-succeeds
returns-in_err-edit_bytes-in-Some-clause-succeeds g c =
    let at = (goal.at.returns-in_err-edit_bytes-in-Some-clause-succeeds g c).After-len_for in
    let s = is_splice g at c.in-Some.edit c.in-Some.ensures.edit in
    on_err c.from_residual.result (rw (place g at).is (omega (arith, grown s, c.in_err-edit_bytes-in-Some.ensures.succeeds)))

pub returns-in_err-edit_bytes-in-Some-clause-reserved : goal.returns-in_err-edit_bytes-in-Some-clause-reserved
returns-in_err-edit_bytes-in-Some-clause-reserved g c = λ enough.
    let at = (goal.at.returns-in_err-edit_bytes-in-Some-clause-reserved g c).After-len_for in
    let long : length (enc (w g at) (after g at)) ≤ length (bytes g at) + growth g.Q.ZvArg.bytes (w g at) c.args.change = grows g at in
    let s = is_splice g at c.in-Some.edit c.in-Some.ensures.edit in
    absurd (omega (arith, grown s, rw (place g at).is at long, c.in_err-edit_bytes-in-Some.ensures.succeeds))

pub returns-in_err-begin-in-None-clause-reserved : goal.returns-in_err-begin-in-None-clause-reserved
returns-in_err-begin-in-None-clause-reserved g c = λ enough.
    let at = (goal.at.returns-in_err-begin-in-None-clause-reserved g c).After-len_for in
    absurd (omega (arith, rw (begins g at c.in-None.ensures.none) at (grows g at), c.in_err-begin-in-None.ensures.succeeds))

pub returns-in_ok-edit_bytes-in-Some-clause-done : goal.returns-in_ok-edit_bytes-in-Some-clause-done
returns-in_ok-edit_bytes-in-Some-clause-done g c =
    let at = (goal.at.returns-in_ok-edit_bytes-in-Some-clause-done g c).After-len_for in
    let s = is_splice g at c.in-Some.edit c.in-Some.ensures.edit in
    let l : List (List ℕ) = list g at in
    let p = place g at in
    let splits = spliced s c.in_ok-edit_bytes-in-Some.ensures.ok in
    let is = splits ∙ ap (enc (w g at)) (sym p.is) in
    let made = is_made g at _ is in
    let parts = in_parts l c.args.index c.gone.result in
    let i = length-take-le c.args.index l (omega (arith, p.inside)) in
    let j = length-take-le c.gone.result (drop c.args.index l) (omega (arith, p.inside, length-drop c.args.index l)) in
    record {
      is = is;
      list = made.reads;
      sound = made.sound;
      memory = c.in_ok-edit_bytes-in-Some.ensures.memory;
      grown = omega (arith, ap length is, grows g at);
      steps = steps_of g.Q.ZvArg.bytes (w g at) c.args.change l c.args.index _ _ _ c.args.steps.now _ c.gone.ensures c.value-value.ensures
          (steps_within s (length l) c.args.index c.gone.result _ c.args.steps.now (ap length (sym parts)) (sym i) (sym j) (place g at).brings
          c.in_ok-edit_bytes-in-Some.ensures.steps)
          (λ e is one same.
          let some : length (option_to_list (new g at)) ≡ 1 = rw is refl in
          let long = ap (λ (o : Option (List ℕ)). length (concat (option_to_list o))) is in
          let still = s.edit.counts.in_place (omega (arith, j, one, some)) in
          let n : c.in-Some.edit.into ≡ length e = omega (arith, s.edit.counts.into, long, length-append e []) in
          let m = replaced_length l c.args.index c.gone.result one (omega (arith, one, p.inside)) in
          omega (arith, n, c.in_ok-edit_bytes-in-Some.ensures.still still.0 still.1 (omega (arith, n, m, same, s.edit.counts.out))));
    }

pub returns-in_ok-begin-in-None-clause-done : goal.returns-in_ok-begin-in-None-clause-done
returns-in_ok-begin-in-None-clause-done g c =
    let at = (goal.at.returns-in_ok-begin-in-None-clause-done g c).After-len_for in
    let l : List (List ℕ) = list g at in
    let is = c.in_ok-begin-in-None.ensures.bytes ∙ ap (enc (w g at)) (sym (begins g at c.in-None.ensures.none)) in
    let made = is_made g at _ is in
    record {
      is = is;
      list = made.reads;
      sound = made.sound;
      memory = c.in_ok-begin-in-None.ensures.memory;
      grown = omega (arith, ap length is, grows g at);
      steps = steps_of g.Q.ZvArg.bytes (w g at) c.args.change l c.args.index _ _ _ c.args.steps.now _ c.gone.ensures c.value-value.ensures
          (omega (
            arith,
            c.in_ok-begin-in-None.ensures.steps,
            begin_within (w g at) (length l) (length c.args.shelf.now.bytes) c.args.index c.gone.result (option_map (λ x. length x) (new g at)),
          ))
          (λ e is one same.
          let none = c.in-None.ensures.no_new (omega (arith, one)) in
          let some : c.len_for.result ≡ Some (length e) = rw is at c.len_for.ensures.len in
          absurd cc);
    }
