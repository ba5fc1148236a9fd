-- Worked rows of the definitions, computed.
use Rattle.std.proofs.Common.{◌≡◌, ◌∷◌, [], List, ℕ, refl, codes, Some, None, true, false}
use Rattle.std.specs.Prelude.{map}
use Rattle.std.specs.Str.{is_utf8, chars}
use Rattle.hex.specs.Hex.{decode_pairs}
use Rattle.zv_command.specs.Inputs.{input_due}
use Rattle.zv_command.specs.Runs.{of_input}
use Rattle.zv_edit.specs.Requests.{edit_due, with_command}
use Rattle.zv_tool.specs.Forms.{form_of, is_read, names_form, wanted}
use Rattle.zv_tool.specs.declared.form.Form.TheVariants.{Ask, Edit, Freeze, Layers, Locale, Look, Make, Props, Thaw}

-- the forms; a word too many and too few; a key that is none; no words; numbers that are none or too large
forms : map form_of (
    (codes "edit" ∷ []) ∷ (codes "look" ∷ codes "x61" ∷ codes "x" ∷ []) ∷ (codes "edit" ∷ codes "more" ∷ []) ∷ (codes "look" ∷ codes "x61" ∷ [])
    ∷ (codes "look" ∷ codes "x61" ∷ codes "xff" ∷ []) ∷ (codes "props" ∷ []) ∷ (codes "locale" ∷ []) ∷ (codes "locale" ∷ codes "x" ∷ [])
    ∷ (codes "make" ∷ []) ∷ [] ∷ (codes "make" ∷ codes "4000" ∷ [])
    ∷ (codes "make" ∷ codes "4001" ∷ []) ∷ (codes "make" ∷ codes "01" ∷ []) ∷ (codes "make" ∷ codes "0" ∷ [])
    ∷ (codes "layers" ∷ []) ∷ (codes "layers" ∷ codes "x" ∷ []) ∷ (codes "freeze" ∷ []) ∷ (codes "freeze" ∷ codes "x" ∷ [])
    ∷ (codes "ask" ∷ codes "x61" ∷ codes "x62" ∷ []) ∷ (codes "ask" ∷ codes "x61" ∷ []) ∷ (codes "thaw" ∷ []) ∷ [])
    ≡ Some Edit ∷ Some (Look (record { key0 = codes "a"; key1 = [] })) ∷ None ∷ None ∷ None ∷ Some Props ∷ Some Locale ∷ None ∷ None ∷ None
    ∷ Some (Make 4000) ∷ None ∷ None ∷ Some (Make 0) ∷ Some Layers ∷ None
    ∷ Some Freeze ∷ None ∷ Some (Ask (record { key0 = codes "a"; key1 = codes "b" })) ∷ None ∷ Some Thaw ∷ []
unfolding decode_pairs is_utf8 chars lib.Utf8.encode
forms = refl

names : map names_form (
    (codes "edit" ∷ codes "more" ∷ []) ∷ (codes "look" ∷ []) ∷ (codes "props" ∷ codes "x" ∷ []) ∷ (codes "make" ∷ []) ∷ (codes "made" ∷ []) ∷ []
    ∷ (codes "layers" ∷ codes "x" ∷ []) ∷ (codes "ask" ∷ []) ∷ (codes "freeze" ∷ codes "x" ∷ []) ∷ (codes "thaw" ∷ []) ∷ [])
    ≡ true ∷ true ∷ true ∷ true ∷ false ∷ false ∷ true ∷ true ∷ true ∷ true ∷ []
names = refl

reads : map is_read ((codes "edit" ∷ []) ∷ (codes "props" ∷ []) ∷ (codes "look" ∷ []) ∷ (codes "make" ∷ codes "1" ∷ []) ∷ [] ∷ (codes "layers" ∷ []) ∷ [])
    ≡ true ∷ true ∷ false ∷ false ∷ false ∷ true ∷ []
reads = refl

edit_wants : wanted (codes "edit" ∷ []) ≡ of_input (input_due with_command edit_due [])
edit_wants = refl
