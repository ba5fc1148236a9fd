-- Worked rows of the definitions, computed.
use Rattle.std.proofs.Common.{◌≡◌, ◌∷◌, [], ◌++◌, List, ℕ, refl, codes}
use Rattle.std.specs.Prelude.{map}
use Rattle.hex.specs.Hex.{encode_with}
use Rattle.zv_ule.specs.declared.error.TyName.TheVariants.{RawBytes4, VarZeroSlice}
use Rattle.zv_ule.specs.declared.error.UleError.TheVariants.{InvalidLength, ParseError}
use Rattle.zv_map2d.specs.declared.error.EditError.TheVariants.{Frame, Ule, Keys0Joiner, Keys1Values, JoinerOrder, JoinerEnd, KeyOrder}
use Rattle.zv_image.specs.Text.{cause_line, cause_word, image_line}

-- LF
abbrev lf : List ℕ
lf = 10 ∷ []

lines : image_line (0 ∷ 255 ∷ []) ∷ cause_line Frame ∷ [] ≡ (codes "image x00ff" ++ lf) ∷ (codes "error frame" ++ lf) ∷ []
unfolding encode_with
lines = refl

words_of_causes : map cause_word (
    Frame ∷ Ule (InvalidLength RawBytes4 3) ∷ Ule (ParseError VarZeroSlice) ∷ Keys0Joiner ∷ Keys1Values ∷ JoinerOrder ∷ JoinerEnd ∷ KeyOrder ∷ [])
    ≡ codes "frame" ∷ codes "length" ∷ codes "parse" ∷ codes "keys0joiner" ∷ codes "keys1values"
    ∷ codes "joinerorder" ∷ codes "joinerend" ∷ codes "keyorder" ∷ []
words_of_causes = refl
