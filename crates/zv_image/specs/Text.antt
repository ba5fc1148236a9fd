-- The lines of an image and of what it is refused with.
use Rattle.std.specs.Prelude.{ℕ, List, [], ◌++◌, codes}
use Rattle.zv_ule.specs.declared.error.UleError.TheVariants.{InvalidLength, ParseError}
use Rattle.zv_map2d.specs.declared.error.EditError.{EditError}
use Rattle.zv_map2d.specs.declared.error.EditError.TheVariants.{Frame, Ule, Memory, Write}
use Rattle.zv_map2d.specs.declared.error.EditError.TheVariants.{Keys0Joiner, Keys1Values}
use Rattle.zv_map2d.specs.declared.error.EditError.TheVariants.{JoinerOrder, JoinerEnd, KeyOrder}
use Rattle.zv_command.specs.Text.{hex_field, line}

-- the line of an image
abbrev pub image_line : List ℕ → List ℕ
image_line image = line (codes "image " ++ hex_field image)

-- the word of a cause for which an image is refused; the other two errors have none
abbrev pub cause_word : EditError → List ℕ
cause_word Frame = codes "frame"
cause_word (Ule (InvalidLength ty len)) = codes "length"
cause_word (Ule (ParseError ty)) = codes "parse"
cause_word Keys0Joiner = codes "keys0joiner"
cause_word Keys1Values = codes "keys1values"
cause_word JoinerOrder = codes "joinerorder"
cause_word JoinerEnd = codes "joinerend"
cause_word KeyOrder = codes "keyorder"
cause_word Memory = []
cause_word Write = []

-- the line of a cause
abbrev pub cause_line : EditError → List ℕ
cause_line cause = line (codes "error " ++ cause_word cause)
