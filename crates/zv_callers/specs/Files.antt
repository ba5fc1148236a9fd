-- Files that keep tables of names.
use Rattle.std.specs.Prelude.{◌≡◌, ℕ, List, None}
use Rattle.zv_ule.specs.Kinds.{text_fault}
use Rattle.zv_var.specs.Format.{elements, list_fault}
use Rattle.zv_var.specs.Nested.{slice_fault}
use Rattle.zv_map1.specs.Views.{Map1, Pairs}
use Rattle.zv_map2d.specs.Causes.{Reading, reading}
use Rattle.zv_map2d.specs.Image.{by_bytes}
use Rattle.zv_framed.specs.Faults.{map_fault}
use Rattle.zv_framed.specs.Frames.{IsReadFrom, form_fault}
use Rattle.zv_framed.specs.Read.{IsReadMap}

-- how a list of texts is read
abbrev pub texts : Reading
texts = reading (λ b. slice_fault (list_fault 2 text_fault b)) (elements 2)

-- a file keeps these pairs: it is the framed form of a map of texts to texts, and whatever map is
-- read from it has them
pub record Keeps (file : List ℕ) (pairs : Pairs) : Type 0 where
  pub sound : form_fault 2 (map_fault texts texts by_bytes) file ≡ None
  pub same : (names : Map1) → IsReadFrom 2 (IsReadMap texts texts) file names →
      names.pairs ≡ pairs
