use Rattle.std.proofs.Common.{◌≡◌, ℕ, List, None, Result, Ok, Err}
use Rattle.std.specs.Prelude.{IfOk}
use Rattle.zv_map1.specs.Views.{Map1, Pairs}
use Rattle.zv_map2d.specs.Image.{by_bytes}
use Rattle.zv_framed.specs.Faults.{map_fault}
use Rattle.zv_framed.specs.Frames.{IsReadFrom, form_fault}
use Rattle.zv_framed.specs.Read.{IsReadMap}
use Rattle.zv_callers.specs.Files.{Keeps, texts}
use Rattle.zv_callers.proofs.files.save.Goals as goal

kept : {F E : Type 0} (bytes : F → List ℕ) (pairs : Pairs) (r : Result F E)
    → IfOk r (λ f. form_fault 2 (map_fault texts texts by_bytes) (bytes f) ≡ None)
    → IfOk r (λ f. (names : Map1) → IsReadFrom 2 (IsReadMap texts texts) (bytes f) names → names.pairs ≡ pairs)
    → IfOk r (λ f. Keeps (bytes f) pairs)
kept bytes pairs (Ok f) sound same = record { sound = sound; same = same }
kept bytes pairs (Err e) sound same = tt

pub returns : goal.returns
returns c = kept (λ f. f.items) c.args.names.now.pairs _ c.to_framed_bytes.ensures.sound c.to_framed_bytes.ensures.same
