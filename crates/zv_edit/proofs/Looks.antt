-- What a look-up finds.
use Rattle.zv_edit.proofs.Common.{◌≡◌, ◌∙◌, List, ℕ, ap, Option, Stands, by_bytes, Rows, find, found_line, IsLooked}
use Rattle.zv_edit.specs.declared.look.Look.{Look}

-- the line of what was found
pub found_look : (image a b : List ℕ) (look : Look) (value : Option (List ℕ)) → a ≡ look.key0 → b ≡ look.key1 →
    ((m : Rows) × Stands image m × (value ≡ find by_bytes by_bytes m a b)) → IsLooked image look (found_line value)
found_look image a b look value p q found =
    let is : value ≡ find by_bytes by_bytes found.0 look.key0 look.key1 =
    found.2 ∙ ap (λ (k : List ℕ × List ℕ). find by_bytes by_bytes found.0 k.0 k.1) (λ i. (p i, q i)) in
    (found.0, found.1, ap found_line is)
