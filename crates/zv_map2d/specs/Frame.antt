-- An image's frame: four parts, each after its length.
use Rattle.std.specs.Prelude.{ℕ, ◌==◌, List, ◌++◌, length, Option, Some, None, option_and_then}
use Rattle.std.specs.Prelude.{if◌then◌else◌}
use Rattle.zv_var.specs.Frame.{framed, first_part}

-- the bytes of the four vectors of a map
pub record Parts : Type 0 where
  pub keys0 : List ℕ
  pub joiner : List ℕ
  pub keys1 : List ℕ
  pub values : List ℕ

-- the image of the parts: one after another, each after its length
abbrev pub frame : Parts → List ℕ
frame p = framed p.keys0 ++ (framed p.joiner ++ (framed p.keys1 ++ framed p.values))

-- the parts of an image, unless a length is cut or more than is left, or bytes are left at the end
abbrev pub unframe : List ℕ → Option Parts
unframe bytes =
    option_and_then (λ a. option_and_then (λ b. option_and_then (λ c. option_and_then (λ d.
    if length d.1 == 0 then Some (record { keys0 = a.0; joiner = b.0; keys1 = c.0; values = d.0 })
    else None) (first_part c.1)) (first_part b.1)) (first_part a.1)) (first_part bytes)
