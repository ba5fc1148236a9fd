-- An image: the formats of its lists, which a head may name, and its frame.
use Rattle.std.specs.Prelude.{◌≡◌, ℕ, ◌==◌, ◌||◌, Bool, true, false, List, [], ◌∷◌, ◌++◌, ◌⊎◌}
use Rattle.std.specs.Prelude.{take, drop, replicate, bytes_eq, Option, Some, None, option_map}
use Rattle.std.specs.Prelude.{if◌then◌else◌}
use Rattle.std.specs.Option.{option_and_then}
use Rattle.zv_map2d.specs.Frame.{Parts, frame, unframe}
use Rattle.zv_map2d.specs.declared.image.WideLists.{WideLists}

-- how many bytes a field of a list has
abbrev pub width : Bool → ℕ
width wide = if wide then 4 else 2

-- the byte that names the format of a list
abbrev pub code : Bool → ℕ
code true = 32
code false = 16

-- whether the list is wide whose format a byte names
abbrev pub wide_named : ℕ → Option Bool
wide_named n = if n == 16 then Some false else if n == 32 then Some true else None

-- no list is wide
abbrev pub narrow : WideLists
narrow = record { keys0 = false; keys1 = false; values = false }

-- some list is
abbrev pub is_any_wide : WideLists → Bool
is_any_wide w = w.keys0 || (w.keys1 || w.values)

-- what a head begins with
abbrev pub mark : List ℕ
mark = replicate 8 255

-- the head that names the formats of the lists
abbrev pub head : WideLists → List ℕ
head w = mark ++ (code w.keys0 ∷ code w.keys1 ∷ code w.values ∷ [])

-- the image is formed of parts whose lists have these formats
abbrev pub IsFormed : List ℕ → WideLists → Parts → Type 0
IsFormed image w p = ((image ≡ frame p) × (w ≡ narrow)) ⊎ (image ≡ head w ++ frame p)

-- the formats that three bytes name
abbrev pub lists_named : ℕ → ℕ → ℕ → Option WideLists
lists_named a b c =
    option_and_then (λ x. option_and_then (λ y.
    option_map (λ z. record { keys0 = x; keys1 = y; values = z })
    (wide_named c)) (wide_named b)) (wide_named a)

-- the formats and the parts that follow a mark
abbrev pub after_mark : List ℕ → Option (WideLists × Parts)
after_mark (a ∷ b ∷ c ∷ rest) =
    option_and_then (λ w. option_map (λ p. (w, p)) (unframe rest)) (lists_named a b c)
after_mark rest = None

-- the formats and the parts of an image, unless its head is cut or names another format, or what
-- follows is no frame
abbrev pub unformed : List ℕ → Option (WideLists × Parts)
unformed image = if bytes_eq (take 8 image) mark then after_mark (drop 8 image)
    else option_map (λ p. (narrow, p)) (unframe image)

-- the canonical head: none where no list is wide
abbrev pub head_of : WideLists → List ℕ
head_of w = if is_any_wide w then head w else []
