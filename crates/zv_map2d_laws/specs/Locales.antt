-- A larger worked image: from a language and a script to a region, for 28 locales whose script is
-- not the likely one.
use Prim.Native.String.{String}
use Rattle.std.specs.Prelude.{◌≡◌, List, [], ◌∷◌, length, codes, None}
use Rattle.zv_map2d.specs.Keys.{Bytes}
use Rattle.zv_map2d.specs.Rows.{Rows, ends}
use Rattle.zv_map2d.specs.Image.{fault, canon}

-- a script with its region
abbrev pub in_script : String → String → Bytes × Bytes
in_script script region = (codes script, codes region)

-- a language with one script
abbrev pub one : String → String → String → Bytes × List (Bytes × Bytes)
one language script region = (codes language, in_script script region ∷ [])

-- the map
abbrev pub locales : Rows
locales = (codes "arc", in_script "Nbat" "JO" ∷ in_script "Palm" "SY" ∷ [])
    ∷ one "az" "Arab" "IR" ∷ one "cu" "Glag" "BG" ∷ one "en" "Shaw" "GB" ∷ one "ff" "Adlm" "GN"
    ∷ one "grc" "Linb" "GR" ∷ one "kk" "Arab" "CN"
    ∷ (codes "ku", in_script "Arab" "IQ" ∷ in_script "Yezi" "GE" ∷ [])
    ∷ (codes "ky", in_script "Arab" "CN" ∷ in_script "Latn" "TR" ∷ [])
    ∷ one "lif" "Limb" "IN" ∷ one "man" "Nkoo" "GN" ∷ one "mn" "Mong" "CN" ∷ one "pa" "Arab" "PK"
    ∷ one "pal" "Phlp" "CN"
    ∷ (codes "sd", in_script "Deva" "IN" ∷ in_script "Khoj" "IN" ∷ in_script "Sind" "IN" ∷ [])
    ∷ one "tg" "Arab" "PK" ∷ one "ug" "Cyrl" "KZ" ∷ one "unr" "Deva" "NP" ∷ one "uz" "Arab" "AF"
    ∷ one "yue" "Hans" "CN"
    ∷ (codes "zh", in_script "Bopo" "TW" ∷ in_script "Hanb" "TW" ∷ in_script "Hant" "TW" ∷ [])
    ∷ []

-- its canonical image has 487 bytes and no fault, and its 28 pairs lie in 21 rows
abbrev pub Locales : Type 0
Locales = (length (canon locales) ≡ 487)
    × (fault (canon locales) ≡ None)
    × (ends locales
    ≡ 2 ∷ 3 ∷ 4 ∷ 5 ∷ 6 ∷ 7 ∷ 8 ∷ 10 ∷ 12 ∷ 13
    ∷ 14 ∷ 15 ∷ 16 ∷ 17 ∷ 20 ∷ 21 ∷ 22 ∷ 23 ∷ 24 ∷ 25 ∷ 28 ∷ [])
