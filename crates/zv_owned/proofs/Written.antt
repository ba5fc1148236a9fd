-- A change of the bytes of a list, write by write.
use Rattle.zv_owned.proofs.Common.{◌*◌, ◌++◌, ◌+◌, ◌∙◌, ◌≡◌, Bool, IsRegapped, List, Option, append_assoc, arith, flat_map, le, length, length-append}
use Rattle.zv_owned.proofs.Common.{length-flat_map-le, map, option_to_list, shifted, ℕ}
use Rattle.std.proofs.Common.{false}
use Rattle.zv_owned.specs.Splices.{Puts}

-- The gaps fit in b1. Then the element e, the start, the shifted starts and the count are written.
pub edited : {w f to a b : ℕ} {is_other : Bool} {b1 b2 b3 b4 b5 : List ℕ} (into out count : ℕ) (start : Option ℕ) (c p ss d e t : List ℕ) →
    IsRegapped (c ++ p) a (flat_map (le w) ss ++ d) b t b1 → a ≡ w * length (option_to_list start) → b ≡ length e →
    length c ≡ w → length (c ++ p) ≡ f → to ≡ f + a + length (flat_map (le w) ss ++ d) →
    Puts b1 to (length e) e b2 → Puts b2 f (w * length (option_to_list start)) (flat_map (le w) (option_to_list start)) b3 →
    ((p q : List ℕ) → b3 ≡ p ++ (flat_map (le w) ss ++ q) → length p ≡ f + a → b4 ≡ p ++ (flat_map (le w) (map (shifted into out) ss) ++ q)) →
    ((c q : List ℕ) → b4 ≡ c ++ q → length c ≡ w → (is_other ≡ false → c ≡ le w count) → b5 ≡ le w count ++ q) → (is_other ≡ false → c ≡ le w count) →
    b5 ≡ le w count ++ (p ++ (flat_map (le w) (option_to_list start) ++ (flat_map (le w) (map (shifted into out) ss) ++ (d ++ (e ++ t)))))
edited {w} {f} {to} {a} {b} {is_other} {b1} {b2} {b3} {b4} {b5} into out count start c p ss d e t r ea eb lc lp et element first later counts same =
    let x : List ℕ = r.first in
    let y : List ℕ = flat_map (le w) ss in
    let z : List ℕ = flat_map (le w) (map (shifted into out) ss) in
    let s : List ℕ = flat_map (le w) (option_to_list start) in
    let e2 : b2 ≡ ((c ++ p) ++ (x ++ (y ++ d))) ++ (e ++ t) = element ((c ++ p) ++ (x ++ (y ++ d))) r.second t (r.is ∙ simp append_assoc)
    (omega (arith, length-append (c ++ p) (x ++ (y ++ d)), length-append x (y ++ d), r.first_long, et)) (r.second_long ∙ eb) in
    let e3 : b3 ≡ (c ++ p) ++ (s ++ ((y ++ d) ++ (e ++ t))) = first (c ++ p) x ((y ++ d) ++ (e ++ t)) (e2 ∙ simp append_assoc) lp (r.first_long ∙ ea) in
    let e4 : b4 ≡ ((c ++ p) ++ s) ++ (z ++ (d ++ (e ++ t))) = later ((c ++ p) ++ s) (d ++ (e ++ t)) (e3 ∙ simp append_assoc)
    (omega (arith, length-append (c ++ p) s, length-flat_map-le w (option_to_list start), ea)) in
    counts c (p ++ (s ++ (z ++ (d ++ (e ++ t))))) (e4 ∙ simp append_assoc) lc same
