use Rattle.std.proofs.Common.{rules, ◌≡◌, ℕ, List, [], ◌∷◌, length, refl, sym, subst, lit<, IsPermutation}
use Rattle.std.specs.List.{range_with_len}
use Rattle.zv_container_tests.proofs.permutation.turns.Goals as goal

-- three exchanges lead from the order of seven places to the one that is asked for
turned : IsPermutation (range_with_len 0 7) (3 ∷ 2 ∷ 1 ∷ 0 ∷ 6 ∷ 5 ∷ 4 ∷ [])
turned = record { moves = (0, 3) ∷ (1, 2) ∷ (4, 6) ∷ []; below = search rules; is = refl }

pub zvl_permute-requires : goal.zvl_permute-requires
zvl_permute-requires g c κs =
    let long : length (g.C.ZeroVecLike.list c.args.list.now) ≡ 7 = search rules in
    ((refl, tt), subst (λ n. IsPermutation (range_with_len 0 n) (3 ∷ 2 ∷ 1 ∷ 0 ∷ 6 ∷ 5 ∷ 4 ∷ [])) (sym long) turned)
