use Rattle.zv_ule.proofs.Common.{◌≡◌, ℕ, zero, suc, ◌<◌, ◌≤◌, ◌^◌, [], ◌∷◌, refl, sym, arith, Less, Greater, answer_at}
use Rattle.std.proofs.Common.{lit<}
use Rattle.zv_ule.proofs.laws.searches_by_hand.Goals as goal

three_digits : (k : ℕ) → 5 < 2 ^ k → 3 ≤ k
three_digits zero h = absurd (omega (arith, h))
three_digits (suc zero) h = absurd (omega (arith, h))
three_digits (suc (suc zero)) h = absurd (omega (arith, h))
three_digits (suc (suc (suc k))) h = omega arith

both_greater : (j : ℕ) → j < 2 → answer_at (Greater ∷ Greater ∷ []) j ≡ Greater
both_greater zero h = refl
both_greater (suc zero) h = refl
both_greater (suc (suc j)) h = absurd (omega (arith, h))

apart : Less ≡ Greater → ⊥
apart e = cc

pub returns : goal.returns
returns c = record {
  three = three_digits;
  not_four = λ four. absurd (omega (arith, four 3 (lit< tt)));
  none = λ k h. omega arith;
  not_one = λ one. absurd (omega (arith, one 0 (lit< tt)));
  between = record {
    within = omega arith;
    less = λ j h. let first : j ≡ 0 = omega arith in rw first refl;
    greater = λ j h k. let second : j ≡ 1 = omega arith in rw second refl;
  };
  not_before = λ gap. apart (gap.greater 0 (omega arith) (omega arith));
  not_after = λ gap. apart (sym (gap.less 1 (omega arith)));
  first = record { within = omega arith; less = λ j h. absurd (omega (arith, h)); greater = λ j h k. both_greater j k };
  not_second = λ gap. apart (sym (gap.less 0 (omega arith)));
}
