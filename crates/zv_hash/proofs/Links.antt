-- Chains that are made from the last place on, and the walk along one.
use Rattle.zv_hash.proofs.Common.{ap, ◌≡◌, ℕ, ◌+◌, ◌<◌, ◌≤◌, inl, inr, List, length, get_or, set, sym, ◌∙◌, arith, get_or-set_other, cases_eq, bucket_at}
use Rattle.zv_hash.proofs.Common.{IsMember, AreChains, common_steps, get_or-set_at}

-- one place more
pub one_link : {hs firsts nexts : List ℕ} {g p from : ℕ} → AreChains hs from firsts nexts → from ≡ p + 1 → p < length hs → g ≡ bucket_at hs p → g < length hs
    → AreChains hs p (set firsts g p) (set nexts p (get_or firsts g 0))
one_link {hs} {g = g} {p} old is within at bucket =
    let head = old.first g bucket in
    record {
      first_len = grind (arith, common_steps);
      next_len = grind (arith, common_steps);
      first = λ f h.
          let next = old.first f h in
          let same : (i : ℕ) → i ≡ p → bucket_at hs i ≡ f → f ≡ g = λ i e in_f. sym in_f ∙ ap (bucket_at hs) e ∙ sym at in
          grind (arith, get_or-set_at, get_or-set_other);
      next = λ i above k. let next = old.next i in grind (arith, common_steps);
    }

-- a walk along bucket g's chain has come to place p, and P holds of the members that it passed
pub record Walk (hs : List ℕ) (g p : ℕ) (P : ℕ → Type 0) : Type 0 where
  pub within : p ≤ length hs
  pub member : p < length hs → bucket_at hs p ≡ g
  pub passed : (i : ℕ) → IsMember hs g i → i < p → P i

-- it goes to the next place, and passes this one
pub walk_on : {hs firsts nexts : List ℕ} {g p : ℕ} {P Q : ℕ → Type 0} → AreChains hs 0 firsts nexts → p < length hs → Walk hs g p P
    → ((i : ℕ) → IsMember hs g i → i < p → P i → Q i) → (IsMember hs g p → Q p) → Walk hs g (get_or nexts p 0) Q
walk_on {p = p} chains h walk keep here =
    let next = chains.next p (omega arith) h in
    let at = walk.member h in
    record {
      within = next.within;
      member = λ k. next.member k ∙ at;
      passed = λ i m k. let none = next.none i in elim (cases_eq i p) [
        | inl same ↦ rw same (here (record { within = h; bucket = at }))
        | inr apart ↦ keep i m (grind arith) (walk.passed i m (grind arith))
      ];
    }
