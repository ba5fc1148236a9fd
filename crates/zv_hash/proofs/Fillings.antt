-- How a table is filled, from the first bucket to the last.
use Rattle.zv_hash.proofs.Common.{◌≡◌, ℕ, ◌+◌, ◌<◌, ◌≤◌, ◌⊎◌, inl, inr, cases_eq, List, length, get_or, set, replicate, ap, sym, ◌∙◌, arith, length-set}
use Rattle.zv_hash.proofs.Common.{get_or-set_same, get_or-set_other, ◌↔◌, get_or-replicate, length-replicate, get_or_default, IsMember, bucket_at, size}
use Rattle.zv_hash.proofs.Common.{displacement, sent_to, slot_at, IsCandidate, IsEarlier, IsStuck, Chosen, Placed, FitsFree, IsDone, Filled}
use Rattle.std.proofs.lemmas.Bool.Decides.{nat_tests}
use Rattle.zv_hash.proofs.Permutations.{below_permuted, permuted}
use Rattle.zv_hash.proofs.Slots.{bucket_below, slot_below, bucket_size}
use Rattle.zv_hash.proofs.Choices.{fits_free, same_fits, same_choice, SameSlots}

module _ {hs : List ℕ} {ds : List (ℕ × ℕ)} {places : List ℕ} where
  -- an empty table
  pub none_filled : {s : ℕ} → ds ≡ replicate (length hs) (0, 0) → places ≡ replicate (length hs) (length hs) → ((g : ℕ) → g < length hs → size hs g ≤ s)
      → Filled hs ds places s (length hs)
  none_filled zeros ends most = rw (zeros, ends) (record {
    ds_len = length-replicate (length hs) (0, 0);
    len = length-replicate (length hs) (length hs);
    choices = λ f h done. grind (arith, most f h);
    empty = λ f h undone. get_or-replicate (length hs) f (0, 0) (0, 0) h;
    held = λ i h done. let within = bucket_below hs i h in grind (arith, most (bucket_at hs i) within);
    free = λ t h held. grind (arith, get_or-replicate (length hs) t (length hs) 0 h);
  })

  -- the same buckets, told by another size and number
  told_again : {s g s' g' : ℕ} → ((f : ℕ) → f < length hs → IsDone hs s g f ↔ IsDone hs s' g' f) → Filled hs ds places s g → Filled hs ds places s' g'
  told_again same filled = record {
    ds_len = filled.ds_len;
    len = filled.len;
    choices = λ f h done. filled.choices f h ((same f h).1 done);
    empty = λ f h undone. filled.empty f h (λ done. undone ((same f h).0 done));
    held = λ i h done. filled.held i h ((same _ (bucket_below hs i h)).1 done);
    free = λ t h held. let by = filled.free t h held in ((same _ (bucket_below hs _ held)).0 by.0, by.1);
  }

  -- a bucket of another size needs no turn
  pub turn_passed : {s g from : ℕ} → from ≡ g + 1 → (size hs g ≡ s → ⊥) → Filled hs ds places s from → Filled hs ds places s g
  turn_passed {s} {g} next other = told_again (λ f h.
      let apart : f ≡ g → size hs f ≡ s → ⊥ = λ same. rw same other in (λ done. grind arith, λ done. grind arith))

  -- all of one size are placed, and t is the next smaller size
  pub size_passed : {s t : ℕ} → t < s → ((g : ℕ) → g < length hs → size hs g < s → size hs g ≤ t) → Filled hs ds places s 0 → Filled hs ds places t (length hs)
  size_passed less next = told_again (λ f h. let least = next f h in (λ done. grind arith, λ done. grind arith))

-- ---- one bucket more

module _ {hs : List ℕ} {ds : List (ℕ × ℕ)} {old : List ℕ} {g : ℕ} (filled : Filled hs ds old (size hs g) (g + 1)) (within : g < length hs) where
  pub one_filled : {new : List ℕ} {d : ℕ × ℕ} → IsCandidate (length hs) d → FitsFree hs old g d
      → ((e : ℕ × ℕ) → IsCandidate (length hs) e → IsEarlier e d → FitsFree hs old g e → ⊥)
      → length new ≡ length old → ((i : ℕ) → IsMember hs g i → get_or new (sent_to hs d i) 0 ≡ i)
      → ((t : ℕ) → let i : ℕ = get_or new t 0 in (IsMember hs g i × (sent_to hs d i ≡ t)) ⊎ (i ≡ get_or old t 0)) → Filled hs (set ds g d) new (size hs g) g
  one_filled {new} {d} candidate fits first len held either =
      let is : displacement (set ds g d) g ≡ d = get_or-set_same ds g d (0, 0) (omega arith) in
      let other : (f : ℕ) → (f ≡ g → ⊥) → displacement (set ds g d) f ≡ displacement ds f = λ f apart. get_or-set_other ds g f d (0, 0) apart in
      let own : (i : ℕ) → bucket_at hs i ≡ g → slot_at hs (set ds g d) i ≡ sent_to hs d i = λ i at. ap (λ e. sent_to hs e i) (rw at is) in
      let kept : (i : ℕ) → (bucket_at hs i ≡ g → ⊥) → slot_at hs (set ds g d) i ≡ slot_at hs ds i = λ i apart. ap (λ e. sent_to hs e i) (other _ apart) in
      let same : SameSlots hs ds (set ds g d) g = λ j h b. kept j (grind arith) in
      record {
        ds_len = length-set ds g d ∙ filled.ds_len;
        len = len ∙ filled.len;
        choices = λ f h done. elim (cases_eq f g) [
          | inl here ↦ rw here (record {
            candidate = rw is candidate;
            fits = rw is (same_fits same ((fits_free filled).1 fits));
            first = λ e c less now. first e c (rw is at less) ((fits_free filled).0 (same_fits (λ j h b. sym (same j h b)) now));
          })
          | inr apart ↦ same_choice (other f apart) (λ j h b. kept j (grind arith)) (filled.choices f h (grind arith))
        ];
        empty = λ f h undone. other f (grind arith) ∙ filled.empty f h (grind arith);
        held = λ i h done. elim (cases_eq (bucket_at hs i) g) [
          | inl here ↦ rw (own i here) (held i (record { within = h; bucket = here }))
          | inr apart ↦ let was = filled.held i h (grind arith) in rw (kept i apart) (elim (either (slot_at hs ds i)) [
            | inl taken ↦ let free = rw taken.1 at (fits.free _ taken.0) in absurd (omega arith)
            | inr same ↦ same ∙ was
          ])
        ];
        free = λ t h placed. elim (either t) [
          | inl taken ↦ (inr (ap (size hs) taken.0.bucket, omega arith), own _ taken.0.bucket ∙ taken.1)
          | inr same ↦ let was = filled.free t h (rw same at placed) in rw same (grind arith, kept _ (grind arith) ∙ was.1)
        ];
      }

  pub stuck_there : 0 < size hs g → ((e : ℕ × ℕ) → IsCandidate (length hs) e → FitsFree hs old g e → ⊥) → IsStuck hs g
  stuck_there some none = record {
    within = within;
    some = some;
    ds = ds;
    before = λ f h pos before. filled.choices f h (grind arith);
    none = λ e candidate fits. none e candidate ((fits_free filled).0 fits);
  }

-- ---- the whole table

module _ {hs : List ℕ} {ds : List (ℕ × ℕ)} {places : List ℕ} (filled : Filled hs ds places 0 (length hs)) where
  pub all_chosen : Chosen hs ds
  all_chosen = record { len = filled.ds_len; choices = λ g h pos. filled.choices g h (inl pos); empty = λ g h none. filled.empty g h (grind arith) }

  pub all_placed : Placed hs ds places
  all_placed =
      let n : ℕ = length hs in
      let some = bucket_size hs in
      let all = permuted places n filled.len (λ q h.
      let within : slot_at hs ds q < n = slot_below n (displacement ds (bucket_at hs q)) _ (omega arith) in
      (slot_at hs ds q, omega (arith, filled.len), get_or_default places _ q 0 (omega (arith, filled.len)) ∙ filled.held q h (inl (some q h)))) in
      let full : (s : ℕ) → s < n → get_or places s 0 < n = λ s h. below_permuted places n s all (omega (arith, filled.len)) in
      let back : (s : ℕ) → s < n → slot_at hs ds (get_or places s 0) ≡ s = λ s h. (filled.free s h (full s h)).1 in
      record {
        len = filled.len;
        within = full;
        distinct = λ s t h k same. sym (back s h) ∙ ap (slot_at hs ds) same ∙ back t k;
        slots = λ s h.
            let some = (filled.choices _ (bucket_below hs _ (full s h)) (inl (some _ (full s h)))).candidate.some in
            rw (back s h) (grind (arith, nat_tests));
      }
