-- Choices while a table is filled: one more displacement leaves those before it, and free slots are those that no bucket before holds.
use Rattle.zv_hash.proofs.Common.{◌↔◌, ◌≡◌, ℕ, ◌+◌, ◌<◌, List, length, get_or, sym, ◌∙◌, arith, bucket_at, size, displacement, sent_to, slot_at, IsBefore, Fits}
use Rattle.zv_hash.proofs.Common.{IsChoice, FitsFree, Filled}
use Rattle.zv_hash.proofs.Slots.{slot_below}

-- the free slots are those that no bucket before g holds
pub fits_free : {hs : List ℕ} {ds : List (ℕ × ℕ)} {places : List ℕ} {g : ℕ} {d : ℕ × ℕ} → Filled hs ds places (size hs g) (g + 1)
    → Fits hs ds g d ↔ FitsFree hs places g d
fits_free {hs} {places = places} {g = g} {d = d} filled = (
  λ fits. record {
    distinct = fits.distinct;
    free = λ i m.
        let slot : ℕ = sent_to hs d i in
        let by = filled.free slot (slot_below (length hs) d _ (omega (arith, m.within))) in
        let other = fits.free i (get_or places slot 0) m in
        grind arith;
  },
  λ fits. record { distinct = fits.distinct; free = λ i j m within before same. let held = filled.held j within in let free = fits.free i m in grind arith },
)

-- the hashes of the buckets before g have the same slots
abbrev pub SameSlots : List ℕ → List (ℕ × ℕ) → List (ℕ × ℕ) → ℕ → Type 0
SameSlots hs ds es g = (j : ℕ) → j < length hs → IsBefore hs (bucket_at hs j) g → slot_at hs es j ≡ slot_at hs ds j

-- a bucket fits alike then
pub same_fits : {hs : List ℕ} {ds es : List (ℕ × ℕ)} {g : ℕ} {d : ℕ × ℕ} → SameSlots hs ds es g → Fits hs ds g d → Fits hs es g d
same_fits same fits = record { distinct = fits.distinct; free = λ i j m within before e. fits.free i j m within before (e ∙ same j within before) }

-- and has the same choice
pub same_choice : {hs : List ℕ} {ds es : List (ℕ × ℕ)} {g : ℕ} → displacement es g ≡ displacement ds g → SameSlots hs ds es g → IsChoice hs ds g
    → IsChoice hs es g
same_choice is same choice = record {
  candidate = rw is choice.candidate;
  fits = rw is (same_fits same choice.fits);
  first = λ e candidate earlier fits. choice.first e candidate (rw is at earlier) (same_fits (λ j w b. sym (same j w b)) fits);
}
