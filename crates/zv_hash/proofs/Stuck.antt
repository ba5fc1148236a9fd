-- Buckets choose alike wherever all before them do: so hashes have one table, or a bucket that is stuck in every one.
use Rattle.zv_hash.proofs.Common.{◌==◌, bucket_of, ◌≡◌, ℕ, suc, zero, ◌+◌, ◌*◌, ◌<◌, ◌⊎◌, inl, inr, List, length, ap, sym, arith, bucket_at, size}
use Rattle.zv_hash.proofs.Common.{count_by-le-length, displacement, sent_to, IsBefore, IsEarlier, IsChoice, IsStuck, Chosen}
use Rattle.std.proofs.Math.Nat.{eq-zero-or-pos, mul-le-mul_right}
use Rattle.zv_hash.proofs.Choices.{SameSlots, same_fits}
use Rattle.zv_hash.proofs.Slots.{bucket_below, bucket_size}
use Rattle.zv_hash.proofs.Common.{◌∙◌, cases_eq, get_or, get_or_default, refl, slot_at, Placed}
use Rattle.std.proofs.lemmas.Bool.Decides.{nat_tests}
use Rattle.std.proofs.lemmas.Grind.{same_number_lists}
use Rattle.std.proofs.lemmas.List.{same_lists}

-- the buckets before g have choices
abbrev Before : List ℕ → List (ℕ × ℕ) → ℕ → Type 0
Before hs ds g = (f : ℕ) → f < length hs → 0 < size hs f → IsBefore hs f g → IsChoice hs ds f

earlier : (hs : List ℕ) (ds : List (ℕ × ℕ)) (f g : ℕ) → IsBefore hs f g → Before hs ds g → Before hs ds f
earlier hs ds f g b all e h some c = all e h some (grind arith)

-- of two displacements one is earlier, or they are the same
apart : (d e : ℕ × ℕ) → (IsEarlier d e → ⊥) → (IsEarlier e d → ⊥) → d ≡ e
apart (a, b) (x, y) h k = let first : a ≡ x = grind arith in let second : b ≡ y = grind arith in cc

-- where the buckets before one have the same slots, it has one choice
same_choices : {hs : List ℕ} {ds es : List (ℕ × ℕ)} {g : ℕ} → SameSlots hs ds es g → IsChoice hs ds g → IsChoice hs es g → displacement es g ≡ displacement ds g
same_choices same d e =
    apart _ _ (λ less. d.first _ e.candidate less (same_fits (λ j h b. sym (same j h b)) e.fits)) (λ less. e.first _ d.candidate less (same_fits same d.fits))

-- the rank of a bucket, by its size first, rises in the order
rank_above : (n s g t f : ℕ) → g < n → (s < t) ⊎ ((t ≡ s) × (g < f)) → s * n + g < t * n + f
rank_above n s g t f h b = elim b [ inl more ↦ omega (arith, mul-le-mul_right n more) | inr both ↦ rw both.0 (omega arith) ]

-- in two tables the buckets before g have the same slots, by induction on their order
same_slots : (hs : List ℕ) (ds es : List (ℕ × ℕ)) (k g : ℕ) → g < length hs → length hs * length hs + length hs < size hs g * length hs + g + k
    → Before hs ds g → Before hs es g → SameSlots hs ds es g
same_slots hs ds es zero g within high one other j h b =
    absurd (omega (arith, mul-le-mul_right (length hs) (count_by-le-length (λ h. bucket_of (length hs) h == g) hs)))
same_slots hs ds es (suc k) g within high one other j h b =
    let f : ℕ = bucket_at hs j in
    let below = bucket_below hs j h in
    let some = bucket_size hs j h in
    let above = rank_above (length hs) (size hs g) g (size hs f) f within b in
    let same = same_slots hs ds es k f below (omega arith) (earlier hs ds f g b one) (earlier hs es f g b other) in
    ap (λ d. sent_to hs d j) (same_choices same (one f below some b) (other f below some b))

-- a bucket that is stuck has no choice in another table
no_choice : {hs : List ℕ} {ds : List (ℕ × ℕ)} {g : ℕ} → IsStuck hs g → Before hs ds g → IsChoice hs ds g → ⊥
no_choice {hs} {ds} {g} stuck before choice =
    let n : ℕ = length hs in
    stuck.none _ choice.candidate (same_fits (same_slots hs ds stuck.ds (n * n + n + 1) g stuck.within (omega arith) before stuck.before) choice.fits)

-- two tables of the same hashes have one displacement a bucket
same_displacements : {hs : List ℕ} {ds es : List (ℕ × ℕ)} → Chosen hs ds → Chosen hs es → (g : ℕ) → g < length hs → displacement es g ≡ displacement ds g
same_displacements {hs} {ds} {es} one other g h = elim (eq-zero-or-pos (size hs g)) [
  | inl none ↦ other.empty g h none ∙ sym (one.empty g h none)
  | inr some ↦
      let n : ℕ = length hs in
      let same = same_slots hs ds es (n * n + n + 1) g h (omega arith) (λ f k pos _. one.choices f k pos) (λ f k pos _. other.choices f k pos) in
      same_choices same (one.choices g h some) (other.choices g h some)
]

pub same_tables : {hs : List ℕ} {ds es : List (ℕ × ℕ)} → Chosen hs ds → Chosen hs es → ds ≡ es
same_tables {hs} {ds} {es} one other = same_lists ds es (one.len ∙ sym other.len) (λ k d h.
    let within : k < length hs = omega (arith, one.len) in
    get_or_default ds k d (0, 0) h ∙ sym (same_displacements one other k within) ∙ get_or_default es k (0, 0) d (omega (arith, other.len)))

-- hashes in one slot are one
slots_apart : {hs : List ℕ} {ds : List (ℕ × ℕ)} → Chosen hs ds → (i j : ℕ) → i < length hs → j < length hs → slot_at hs ds i ≡ slot_at hs ds j → i ≡ j
slots_apart {hs} {ds} chosen i j h k same =
    let fits = λ (i : ℕ) (h : i < length hs). (chosen.choices _ (bucket_below hs i h) (bucket_size hs i h)).fits in
    elim (cases_eq (bucket_at hs i) (bucket_at hs j)) [
      | inl one ↦ (fits i h).distinct i j (record { within = h; bucket = refl }) (record { within = k; bucket = sym one })
          (same ∙ ap (λ g. sent_to hs (displacement ds g) j) (sym one))
      | inr apart ↦
          let mine = (fits i h).free i j (record { within = h; bucket = refl }) k in
          let others = (fits j k).free j i (record { within = k; bucket = refl }) h in
          grind arith
    ]

-- the hash in a slot is one that is sent there
in_slot : {hs : List ℕ} {ds : List (ℕ × ℕ)} {places : List ℕ} → Placed hs ds places → (s : ℕ) → s < length hs → slot_at hs ds (get_or places s 0) ≡ s
in_slot placed s h = let at = placed.slots s h in grind (arith, nat_tests)

pub same_places : {hs : List ℕ} {ds : List (ℕ × ℕ)} {ps qs : List ℕ} → Chosen hs ds → Placed hs ds ps → Placed hs ds qs → ps ≡ qs
same_places {hs} {ds} {ps} {qs} chosen p q = same_number_lists ps qs (p.len ∙ sym q.len) (λ s h.
    let within : s < length hs = omega (arith, p.len) in
    slots_apart chosen _ _ (p.within s within) (q.within s within) (in_slot p s within ∙ sym (in_slot q s within)))

-- hashes with a bucket that is stuck have no table
pub chosen_not_stuck : {hs : List ℕ} {ds : List (ℕ × ℕ)} {g : ℕ} → Chosen hs ds → IsStuck hs g → ⊥
chosen_not_stuck {g = g} chosen stuck = no_choice stuck (λ f h some _. chosen.choices f h some) (chosen.choices g stuck.within stuck.some)

-- and one bucket alone is stuck
pub one_stuck : (hs : List ℕ) (g h : ℕ) → IsStuck hs g → IsStuck hs h → g ≡ h
one_stuck hs g h p q =
    let not_before = λ (b : IsBefore hs g h). no_choice p (earlier hs q.ds g h b q.before) (q.before g p.within p.some b) in
    let not_after = λ (b : IsBefore hs h g). no_choice q (earlier hs p.ds h g b p.before) (p.before h q.within q.some b) in
    grind arith
