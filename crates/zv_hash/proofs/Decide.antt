-- Tests that compute what the definitions say of a list of hashes, for worked examples.
use Rattle.zv_hash.proofs.Common.{IsMember, ◌≡◌, ℕ, zero, suc, ◌+◌, ◌<◌, ◌==◌, Bool, true, false, ◌&&◌, cond, max, List, length, refl, ap, ◌∙◌, IsBefore}
use Rattle.zv_hash.proofs.Common.{IsCandidate, bucket_at, size, displacement, sent_to, slot_at, Fits, IsChoice, IsStuck, Chosen}
use Rattle.std.specs.Bool.{Decides}
use Rattle.std.proofs.lemmas.Bool.Decides.{Decides-and as both, Decides-below_and, Decides-eqb as equal, Decides-like as alike, Decides-ltb as less}
use Rattle.std.proofs.lemmas.Bool.Decides.{Decides-not as fails, Decides-or as either, not_from_Decides}

-- a fact with a test of it
abbrev pub Test : Type 0 → Type 0
Test P = (passes : Bool) × Decides passes P

-- a test of a fact's parts is a test of the fact, and one that shows them shows it
abbrev by_parts : {p : Bool} {P Q : Type 0} → (P → Q) → (Q → P) → Decides p P → Test Q
by_parts to from parts = (_, alike _ to from parts)

abbrev pub shown : {p : Bool} {P Q : Type 0} → (P → Q) → Decides p P → (passes : Bool) × (passes ≡ true → Q)
shown to parts = (_, λ e. to (parts.0 e))

pub implies : {P Q : Type 0} (a b : Bool) → Decides a P → Decides b Q → Decides (cond a b true) (P → Q)
implies true b d k = (λ e _. k.0 e, λ h. k.1 (h (d.0 refl)))
implies false b d k = (λ _ p. absurd (not_from_Decides false d refl p), λ _. refl)

pub equal_pairs : (d e : ℕ × ℕ) → Decides (d.0 == e.0 && d.1 == e.1) (d ≡ e)
equal_pairs d e =
    alike _ (λ h. ap (λ x. (x, d.1)) h.0 ∙ ap (λ y. (e.0, y)) h.1) (λ h. (ap (λ d. d.0) h, ap (λ d. d.1) h)) (both _ _ (equal d.0 e.0) (equal d.1 e.1))

-- a test passes of each number below n
abbrev pass_below : (ℕ → Bool) → ℕ → Bool
pass_below p zero = true
pass_below p (suc n) = p n && pass_below p n

pub every : {p : ℕ → Bool} {P : ℕ → Type 0} (n : ℕ) → ((k : ℕ) → Decides (p k) (P k)) → Decides (pass_below p n) ((k : ℕ) → k < n → P k)
every {p} {P} n each = Decides-below_and p P (pass_below p) each refl (λ _. refl) n

-- a test passes of each hash of a bucket
pub every_member : {p : ℕ → Bool} {P : ℕ → Type 0} (hs : List ℕ) (g : ℕ) → ((i : ℕ) → Decides (p i) (P i))
    → Decides (pass_below (λ i. cond (bucket_at hs i == g) (p i) true) (length hs)) ((i : ℕ) → IsMember hs g i → P i)
every_member hs g each =
    alike _ (λ h i m. h i m.within m.bucket) (λ h i within bucket. h i (record { within = within; bucket = bucket }))
    (every (length hs) (λ i. implies _ _ (equal (bucket_at hs i) g) (each i)))

abbrev is_before : (hs : List ℕ) (f g : ℕ) → Test (IsBefore hs f g)
is_before hs f g = (_, either _ _ (less (size hs g) (size hs f)) (both _ _ (equal (size hs f) (size hs g)) (less g f)))

abbrev fits : (hs : List ℕ) (ds : List (ℕ × ℕ)) (g : ℕ) (d : ℕ × ℕ) → Test (Fits hs ds g d)
fits hs ds g d =
    by_parts (λ h. record { distinct = λ i j p. h.0 i p j; free = λ i j p. h.1 i p j }) (λ f. (λ i p j. f.distinct i j p, λ i p j. f.free i j p))
    (both _ _ (every_member hs g (λ i. every_member hs g (λ j. implies _ _ (equal (sent_to hs d i) (sent_to hs d j)) (equal i j))))
    (every_member hs g (λ i. every (length hs) (λ j. implies _ _ (is_before hs (bucket_at hs j) g).1 (fails _ (equal (sent_to hs d i) (slot_at hs ds j)))))))

abbrev candidate : (n : ℕ) (d : ℕ × ℕ) → Test (IsCandidate n d)
candidate n d =
    by_parts (λ h. record { first = h.0; second = h.1.0; some = h.1.1 }) (λ c. (c.first, (c.second, c.some)))
    (both _ _ (less d.0 n) (both _ _ (less d.1 (max n 2)) (less 0 (d.0 + d.1))))

-- a test passes of each displacement that is tried
abbrev every_candidate : {p : ℕ × ℕ → Bool} {P : ℕ × ℕ → Type 0} (n : ℕ) → ((d : ℕ × ℕ) → Decides (p d) (P d)) → Test ((d : ℕ × ℕ) → IsCandidate n d → P d)
every_candidate n each =
    by_parts (λ h d c. h d.0 c.first d.1 c.second c) (λ h a _ b _ c. h (a, b) c)
    (every n (λ a. every (max n 2) (λ b. implies _ _ (candidate n (a, b)).1 (each (a, b)))))

abbrev choice : (hs : List ℕ) (ds : List (ℕ × ℕ)) (g : ℕ) → Test (IsChoice hs ds g)
choice hs ds g =
    let d : ℕ × ℕ = displacement ds g in
    by_parts (λ h. record { candidate = h.0; fits = h.1.0; first = h.1.1 }) (λ c. (c.candidate, (c.fits, c.first)))
    (both _ _ (candidate (length hs) d).1 (both _ _ (fits hs ds g d).1
    (every_candidate (length hs) (λ e. implies _ _ (either _ _ (less e.0 d.0) (both _ _ (equal e.0 d.0) (less e.1 d.1))) (fails _ (fits hs ds g e).1))).1))

-- a test of whether displacements are the chosen ones
abbrev pub chosen_test : (hs : List ℕ) (ds : List (ℕ × ℕ)) → Test (Chosen hs ds)
chosen_test hs ds =
    by_parts (λ h. record { len = h.0; choices = λ g k. (h.1 g k).0; empty = λ g k. (h.1 g k).1 }) (λ c. (c.len, λ g k. (c.choices g k, c.empty g k)))
    (both _ _ (equal (length ds) (length hs)) (every (length hs) (λ g. both _ _ (implies _ _ (less 0 (size hs g)) (choice hs ds g).1)
    (implies _ _ (equal (size hs g) 0) (equal_pairs (displacement ds g) (0, 0))))))

abbrev pub chosen : (hs : List ℕ) (ds : List (ℕ × ℕ)) → (passes : Bool) × (passes ≡ true → Chosen hs ds)
chosen hs ds = let test = chosen_test hs ds in (test.0, test.1.0)

-- bucket g is stuck where the buckets before it have their displacements by ds
abbrev pub stuck : (hs : List ℕ) (ds : List (ℕ × ℕ)) (g : ℕ) → (passes : Bool) × (passes ≡ true → IsStuck hs g)
stuck hs ds g =
    shown (λ h. record { within = h.0.0; some = h.0.1; ds = ds; before = h.1.0; none = h.1.1 })
    (both _ _ (both _ _ (less g (length hs)) (less 0 (size hs g)))
    (both _ _ (every (length hs) (λ f. implies _ _ (less 0 (size hs f)) (implies _ _ (is_before hs f g).1 (choice hs ds f).1)))
    (every_candidate (length hs) (λ d. fails _ (fits hs ds g d).1)).1))
