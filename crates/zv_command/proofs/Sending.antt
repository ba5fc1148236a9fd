-- Texts that an output takes one after another.
use Rattle.zv_command.proofs.Common.{◌≡◌, ℕ, ◌+◌, min, List, [], ◌++◌, length, take, sym, ◌∙◌, ap, subst, arith, append_assoc, append-nil, refl, Result}
use Rattle.zv_command.proofs.Common.{Ok, Err, IsOk, IsErr, OnOk, Option, Appends-trans, Appends, Takes, Appends-nil, take-append-add, take-append-le}
use Rattle.zv_command.proofs.Common.{take_min, AppendsPrefix}
use Rattle.zv_command.specs.Sending.{Sends}
use Rattle.zv_devices.specs.declared.device.Failed.{Failed}
use Rattle.zv_command.specs.declared.output.Output.{Output}

-- ---- lists and prefixes

-- the first part of what waited and of a text was sent, and the rest waits with a second text
waits_then : (before xs mid ys sent : List ℕ) → before ++ xs ≡ sent ++ mid → before ++ (xs ++ ys) ≡ sent ++ (mid ++ ys)
waits_then before xs mid ys sent is = sym (append_assoc before xs ys) ∙ ap (λ (l : List ℕ). l ++ ys) is ∙ append_assoc sent mid ys

prefix_after : (a b c : Option (List ℕ)) (sent rest whole : List ℕ) → whole ≡ sent ++ rest → Appends a b sent → AppendsPrefix b c rest → AppendsPrefix a c whole
prefix_after a b c sent rest whole is first (n, second) =
    (length sent + n, rw (is, take-append-add sent rest n) (Appends-trans a b c sent (take n rest) first second))

prefix_of_more : (a b : Option (List ℕ)) (xs ys : List ℕ) → AppendsPrefix a b xs → AppendsPrefix a b (xs ++ ys)
prefix_of_more a b xs ys (n, taken) =
    let m = min n (length xs) in
    (m, rw (take-append-le m xs ys (omega arith), take_min n xs) taken)

-- to send the rest is to send the whole
pub record Completes {K : Type 0} (taken : K → Option (List ℕ)) (faults : K → ℕ) (before now : Output K) (whole rest : List ℕ) : Type 0 where
  pub step : (after : Output K) (r : Result Unit Failed) → Sends taken faults now after r rest → Sends taken faults before after r whole

module _ {K : Type 0} {taken : K → Option (List ℕ)} {faults : K → ℕ} where
  -- ---- texts, one after another

  -- a text that was taken whole, and a second one
  pub sends_then : {a b c : Output K} {s r : Result Unit Failed} {xs ys : List ℕ} → Sends taken faults a b s xs → IsOk s → Sends taken faults b c r ys
      → Sends taken faults a c r (xs ++ ys)
  sends_then {a = a} {b = b} {c = c} {s = Ok u} {r = Ok v} {xs = xs} {ys = ys} first ok second = record {
    same = second.same ∙ first.same;
    bytes = (
      first.bytes.0 ++ second.bytes.0,
      Appends-trans (taken a.sink.now) (taken b.sink.now) (taken c.sink.now) first.bytes.0 second.bytes.0 first.bytes.1 second.bytes.1,
      waits_then a.piece xs b.piece ys first.bytes.0 first.bytes.2 ∙ ap (λ (l : List ℕ). first.bytes.0 ++ l) second.bytes.2
          ∙ sym (append_assoc first.bytes.0 second.bytes.0 c.piece),
    );
    cause = record { later = omega (arith, first.cause.later, second.cause.later); stays = second.cause.stays ∙ first.cause.stays; failed = tt };
  }
  sends_then {a = a} {b = b} {c = c} {s = Ok u} {r = Err e} {xs = xs} {ys = ys} first ok second = record {
    same = second.same ∙ first.same;
    bytes = prefix_after (taken a.sink.now) (taken b.sink.now) (taken c.sink.now) first.bytes.0 (b.piece ++ ys) (a.piece ++ (xs ++ ys))
        (waits_then a.piece xs b.piece ys first.bytes.0 first.bytes.2) first.bytes.1 second.bytes;
    cause = record {
      later = omega (arith, first.cause.later, second.cause.later);
      stays = tt;
      failed = omega (arith, first.cause.later, second.cause.failed);
    };
  }
  sends_then {s = Err e} first ok second = cc

  -- a text that was cut short, and what would have followed
  pub sends_cut : {a b : Output K} {s r : Result Unit Failed} {xs : List ℕ} (ys : List ℕ) → Sends taken faults a b s xs → IsErr s → r ≡ s
      → Sends taken faults a b r (xs ++ ys)
  sends_cut {s = Ok u} ys sent err same = cc
  sends_cut {a = a} {b = b} {s = Err e} {xs = xs} ys sent err same =
      rw same (record {
        same = sent.same;
        bytes = subst (AppendsPrefix (taken a.sink.now) (taken b.sink.now)) (append_assoc a.piece xs ys)
            (prefix_of_more (taken a.sink.now) (taken b.sink.now) (a.piece ++ xs) ys sent.bytes);
        cause = sent.cause;
      })

  -- the same of whatever follows a text: the first part of the conclusion shows where the lemma applies
  pub sends_more : (a b : Output K) (s : Result Unit Failed) (xs : List ℕ) → Sends taken faults a b s xs
      → Sends taken faults a b s xs × ((r : Result Unit Failed) (ys : List ℕ) → IsErr s → r ≡ s → Sends taken faults a b r (xs ++ ys))
      × ((c : Output K) (r : Result Unit Failed) (ys : List ℕ) → IsOk s → Sends taken faults b c r ys → Sends taken faults a c r (xs ++ ys))
  sends_more a b s xs sent = (sent, λ r ys. sends_cut ys sent, λ c r ys ok more. sends_then sent ok more)

  -- a text that waits
  pub sends_later : {a b : Output K} {xs : List ℕ} → b.sink ≡ a.sink → b.piece ≡ a.piece ++ xs → Sends taken faults a b (Ok tt) xs
  sends_later {a = a} {b = b} {xs = xs} sink piece = record {
    same = ap (λ s. s.ghost_name) sink;
    bytes = ([], subst (λ s. Appends (taken a.sink.now) (taken s.now) []) (sym sink) (Appends-nil (taken a.sink.now)), sym piece);
    cause = rw sink (record { later = omega arith; stays = refl; failed = tt });
  }

  pub sends_as : {a b : Output K} {r : Result Unit Failed} {xs ys : List ℕ} → ys ≡ xs → Sends taken faults a b r xs → Sends taken faults a b r ys
  sends_as is sent = rw is sent

  -- what was sent of a text from its start to its end
  pub takes_from : {a b : Output K} {r : Result Unit Failed} {text : List ℕ} → a.piece ≡ [] → Sends taken faults a b r text → OnOk r (b.piece ≡ [])
      → Takes (taken a.sink.now) (taken b.sink.now) r text
  takes_from {a = a} {b = b} {r = Ok u} {text = text} start sent end =
      let is : text ≡ sent.bytes.0 =
      ap (λ (l : List ℕ). l ++ text) (sym start) ∙ sent.bytes.2 ∙ ap (λ (l : List ℕ). sent.bytes.0 ++ l) end ∙ append-nil sent.bytes.0 in
      subst (Appends (taken a.sink.now) (taken b.sink.now)) (sym is) sent.bytes.1
  takes_from {a = a} {b = b} {r = Err e} {text = text} start sent end =
      subst (λ (l : List ℕ). AppendsPrefix (taken a.sink.now) (taken b.sink.now) (l ++ text)) start sent.bytes

  -- ---- loops

  pub completes_more : {a b c : Output K} {s : Result Unit Failed} {whole rest xs ys : List ℕ} → Completes taken faults a b whole rest → rest ≡ xs ++ ys
      → Sends taken faults b c s xs → IsOk s → Completes taken faults a c whole ys
  completes_more left is sent ok = record { step = λ after r more. left.step after r (rw is (sends_then sent ok more)) }

  pub completes_cut : {a b c : Output K} {s r : Result Unit Failed} {whole rest xs : List ℕ} (ys : List ℕ) → Completes taken faults a b whole rest
      → rest ≡ xs ++ ys → Sends taken faults b c s xs → IsErr s → r ≡ s → Sends taken faults a c r whole
  completes_cut {c = c} {r = r} ys left is sent err same = left.step c r (rw is (sends_cut ys sent err same))

  pub completes_last : {a b c : Output K} {r : Result Unit Failed} {whole rest : List ℕ} → Completes taken faults a b whole rest → rest ≡ []
      → Sends taken faults b c r [] → Sends taken faults a c r whole
  completes_last {c = c} {r = r} left none sent = left.step c r (rw none sent)

  pub completes_none : {a b : Output K} {whole rest : List ℕ} → Completes taken faults a b whole rest → rest ≡ [] → Sends taken faults a b (Ok tt) whole
  completes_none {b = b} left none = completes_last left none (sends_later refl (sym (append-nil b.piece)))
