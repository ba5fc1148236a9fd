use Rattle.std.proofs.Common.{◌≡◌, ℕ, List, ◌-◌, ◌+◌, ◌≤◌, ◌++◌, take, drop, length, length-take, length-drop, take-append-drop, ap, sym, ◌∙◌, arith}
use Rattle.std.proofs.lemmas.List.{drop-drop, take_at}
use Rattle.zv_devices.proofs.memory.give.Goals as goal

-- what is left from a place: the next n bytes, which were copied to the front of a buffer, and the rest
next_and_rest : (items copied others : List ℕ) (at n : ℕ) → at + n ≤ length items → copied ≡ take (at + n - at) (drop at items)
    → drop at items ≡ take n (copied ++ others) ++ drop (at + n) items
next_and_rest items copied others at n fits copy =
    let same : copied ≡ take n (drop at items) = copy ∙ ap (λ (k : ℕ). take k (drop at items)) (omega arith) in
    let long : length copied ≡ n = ap length same ∙ simp (length-take, length-drop) (omega arith) in
    rw (take_at copied others n long, same, ← drop-drop n at items) (sym (take-append-drop n (drop at items)))

pub returns-clause-given : goal.returns-clause-given
returns-clause-given c = next_and_rest c.args.bytes.now c.copy_from_slice.new.self _ c.args.at c.min-count.result (omega arith) c.copy_from_slice.ensures.after
