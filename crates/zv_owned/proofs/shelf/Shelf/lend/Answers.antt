use Rattle.zv_owned.proofs.Common.{◌++◌, ◌+◌, ◌≡◌, ◌≤◌, List, ap, arith, drop, drop-drop, length, length-append, length-drop, length-take-le, refl, rules}
use Rattle.zv_owned.proofs.Common.{splice, take, take-append-le, ℕ}
use Rattle.zv_owned.specs.Shelves.{Shelved}
use Rattle.zv_owned.proofs.shelf.Shelf.lend.Goals as goal

-- What the loan leaves of b: the code keeps as many bytes as there were.
refilled : (b w : List ℕ) (a n : ℕ) → n ≡ length b → a ≤ length b →
    take n ((take a b ++ (w ++ drop (length w) (drop a b))) ++ drop (length (take a b ++ (w ++ drop (length w) (drop a b)))) b)
    ≡ take (length b) (splice b a (a + length w) w)
refilled b w a n e h =
    let front = length-take-le a b h in
    rw (e, drop-drop (length w) a b)
    (take-append-le (length b) (splice b a (a + length w) w) _ (omega (arith, length-append {A = ℕ}, length-drop {A = ℕ})))

pub returns : goal.returns
returns g c =
    let e : c.self.inside.buffer.items ≡ c.args.self.now.bytes = ap (λ (s : Shelved). s.bytes) c.self.view_is in
    let h : c.args.at ≤ length c.self.inside.buffer.items = rw e (omega arith) in (
      (
        refl,
        λ (w : List ℕ). rw (← c.self.view_is) (ap (λ (b : List ℕ). record { bytes = b; spare = c.self.inside.room })
            (refilled c.self.inside.buffer.items w c.args.at c.self.inside.buffer.len c.self.inside.buffer.ok.0 h)),
      ),
      record { lends = tt; value = search rules; len = search rules; steps = search rules },
    )
