-- Calls of a closure one after another.
use Rattle.std.specs.Prelude.{◌≡◌, ℕ, ◌+◌, ◌<◌, List, [], ◌∷◌, ◌++◌, length, map, take, drop}
use Rattle.std.specs.Prelude.{true, Result, Ok, Err}
use Rattle.std.specs.Fn.{Mut, Called, AlwaysReturns}
use Rattle.std.specs.List.{FoldsTo}
use Rattle.zv_fixed.specs.Vectors.{Vector}
use Rattle.zv_fixed.specs.declared.vector.each.EachError.{EachError}
use Rattle.zv_fixed.specs.declared.vector.each.EachError.TheVariants.{Stopped, Memory}

module _ {F T R : Type 0} (g : Mut F (T × Unit {0}) R) where
  -- each call from f on answers what answer gives
  abbrev pub Computes : (T → R) → F → Type 0
  Computes answer = AlwaysReturns g (λ a r. r ≡ answer a.0)

  -- f, called at some values one after another with these answers, becomes f'
  abbrev pub Asked : F → List (T × R) → F → Type 0
  Asked = FoldsTo (λ f call f'. Called g f (call.0, tt) call.1 f')

  -- f, called at the values xs one after another, answered ys
  pub record AnswersEach (f : F) (xs : List T) (ys : List R) : Type 0 where
    pub calls : List (T × R)
    pub last : F
    pub asked : Asked f calls last
    pub taken : map (λ c. c.0) calls ≡ xs
    pub given : map (λ c. c.1) calls ≡ ys

-- f answered each value before some place with the one that is there now, and the value at it with
-- the error e; from it on nothing changed
pub record IsStopped {F T E : Type 0} (g : Mut F (T × Unit {0}) (Result T E)) (f : F)
    (old new : List T) (e : E) : Type 0 where
  pub place : ℕ
  pub within : place < length old
  pub answers : AnswersEach g f (take (place + 1) old) (map Ok (take place new) ++ Err e ∷ [])
  pub kept : drop place new ≡ drop place old
  pub long : length new ≡ length old

-- why a list was not gone over to its end: the closure stopped it, or there was no memory, and then
-- nothing changed
abbrev pub EndsEarly : {F T E : Type 0} → Mut F (T × Unit {0}) (Result T E) → F → Vector T →
    Vector T → EachError E → Type 0
EndsEarly g f old new (Stopped e) = IsStopped g f old.values new.values e × (new.owned ≡ true)
EndsEarly g f old new Memory = new ≡ old
