-- Steps that are taken one after another.
use Rattle.zv_props.proofs.Common.{◌≡◌, ℕ, ◌+◌, ◌<◌, List, [], ◌∷◌, ◌++◌, length, take, get_or, refl, ◌∙◌}
use Rattle.zv_props.proofs.Common.{AnswerAlike, Row, append_assoc, append-nil}
use Rattle.std.proofs.lemmas.List.{take_more}
use Rattle.zv_props.specs.Requests.{after_all, after_step, replies, reply}
use Rattle.zv_props.specs.Steps.{IsStep}
use Rattle.zv_props.specs.declared.step.Step.{Step}
use Rattle.zv_props.specs.declared.step.Step.TheVariants.{At, Set}

-- one step after others
step_more : (rows : List Row) (steps : List Step) (s : Step) → (after_all rows (steps ++ s ∷ []) ≡ after_step (after_all rows steps) s) ×
    (replies rows (steps ++ s ∷ []) ≡ replies rows steps ++ reply (after_all rows steps) s)
step_more rows [] s = (refl, append-nil (reply rows s))
step_more rows (step ∷ steps) s = let rest = step_more (after_step rows step) steps s in (rest.0, rw (rest.1, append_assoc))

-- rows that answer alike do so after a step, and are replied alike
step_alike : (step : Step) (xs ys : List Row) → IsStep step → AnswerAlike xs ys →
    AnswerAlike (after_step xs step) (after_step ys step) × (reply xs step ≡ reply ys step)
step_alike (At c) xs ys good alike = (alike, rw (alike c good))
step_alike (Set first last value) xs ys good alike = (λ c le. rw (alike c le), refl)

-- what is known of a table that some steps left, and of their replies
pub record IsOnWay (first table : List Row) (steps : List Step) (text : List ℕ) : Type 0 where
  pub so_far : text ≡ replies first steps
  pub left : AnswerAlike table (after_all first steps)

pub next : (first table new : List Row) (steps : List Step) (i : ℕ) (d : Step) (text : List ℕ) → i < length steps → IsStep (get_or steps i d) →
    AnswerAlike new (after_step table (get_or steps i d)) → IsOnWay first table (take i steps) text →
    IsOnWay first new (take (i + 1) steps) (text ++ reply table (get_or steps i d))
next first table new steps i d text lt good alike way =
    let more = step_more first (take i steps) (get_or steps i d) in
    let same = step_alike (get_or steps i d) table (after_all first (take i steps)) good way.left in
    rw (take_more steps i d lt) (record { so_far = cc (more.1, same.1); left = λ c le. rw more.0 (alike c le ∙ same.0 c le) })
