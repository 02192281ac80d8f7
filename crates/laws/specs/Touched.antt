-- The touch's answer: what is said of the question holds of its two cases.
use Rattle.std.specs.Prelude.{◌≡◌, refl, List}
use Rattle.std.proofs.Common.{subst}
use Rattle.rules.specs.declared.Vector.{Vector}
use Rattle.rules.specs.Answers.{Pick, Touch}
use Rattle.std.specs.Prelude.{Ok as Accepted, Err as Refused, Ok as Guess, Err as TouchRefused}
use Rattle.rules.specs.Asked.{Asked}
use Rattle.rules.specs.Walk.{Stop, Found}
use Rattle.rules.specs.Pick.{answer}
use Rattle.rules.specs.Touch.{marked}
use Rattle.laws.specs.Says.{Says}
use Rattle.laws.specs.Answers.{AnswerSays, answer-says}

-- a touch without its mark
abbrev pub unmarked : Touch → Pick
unmarked (Guess g) = Accepted g.answer
unmarked (TouchRefused r) = Refused r

unmarked-again : (x : Pick) → x ≡ unmarked (marked x)
unfolding marked
unmarked-again (Accepted a) = refl
unmarked-again (Refused r) = refl

pub marked-says : (Q : Found → List Vector → Type 0) (F : Stop → List Vector → Type 0) (x : Asked Stop Found) → Says Q F x → AnswerSays Q F (unmarked (marked (answer x)))
marked-says Q F x h = subst (AnswerSays Q F) (unmarked-again (answer x)) (answer-says Q F x h)
