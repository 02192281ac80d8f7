-- An answer that tells what a question gives is the definition's.
use Rattle.std.specs.Prelude.{◌≡◌, refl, ℕ}
use Rattle.std.proofs.Common.{sym, ap, ◌∙◌, arith}
use Rattle.rules.specs.Answers.{Pick}
use Rattle.std.specs.Prelude.{Ok as Accepted, Err as IsRefused}
use Rattle.rules.specs.Asked.{Asked, answered, refused}
use Rattle.rules.specs.Walk.{Stop, Found}
use Rattle.rules.specs.Pick.{accepted_answer, refused_answer, answer}
use Rattle.rules.specs.TwoCalls.{answer_from}
use Rattle.laws.specs.Tally.{Tally, yes, no, tally, Gives}
use Rattle.end.specs.End.{pick_tally}

unfoldable pub answer_of : Tally Stop Found → Pick
answer_of (yes f n) = Accepted (accepted_answer f n)
answer_of (no e n) = IsRefused (refused_answer e n)

pub tally-of : (r : Pick) → r ≡ answer_of (pick_tally r)
unfolding answer_of
tally-of (Accepted a) = refl
tally-of (IsRefused a) = refl

-- counted on from n looks
pub tally-answer : (n : ℕ) (x : Asked Stop Found) → answer_of (tally n x) ≡ answer_from n x
unfolding answer_of tally answer_from
tally-answer n (answered f t) = refl
tally-answer n (refused e t) = refl

pub answer-from-none : (x : Asked Stop Found) → answer_from 0 x ≡ answer x
unfolding answer_from answer
answer-from-none (answered f t) = ap (λ (n : ℕ). Accepted (accepted_answer f n)) (omega arith)
answer-from-none (refused e t) = ap (λ (n : ℕ). IsRefused (refused_answer e n)) (omega arith)

pub is-answer-from : {n : ℕ} (x : Asked Stop Found) {r : Pick} → Gives n x (pick_tally r) → r ≡ answer_from n x
is-answer-from {n} x {r} h = tally-of r ∙ ap answer_of h.is ∙ tally-answer n x

pub is-answer : (x : Asked Stop Found) {r : Pick} → Gives 0 x (pick_tally r) → r ≡ answer x
is-answer x h = is-answer-from x h ∙ answer-from-none x

-- a question that goes on from n looks as y does has y's answer, counted on from there
pub answer-onward : (n : ℕ) (x y : Asked Stop Found) → Gives 0 x (tally n y) → answer_from n y ≡ answer x
answer-onward n x y h = sym (tally-answer n y) ∙ ap answer_of h.is ∙ tally-answer 0 x ∙ answer-from-none x
