-- What `start_at` ensures settles its answer: the start is made again of what it tells.
use Rattle.std.specs.Prelude.{◌≡◌, refl, Bool, Ok, Err}
use Rattle.rules.specs.declared.Vector.{Vector}
use Rattle.rules.specs.declared.Levels.{Levels}
use Rattle.rules.specs.Walk.{Stop, Probe}
use Rattle.laws.specs.Tally.{Tally, yes, no, gives-settled}
use Rattle.rules.specs.Pick.{refused_answer}
use Rattle.start.specs.Start.{Start, begun, start_tally, Started}

made : Tally Stop Levels → Start
made (yes v k) = begun v k
made (no s k) = Err (refused_answer s k)

made_again : (r : Start) → made (start_tally r) ≡ r
unfolding made
made_again (Ok b) = refl
made_again (Err r) = refl

pub started-settled : {quick : Bool} {c : Probe} {p : Vector} {r t : Start} → Started quick c p r → Started quick c p t → r ≡ t
started-settled {r = r} {t} h k = gives-settled made (made_again r) (made_again t) h.gives k.gives
