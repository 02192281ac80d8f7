-- What `walk_on` ensures settles its answer: the end of a walk is made again of what it tells.
use Rattle.std.specs.Prelude.{◌≡◌, refl, ℕ, Result, Ok, Err}
use Rattle.rules.specs.declared.Vector.{Vector}
use Rattle.rules.specs.declared.Levels.{Levels}
use Rattle.rules.specs.declared.Triangle.{Triangle}
use Rattle.rules.specs.declared.Refused.{Refused}
use Rattle.rules.specs.Walk.{Stop, Probe, laid}
use Rattle.rules.specs.Pick.{refused_answer}
use Rattle.laws.specs.Frames.{Signs}
use Rattle.laws.specs.Tally.{Tally, yes, no, gives-settled}
use Rattle.round.specs.Corners.{laid-laid}
use Rattle.walk.specs.declared.End.{End}
use Rattle.walk.specs.Walk.{walk_tally, Walks}

made : Vector → Tally Stop (Triangle × ℕ) → Result End Refused
made s (yes e k) = Ok (record { triangle = laid s e.0; steps = e.1; looks = k })
made s (no e k) = Err (refused_answer e k)

made_again : {s : Vector} → Signs s → (r : Result End Refused) → made s (walk_tally s r) ≡ r
unfolding made
made_again {s} g (Ok e) = λ i. Ok (record { triangle = laid-laid s e.triangle g i; steps = e.steps; looks = e.looks })
made_again g (Err r) = refl

pub walks-settled : {c : Probe} {R : ℕ} {level : Levels} {looks : ℕ} {r t : Result End Refused} → Signs c.signs → Walks c R level looks r → Walks c R level looks t → r ≡ t
walks-settled {c} {r = r} {t} g h k = gives-settled (made c.signs) (made_again g r) (made_again g t) h.gives k.gives
