-- The answer that a call of a pick, a touch or a walk comes to.
use Rattle.std.specs.Prelude.{Err, List, ℕ, ℤ}
use Rattle.rules.specs.declared.Solid.{Solid}
use Rattle.rules.specs.Answers.{Pick as PickAnswer}
use Rattle.rules.specs.Vectors.{origin}
use Rattle.rules.specs.Solids.{permitted, look}
use Rattle.rules.specs.Pick.{answer, pick_of}
use Rattle.rules.specs.Touch.{touch}
use Rattle.rules.specs.TwoCalls.{walk_of}
use Rattle.refusals.specs.Refusals.{refusal_of}
use Rattle.call.specs.declared.Call.{Call}
use Rattle.call.specs.declared.Call.TheVariants.{Pick, Touch, Check, Walk}

-- a check comes to no such answer
abbrev pub Picks : Call → Type 0
Picks (Pick p) = Unit {0}
Picks (Touch p) = Unit {0}
Picks (Check p) = ⊥
Picks (Walk d) = Unit {0}

abbrev pub picked : Call → Solid → List ℕ → ℤ → ℤ → PickAnswer
picked (Pick p) solid bytes frame reach = pick_of solid bytes p frame reach
picked (Touch p) solid bytes frame reach = answer (touch (permitted solid bytes) (look solid bytes) p frame reach)
picked (Check p) solid bytes frame reach = Err (refusal_of 0 origin 0 0)
picked (Walk d) solid bytes frame reach = walk_of solid bytes d frame reach
