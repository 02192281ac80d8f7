-- The end of a walk: what its answer tells.
use Rattle.std.specs.Prelude.{List, ℕ}
use Rattle.rules.specs.declared.Levels.{Levels}
use Rattle.rules.specs.Answers.{Pick}
use Rattle.std.specs.Prelude.{Ok as Accepted, Err as Refused}
use Rattle.rules.specs.Asked.{◌>>=◌}
use Rattle.rules.specs.Walk.{Stop, Probe, Found, laid, rounds, end}
use Rattle.laws.specs.Tally.{Tally, yes, Gives}
use Rattle.laws.specs.Answers.{found_of}
use Rattle.falls.specs.declared.Scene.{Scene}
use Rattle.falls.specs.Scene.{probe_of}
use Rattle.refusals.specs.Refusals.{refusal_tally}
use Rattle.walk.specs.declared.End.{End}

abbrev pub pick_tally : Pick → Tally Stop Found
pick_tally (Accepted a) = yes (found_of a) a.looks
pick_tally (Refused r) = refusal_tally r

-- the end of a walk, whose triangle is laid in. It asks nothing, so the bytes play no part
pub record EndGives (v : Scene) (level : Levels) (e : End) (r : Pick) : Type 0 where
  pub gives : (bytes : List ℕ) → Gives e.looks (end (probe_of v bytes) v.reach level (laid v.signs e.triangle, e.steps)) (pick_tally r)

pub record WalkedToEnd (c : Probe) (R : ℕ) (level : Levels) (looks : ℕ) (r : Pick) : Type 0 where
  pub gives : Gives looks (rounds c R level >>= end c R level) (pick_tally r)
