-- A walk that ended has looked both ways from its apex along each side between two remaining corners: with a pair (k, l) its last round asked the pair (l, k).
use Rattle.std.specs.Prelude.{◌≡◌, ℕ, T}
use Rattle.std.proofs.Common.{◌∙◌}
use Rattle.std.proofs.Math.Path.{ap}
use mathlib.Core.List.{List}
use Rattle.rules.specs.declared.Vector.{Vector}
use Rattle.rules.specs.declared.Levels.{Levels}
use Rattle.rules.specs.declared.Triangle.{Triangle}
use Rattle.rules.specs.declared.Pair.{Pair}
use Rattle.rules.specs.Vectors.{lay}
use Rattle.rules.specs.Walk.{units, pairs, way, only, takes_part, Probe, Found, rounds, found}
use Rattle.laws.specs.Only.{taking-in}
use Rattle.laws.specs.Tame.{turned, units-tame}
use Rattle.laws.specs.Frames.{lay-minus}
use Rattle.laws.specs.Ended.{Stood, stood-among}
use Rattle.laws.proofs.Ended.{end-stood}
use Rattle.laws.specs.PickParts.{WalkPart}
use Rattle.laws.specs.BothWays.{turned-takes, turned-way, laid-way, BothWays}

module _ (c : Probe) where
  abbrev s : Vector
  s = c.signs

  -- of a walk with the level axes v
  module _ {R : ℕ} {v : Levels} {f : Found} {t : List Vector} (h : WalkPart c R v f t) where
    abbrev m : Triangle
    m = h.end.0

    side-stood : (x : Pair) → T (takes_part v x) → Stood c t (lay s (way m x))
    unfolding rounds
    side-stood x takes = stood-among c _ h.among (end-stood c (only (takes_part v) pairs) _ 0 units units-tame.unimodular h.walked x (taking-in v x takes))

    sides-way : (x : Pair) → way f.triangle x ≡ lay s (way m x)
    unfolding found
    sides-way x = ap (λ (f : Found). way f.triangle x) h.is ∙ laid-way s m x

    pub sides-looked : (x : Pair) → T (takes_part v x) → BothWays c t (way f.triangle x)
    sides-looked x takes = rw (sides-way x) (record {
      there = side-stood x takes;
      back = rw (← lay-minus s (way m x), ← turned-way m x) (side-stood (turned x) (turned-takes v x takes));
    })
