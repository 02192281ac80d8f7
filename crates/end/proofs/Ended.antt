-- The answer at the end: by whether the sizes of the normal add to more than the reach; and before it the rounds.
use mathlib.Core.Path.{◌≡◌}
use mathlib.Core.Bool.{true, false}
use mathlib.Core.List.{List}
use Prim.Native.Nat.{ℕ, ◌≤◌, ◌<◌}
use lib.Dec.{leb}
use borrow.Author.Tests.{le-leb, lt-leb}
use Rattle.rules.specs.declared.Vector.{Vector}
use Rattle.rules.specs.declared.Levels.{Levels}
use Rattle.rules.specs.declared.Triangle.{Triangle}
use Rattle.rules.specs.Answers.{Pick}
use Rattle.std.specs.Prelude.{Result, Ok as Accepted, Ok as WalkEnded, Err as IsRefused}
use Rattle.rules.specs.declared.Refused.{Refused}
use Rattle.rules.specs.Vectors.{lay, size}
use Rattle.rules.specs.Walk.{stop, levelled, normal, Probe, laid, found, end}
use Rattle.laws.specs.Frames.{Signs}
use Rattle.laws.specs.Tally.{yes, no, Gives, then-yes, then-no, ensured, not-ensured, at_once}
use Rattle.falls.specs.declared.Scene.{Scene}
use Rattle.falls.specs.Scene.{probe_of}
use Rattle.choice.specs.Sound.{Sound}
use Rattle.round.specs.Corners.{laid-laid}
use Rattle.refusals.specs.Refusals.{refusal_of}
use Rattle.walk.specs.Walk.{Walks}
use Rattle.walk.specs.declared.End.{End}
use Rattle.end.specs.End.{EndGives, WalkedToEnd}

module _ (c : Probe) (R : ℕ) (v : Levels) (m : Triangle) (steps looks : ℕ) where
  end-accepted : leb (size (levelled v (normal m))) R ≡ true → Gives looks (end c R v (m, steps)) (yes (found c v (m, steps)) looks)
  unfolding end
  end-accepted e = then-yes _ (ensured (stop 10 c.apex steps) e) at_once

  end_refused : leb (size (levelled v (normal m))) R ≡ false → Gives looks (end c R v (m, steps)) (no (stop 10 c.apex steps) looks)
  unfolding end
  end_refused e = then-no _ (not-ensured e)

-- ---- from what the callees promised to what the caller promises
module _ {v : Scene} {level : Levels} {e : End} {frame : Triangle} {whole n : Vector} {k : ℕ} (l : frame ≡ laid v.signs e.triangle) (w : whole ≡ normal frame) (a : n ≡ levelled level whole) (b : k ≡ size n) where
  pub ended-accepted : {u : Vector} → Signs v.signs → k ≤ v.reach → u ≡ lay v.signs n
      → EndGives v level e (Accepted record { normal = u; triangle = e.triangle; apex = v.apex; steps = e.steps; looks = e.looks })
  unfolding found
  ended-accepted g h i = record { gives = λ bytes. rw (i, a, w, l) (rw (laid-laid v.signs e.triangle g) at (end-accepted (probe_of v bytes) v.reach level (laid v.signs e.triangle) e.steps e.looks (le-leb _ _ (rw (b, a, w, l) at h)))) }

  pub ended-refused : {r : Refused} → v.reach < k → r ≡ refusal_of 10 v.apex e.steps e.looks → EndGives v level e (IsRefused r)
  ended-refused h i = record { gives = λ bytes. rw i (end_refused (probe_of v bytes) v.reach level (laid v.signs e.triangle) e.steps e.looks (lt-leb _ _ (rw (b, a, w, l) at h))) }

pub ruleset ending = (ended-accepted, ended-refused)

-- ---- the rounds, then the end
module _ {c : Probe} {R : ℕ} {level : Levels} {looks : ℕ} {walked : Result End Refused} (h : Walks c R level looks walked) where
  pub end-sound : {e : End} → walked ≡ WalkEnded e → Sound (laid c.signs e.triangle)
  end-sound i = rw i at h.sound

  pub walked-refused : {r : Refused} → walked ≡ IsRefused r → WalkedToEnd c R level looks (IsRefused r)
  walked-refused i = record { gives = then-no _ (rw i at h.gives) }

pub walked-ended : {v : Scene} (bytes : List ℕ) {level : Levels} {looks : ℕ} {walked : Result End Refused} {e : End} {r : Pick}
    → Walks (probe_of v bytes) v.reach level looks walked → walked ≡ WalkEnded e → EndGives v level e r → WalkedToEnd (probe_of v bytes) v.reach level looks r
walked-ended bytes h i g = record { gives = then-yes _ (rw i at h.gives) (g.gives bytes) }
