-- Document 02's 2026-04, the quick touch: the nearer method of document 004, its answer, which is always marked a guess, and its promise, for every input.
-- These are definitions: nothing here is proved.
use Rattle.std.specs.Prelude.{◌≡◌, Bool, List, [], ◌∷◌, ℕ, ℤ, nat_abs}
use Rattle.rules.specs.declared.Vector.{Vector}
use Rattle.rules.specs.declared.Wedge.{Wedge}
use Rattle.rules.specs.declared.Stack.{Stack}
use Rattle.rules.specs.declared.Solid.{Solid}
use Rattle.rules.specs.declared.Solid.TheVariants.{Wedge as IsWedge, Stack as IsStack}
use Rattle.rules.specs.declared.Look.{Look}
use Rattle.rules.specs.Answers.{Pick, Touch, guess}
use Rattle.std.specs.Prelude.{Ok as Accepted, Err as Refused, Err as TouchRefused}
use Rattle.rules.specs.Solids.{permitted, look}
use Rattle.rules.specs.Asked.{Asked, ◌>>=◌, ◌>>◌}
use Rattle.rules.specs.Walk.{Stop, Probe, at_powers, Found, quick_start, to_the_end}
use Rattle.rules.specs.Pick.{probe, judging, answer}

-- a direction falls only if power 1 is filled
abbrev pub nearer : Probe → Probe
nearer = at_powers (1 ∷ [])

-- over any solid: whether it is permitted, and its look
module _ (permitted : Bool) (look : Vector → Look) (p : Vector) (frame reach : ℤ) where
  abbrev c : Probe
  c = nearer (probe look p frame reach)

  -- the inputs are judged as a pick's; steps, choice and last tests are those of the long walk
  unfoldable pub touch : Asked Stop Found
  touch = do
    judging permitted (probe look p frame reach) p frame reach
    v ← quick_start c p
    to_the_end c (nat_abs reach) v

-- its accepted answer is always marked a guess
unfoldable pub marked : Pick → Touch
marked (Accepted a) = guess a
marked (Refused r) = TouchRefused r

-- a touch of a solid with its lent bytes
unfoldable pub touch_of : Solid → List ℕ → Vector → ℤ → ℤ → Touch
touch_of solid bytes p frame reach = marked (answer (touch (permitted solid bytes) (look solid bytes) p frame reach))

-- ---- the promise of a touch, and as it is for each solid
pub record TouchPromise (solid : Solid) (bytes : List ℕ) (p : Vector) (frame reach : ℤ) (r : Touch) : Type 0 where
  pub is : r ≡ touch_of solid bytes p frame reach

pub record WedgeTouchPromise (wedge : Wedge) (p : Vector) (frame reach : ℤ) (r : Touch) : Type 0 where
  pub is : r ≡ touch_of (IsWedge wedge) [] p frame reach

pub record StackTouchPromise (stack : Stack) (bytes : List ℕ) (p : Vector) (frame reach : ℤ) (r : Touch) : Type 0 where
  pub is : r ≡ touch_of (IsStack stack) bytes p frame reach
