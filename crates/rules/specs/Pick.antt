-- Document 01, "Refusal numbers, in the order they are judged", with document 02's 2026-01: the pick, made of the start check (2026-05) and the rounds, its answer and its promise, for every input.
-- These are definitions: nothing here is proved.
use Rattle.std.specs.Prelude.{◌≡◌, Bool, true, false, List, [], ℕ, ℤ, pos, nat_abs, length}
use Rattle.rules.specs.declared.Vector.{Vector}
use Rattle.rules.specs.declared.Wedge.{Wedge}
use Rattle.rules.specs.declared.Stack.{Stack}
use Rattle.rules.specs.declared.Solid.{Solid}
use Rattle.rules.specs.declared.Solid.TheVariants.{Wedge as IsWedge, Stack as IsStack}
use Rattle.rules.specs.declared.Look.{Look}
use Rattle.rules.specs.declared.Look.TheVariants.{Filled, Empty, Outside}
use Rattle.rules.specs.declared.Levels.{Levels}
use Rattle.rules.specs.declared.Accepted.{Accepted as AcceptedPick}
use Rattle.rules.specs.declared.Refused.{Refused as RefusedPick}
use Rattle.rules.specs.Answers.{Pick}
use Rattle.std.specs.Prelude.{Ok as Accepted, Err as Refused}
use Rattle.rules.specs.Vectors.{◌⊕◌, origin}
use Rattle.rules.specs.Solids.{between, permitted, look}
use Rattle.rules.specs.Asked.{Asked, answered, refused, ◌>>=◌, ◌>>◌}
use Rattle.rules.specs.Walk.{Stop, stop, ensure, signs, powers, Found, Probe, start, to_the_end}

-- in the box, as the look has it
unfoldable pub is_inside : Look → Bool
is_inside Filled = true
is_inside Empty = true
is_inside Outside = false

-- what a walk from the apex q is about: s is the three signs
abbrev pub probe_from : (Vector → Look) → Vector → ℤ → ℤ → Probe
probe_from look q frame reach = record { look = look; apex = q; signs = signs (nat_abs frame); powers = powers (nat_abs reach) }

-- the apex is q = p + s
abbrev pub probe : (Vector → Look) → Vector → ℤ → ℤ → Probe
probe look p frame reach = probe_from look (p ⊕ signs (nat_abs frame)) frame reach

-- refusal 4: p outside the box, else q outside it
unfoldable pub placing : Probe → Vector → Asked Stop (Unit {0})
placing c p = do
  ensure (is_inside (c.look p)) (stop 4 p 0)
  ensure (is_inside (c.look c.apex)) (stop 4 c.apex 0)

-- the inputs are judged: whether the solid is permitted, what the walk is about and its start p
unfoldable pub judging : Bool → Probe → Vector → ℤ → ℤ → Asked Stop (Unit {0})
judging permitted c p frame reach = do
  ensure (between (pos 1) reach (pos 256)) (stop 1 origin 0)
  ensure (between (pos 0) frame (pos 7)) (stop 2 origin 0)
  ensure permitted (stop 3 origin 0)
  placing c p

-- over any solid: whether it is permitted, and its look
module _ (permitted : Bool) (look : Vector → Look) (p : Vector) (frame reach : ℤ) where
  abbrev c : Probe
  c = probe look p frame reach

  -- the start check: the inputs are judged, then the start
  unfoldable pub check : Asked Stop Levels
  check = do
    judging permitted c p frame reach
    start c p

  -- then the rounds and the end
  unfoldable pub pick : Asked Stop Found
  pick = do
    v ← check
    to_the_end c (nat_abs reach) v

-- the answer's two cases: accepted with its record, or refused with number, place and counts
abbrev pub accepted_answer : Found → ℕ → AcceptedPick
accepted_answer f looks = record { normal = f.normal; triangle = f.triangle; apex = f.apex; steps = f.steps; looks = looks }

abbrev pub refused_answer : Stop → ℕ → RefusedPick
refused_answer r looks = record { number = r.number; place = r.place; steps = r.steps; looks = looks }

unfoldable pub answer : Asked Stop Found → Pick
answer (answered f t) = Accepted (accepted_answer f (length t))
answer (refused r t) = Refused (refused_answer r (length t))

-- a pick of a solid with its lent bytes
unfoldable pub pick_of : Solid → List ℕ → Vector → ℤ → ℤ → Pick
pick_of solid bytes p frame reach = answer (pick (permitted solid bytes) (look solid bytes) p frame reach)

-- ---- the promise of a pick, and as it is for each solid: a wedge has no bytes
pub record PickPromise (solid : Solid) (bytes : List ℕ) (p : Vector) (frame reach : ℤ) (r : Pick) : Type 0 where
  pub is : r ≡ pick_of solid bytes p frame reach

pub record WedgePromise (wedge : Wedge) (p : Vector) (frame reach : ℤ) (r : Pick) : Type 0 where
  pub is : r ≡ pick_of (IsWedge wedge) [] p frame reach

pub record StackPromise (stack : Stack) (bytes : List ℕ) (p : Vector) (frame reach : ℤ) (r : Pick) : Type 0 where
  pub is : r ≡ pick_of (IsStack stack) bytes p frame reach
