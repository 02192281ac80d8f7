-- Firm footing: how far out the ways of an accepted answer stay filled from its start, and the bound on the lean at that power; its answer and its promise, for every input.
-- No document asks for it: docs/DECISIONS.md. What it means is the theorem `firm-footing`. These are definitions: nothing here is proved.
use Rattle.std.specs.Prelude.{◌≡◌, Bool, true, false, List, [], ◌∷◌, map, ℕ, ℤ, pos, negsuc, nat_abs, ◌-ℤ◌, length}
use Rattle.std.specs.Int.Signed.{lt_z}
use Rattle.rules.specs.declared.Vector.{Vector}
use Rattle.rules.specs.declared.Wedge.{Wedge}
use Rattle.rules.specs.declared.Stack.{Stack}
use Rattle.rules.specs.declared.Solid.{Solid}
use Rattle.rules.specs.declared.Solid.TheVariants.{Wedge as IsWedge, Stack as IsStack}
use Rattle.rules.specs.declared.Look.{Look}
use Rattle.rules.specs.declared.Look.TheVariants.{Filled, Empty, Outside}
use Rattle.rules.specs.declared.Levels.{Levels}
use Rattle.rules.specs.declared.Triangle.{Triangle}
use Rattle.rules.specs.declared.Pair.{Pair}
use Rattle.rules.specs.declared.Pair.TheVariants.{P01, P02, P10, P12, P20, P21}
use Rattle.rules.specs.declared.Accepted.{Accepted as AcceptedPick}
use Rattle.rules.specs.Answers.{Pick, Firm}
use Rattle.std.specs.Prelude.{Ok as Accepted, Err as Refused, Ok as Stands, Err as FirmRefused}
use Rattle.rules.specs.declared.Bound.{Bound}
use Rattle.rules.specs.declared.Way.{Way}
use Rattle.rules.specs.declared.Way.TheVariants.{Sideways as sideways, Along as along, Against as against}
use Rattle.rules.specs.Vectors.{vector, ◌⊕◌, minus, scale, lay, origin}
use Rattle.rules.specs.Solids.{between, permitted, look}
use Rattle.rules.specs.Asked.{Asked, answered, refused, ◌>>=◌, ◌>>◌}
use Rattle.rules.specs.declared.Axis.{Axis}
use Rattle.rules.specs.declared.Axis.TheVariants.{Axis0 as axis0, Axis1 as axis1, Axis2 as axis2}
use Rattle.rules.specs.Walk.{Stop, stop, ensure, signs, powers, unit, way, level, only, takes_part, Probe, facing}
use Rattle.rules.specs.Pick.{probe_from, placing, refused_answer}
use Rattle.rules.specs.Lean.{levels_of, bound_at, measurable}

-- ---- the ways of a footing: those of the pairs that take part, and along each level axis and against it, in the order in which they are looked at
abbrev pub all_ways : List Way
all_ways =
    sideways P01 ∷ sideways P02 ∷ sideways P10 ∷ sideways P12 ∷ sideways P20 ∷ sideways P21
    ∷ along axis0 ∷ against axis0 ∷ along axis1 ∷ against axis1 ∷ along axis2 ∷ against axis2 ∷ []

abbrev pub belongs : Levels → Way → Bool
belongs v (sideways x) = takes_part v x
belongs v (along k) = level v k
belongs v (against k) = level v k

-- the triangle comes laid in, as an answer has it
abbrev pub way_of : Vector → Triangle → Way → Vector
way_of s m (sideways x) = way m x
way_of s m (along k) = lay s (unit k)
way_of s m (against k) = lay s (minus (unit k))

unfoldable pub footing : Vector → AcceptedPick → List Vector
footing s a = map (way_of s a.triangle) (only (belongs (levels_of a.normal)) all_ways)

-- ---- firm to F: the last power, counted upward, such that p + l·u is filled for all ways u and all powers l up to it; 0 if already the first fails
-- a voxel outside the box ends the search as one that isn't filled does, and is not counted
unfoldable pub stands : Look → Vector → Asked Stop Bool
stands Filled v = answered true (v ∷ [])
stands Empty v = answered false (v ∷ [])
stands Outside v = answered false []

module _ (look : Vector → Look) (p : Vector) where
  -- all these ways at the power l, up to the first that doesn't stand
  unfoldable pub all_stand : ℕ → List Vector → Asked Stop Bool
  all_stand l [] = answered true []
  all_stand l (u ∷ us) = do
    f ← stands (look (p ⊕ scale (pos l) u)) (p ⊕ scale (pos l) u)
    elim f [ true ↦ all_stand l us | false ↦ answered false [] ]

  -- the powers upward, F the last at which all stood
  unfoldable pub firm_from : ℕ → List ℕ → List Vector → Asked Stop ℕ
  firm_from F [] us = answered F []
  firm_from F (l ∷ ls) us = do
    f ← all_stand l us
    elim f [ true ↦ firm_from l ls us | false ↦ answered F [] ]

-- ---- the start is p = q - s. A host may hand any apex, so each part is held to 32 bits; where that changes one, p lies outside the box in either case
unfoldable pub held : ℤ → ℤ
held z = elim (lt_z z (negsuc 2147483647)) [ true ↦ negsuc 2147483647 | false ↦ elim (lt_z (pos 2147483647) z) [ true ↦ pos 2147483647 | false ↦ z ] ]

unfoldable pub start_under : Vector → Vector → Vector
start_under q s = vector (held (q.x -ℤ s.x)) (held (q.y -ℤ s.y)) (held (q.z -ℤ s.z))

-- ---- refused with 1, 2 and 3 as a pick; 35; 4 with p, else with the apex; 5 and 6 after a look at p, at the apex
module _ (look : Vector → Look) (frame reach : ℤ) where
  -- of an accepted answer, from the start p: the last power and the bound at it
  module _ (a : AcceptedPick) (p : Vector) where
    abbrev c : Probe
    c = probe_from look a.apex frame reach

    unfoldable pub firm_under : Asked Stop (ℕ × Bound)
    firm_under = do
      ensure (measurable a) (stop 35 origin 0)
      placing c p
      facing c p
      F ← firm_from look p 0 c.powers (footing c.signs a)
      answered (F, bound_at F a) []

  -- a refused pick has none
  abbrev pub firm_on : Pick → Asked Stop (ℕ × Bound)
  firm_on (Accepted a) = firm_under a (start_under a.apex (signs (nat_abs frame)))
  firm_on (Refused r) = refused (stop 35 origin 0) []

-- over any solid: whether it is permitted, and its look
unfoldable pub firm : Bool → (Vector → Look) → ℤ → ℤ → Pick → Asked Stop (ℕ × Bound)
firm permitted look frame reach pick = do
  ensure (between (pos 1) reach (pos 256)) (stop 1 origin 0)
  ensure (between (pos 0) frame (pos 7)) (stop 2 origin 0)
  ensure permitted (stop 3 origin 0)
  firm_on look frame reach pick

-- the answer's two cases
unfoldable pub firm_answer : Asked Stop (ℕ × Bound) → Firm
firm_answer (answered f t) = Stands (record { power = f.0; looks = length t; bound = f.1 })
firm_answer (refused r t) = FirmRefused (refused_answer r (length t))

-- the footing of a pick's answer on a solid with its lent bytes
unfoldable pub firm_of : Solid → List ℕ → Pick → ℤ → ℤ → Firm
firm_of solid bytes pick frame reach = firm_answer (firm (permitted solid bytes) (look solid bytes) frame reach pick)

-- ---- the promise of a footing, and as it is for each solid
pub record FirmPromise (solid : Solid) (bytes : List ℕ) (pick : Pick) (frame reach : ℤ) (r : Firm) : Type 0 where
  pub is : r ≡ firm_of solid bytes pick frame reach

pub record WedgeFirmPromise (wedge : Wedge) (pick : Pick) (frame reach : ℤ) (r : Firm) : Type 0 where
  pub is : r ≡ firm_of (IsWedge wedge) [] pick frame reach

pub record StackFirmPromise (stack : Stack) (bytes : List ℕ) (pick : Pick) (frame reach : ℤ) (r : Firm) : Type 0 where
  pub is : r ≡ firm_of (IsStack stack) bytes pick frame reach
