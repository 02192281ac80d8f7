-- Firm footing: on any solid, how far the plane of the touched face can lean from an accepted normal whose ways stay filled from the start as well, whatever stands beyond the face's edge.
-- Statements only. They are proved: `firm-footing : FirmFooting` in `FirmProved`, `firm-not-empty : FirmNotEmpty` in `FirmCases`.
use Rattle.std.specs.Prelude.{◌≡◌, ◌⊎◌, Bool, true, ◌&&◌, List, [], ◌∷◌, ◌++◌, ℕ, ◌+◌, ◌*◌, ◌<◌, ◌≤◌, T, ℤ, pos, negsuc, nat_abs, length, ◌≤ℤ◌, ◌<ℤ◌}
use Rattle.std.specs.Int.Signed.{lt_z}
use Rattle.rules.specs.declared.Vector.{Vector}
use Rattle.rules.specs.declared.Solid.{Solid}
use Rattle.rules.specs.declared.Look.TheVariants.{Filled, Empty}
use Rattle.rules.specs.declared.ReadyStart.{ReadyStart}
use Rattle.rules.specs.declared.Accepted.{Accepted as AcceptedPick}
use Rattle.rules.specs.declared.Refused.{Refused as RefusedPick}
use Rattle.rules.specs.Answers.{Pick, Firm}
use Rattle.std.specs.Prelude.{Ok as Accepted, Ok as Stands, Err as FirmRefused}
use Rattle.rules.specs.declared.Footing.{Footing}
use Rattle.rules.specs.Vectors.{vector, ◌⊕◌, scale, dot, cross, size}
use Rattle.rules.specs.Solids.{box, in_box, filled, look}
use Rattle.rules.specs.Walk.{signs, powers}
use Rattle.rules.specs.TwoCalls.{walk_of}
use Rattle.rules.specs.Lean.{squared, last, bound_at}
use Rattle.rules.specs.Firm.{footing, start_under, firm_of}
use Rattle.laws.specs.Tests.{Each, In}
use Rattle.slope.specs.Demands.{Inputs, signs_of, apex_of, powers_of, pick_at, OnSlope, at, line}
use Rattle.planes.specs.Lean.{LeansBelow, last_of, spread_of}

abbrev pub firm_at : Inputs → AcceptedPick → Firm
firm_at i a = firm_of i.solid i.bytes (Accepted a) i.frame i.reach

-- ---- what is assumed of the touched face: a plane that the start and the voxels at F times each way from it are below, and the apex is not. Nothing is said of the rest of the solid
pub record Touches (ν : Vector) (t : ℤ) (p q : Vector) (F : ℕ) (ways : List Vector) : Type 0 where
  pub start_below : dot ν p <ℤ t
  pub ways_below : Each (λ u. dot ν (p ⊕ scale (pos F) u) <ℤ t) ways
  pub apex_above : t ≤ℤ dot ν q

-- ---- what holds of it: ν leans below the bound at F; and with F at least 2 and the sum of the normal's sizes, less than a right angle
pub record LeansFirmly (ν : Vector) (F : ℕ) (a : AcceptedPick) : Type 0 where
  pub below : LeansBelow (bound_at F a) ν a.normal
  pub lean : F * F * squared (cross ν a.normal) < 3 * spread_of a * squared ν
  pub upward : 2 ≤ F → size a.normal ≤ F → pos 0 <ℤ dot ν a.normal

-- ---- what a footing tells, of any record: the start lies under the apex and is filled, the apex empty, and from the start each way is filled at every power up to the last of those that were done;
-- at the first that is left, if one is, some way is not
pub record Stood (solid : Solid) (bytes : List ℕ) (a : AcceptedPick) (frame reach : ℤ) (f : Footing) : Type 0 where
  pub under_apex : start_under a.apex (signs (nat_abs frame)) ⊕ signs (nat_abs frame) ≡ a.apex
  pub start_filled : look solid bytes (start_under a.apex (signs (nat_abs frame))) ≡ Filled
  pub apex_empty : look solid bytes a.apex ≡ Empty
  pub done : List ℕ
  pub left : List ℕ
  pub split : powers (nat_abs reach) ≡ done ++ left
  pub filled_there : Each (λ l. Each (λ u. look solid bytes (start_under a.apex (signs (nat_abs frame)) ⊕ scale (pos l) u) ≡ Filled) (footing (signs (nat_abs frame)) a)) done
  pub stops : (l : ℕ) (ls : List ℕ) → left ≡ l ∷ ls → Each (λ u. look solid bytes (start_under a.apex (signs (nat_abs frame)) ⊕ scale (pos l) u) ≡ Filled) (footing (signs (nat_abs frame)) a) → ⊥
  pub power : f.power ≡ last done
  pub bound : f.bound ≡ bound_at f.power a

-- the voxels at the last power lie in the box
pub record Room (i : Inputs) (a : AcceptedPick) : Type 0 where
  pub inside : Each (λ u. T (in_box (box i.solid) (i.start ⊕ scale (pos (last_of i)) u))) (footing (signs_of i) a)

-- ---- a convex part: filled exactly below all of these planes
pub record Plane : Type 0 where
  pub normal : Vector
  pub offset : ℤ

unfoldable pub below_all : List Plane → Vector → Bool
below_all [] v = true
below_all (plane ∷ planes) v = lt_z (dot plane.normal v) plane.offset && below_all planes v

pub record ConvexPart (planes : List Plane) (i : Inputs) : Type 0 where
  pub filled_below : (v : Vector) → T (in_box (box i.solid) v) → filled i.solid i.bytes v ≡ below_all planes v

-- the planes that the apex is not below: the faces that were touched
abbrev pub Touched : Inputs → Plane → Type 0
Touched i plane = plane.offset ≤ℤ dot plane.normal (apex_of i)

-- ---- the looks of an answer
abbrev pub firm_looks : Firm → ℕ
firm_looks (Stands f) = f.looks
firm_looks (FirmRefused r) = r.looks

pub record FirmFooting : Type 0 where
  -- any plane of which that is assumed, at any power: on any solid
  pub one_pick : (i : Inputs) (a : AcceptedPick) → pick_at i ≡ Accepted a → (ν : Vector) (t : ℤ) (F : ℕ) → Touches ν t i.start (apex_of i) F (footing (signs_of i) a) → LeansFirmly ν F a
  -- so also of a walk from any ready start, checked or not: the footing looks for itself, from the start under the apex
  pub one_walk : (solid : Solid) (bytes : List ℕ) (d : ReadyStart) (frame reach : ℤ) (a : AcceptedPick) → walk_of solid bytes d frame reach ≡ Accepted a → (f : Footing) → firm_of solid bytes (Accepted a) frame reach ≡ Stands f
      → (ν : Vector) (t : ℤ) → Touches ν t (start_under a.apex (signs (nat_abs frame))) a.apex f.power (footing (signs (nat_abs frame)) a) → LeansFirmly ν f.power a
  -- what an answer tells, of every record; of an accepted pick its start is the pick's
  pub told : (solid : Solid) (bytes : List ℕ) (a : AcceptedPick) (frame reach : ℤ) (f : Footing) → firm_of solid bytes (Accepted a) frame reach ≡ Stands f → Stood solid bytes a frame reach f
  pub same_start : (i : Inputs) (a : AcceptedPick) → pick_at i ≡ Accepted a → start_under a.apex (signs_of i) ≡ i.start
  -- an accepted pick has a footing: it is never refused one on its own solid
  pub stands : (i : Inputs) (a : AcceptedPick) → pick_at i ≡ Accepted a → (f : Footing) × (firm_at i a ≡ Stands f)
  -- so on every convex part some plane was touched, and each that was leans below the bound of the footing, less than a right angle
  pub convex : (planes : List Plane) (i : Inputs) → ConvexPart planes i → (a : AcceptedPick) → pick_at i ≡ Accepted a → (f : Footing) → firm_at i a ≡ Stands f
      → ((plane : Plane) × In plane planes × Touched i plane)
      × ((plane : Plane) → In plane planes → Touched i plane → LeansBelow f.bound plane.normal a.normal × (pos 0 <ℤ dot plane.normal a.normal))
  -- on a slope of demand 3 a pick with room is firm to its last power
  pub on_slope : (n : Vector) (t : ℤ) (i : Inputs) → OnSlope n t i → (a : AcceptedPick) → pick_at i ≡ Accepted a → Room i a
      → firm_at i a ≡ Stands (record { power = last_of i; looks = 2 + powers_of i * length (footing (signs_of i) a); bound = bound_at (last_of i) a })
  -- at most 2 + 6K looks, so at most 56, refused or not
  pub few_looks : (solid : Solid) (bytes : List ℕ) (pick : Pick) (frame reach : ℤ) → firm_looks (firm_of solid bytes pick frame reach) ≤ 2 + 6 * length (powers (nat_abs reach))
  pub few_looks_of_all : (solid : Solid) (bytes : List ℕ) (pick : Pick) (frame reach : ℤ) → firm_looks (firm_of solid bytes pick frame reach) ≤ 56
  -- refused with 1 to 6 or 35, with no step
  pub refusals : (solid : Solid) (bytes : List ℕ) (pick : Pick) (frame reach : ℤ) (r : RefusedPick) → firm_of solid bytes pick frame reach ≡ FirmRefused r
      → (((1 ≤ r.number) × (r.number ≤ 6)) ⊎ (r.number ≡ 35)) × (r.steps ≡ 0)

-- ---- not empty: W1 and W6 are firm to their last power, and there is room for it; by a wall a pick is firm to 2 of 4; a plane reaches eight tenths of the bound;
-- and one that is touched at power 1 alone, with two level axes, leans by more than a right angle, so 2 is needed
pub record FirmOn (i : Inputs) (power looks : ℕ) : Type 0 where
  pub answer : AcceptedPick
  pub is : pick_at i ≡ Accepted answer
  pub footed : Footing
  pub firmly : firm_at i answer ≡ Stands footed
  pub power_is : footed.power ≡ power
  pub looks_are : footed.looks ≡ looks

pub record TouchedSo (ν : Vector) (t : ℤ) (i : Inputs) (F : ℕ) (n : Vector) : Type 0 where
  pub answer : AcceptedPick
  pub is : pick_at i ≡ Accepted answer
  pub is_normal : answer.normal ≡ n
  pub touches : Touches ν t i.start (apex_of i) F (footing (signs_of i) answer)

pub record FirmNotEmpty : Type 0 where
  pub W1 : FirmOn (line (pos 1) (pos 2) (pos 5) (pos 808) (at 100) (pos 0) (pos 8)) 8 26
  pub W1Slope : OnSlope (vector (pos 1) (pos 2) (pos 5)) (pos 808) (line (pos 1) (pos 2) (pos 5) (pos 808) (at 100) (pos 0) (pos 8))
  pub W1Room : Room (line (pos 1) (pos 2) (pos 5) (pos 808) (at 100) (pos 0) (pos 8)) W1.answer
  pub W6 : FirmOn (line (pos 0) (pos 1) (pos 1) (pos 202) (at 100) (pos 0) (pos 8)) 8 18
  pub by_the_wall : FirmOn (line (pos 1) (pos 1) (pos 1) (pos 104) (vector (pos 3) (pos 50) (pos 50)) (pos 0) (pos 3)) 2 14
  pub sharp : TouchedSo (vector (pos 12) (pos 12) (pos 5)) (pos 2929) (line (pos 1) (pos 1) (pos 1) (pos 301) (at 100) (pos 0) (pos 3)) 4 (at 1)
  pub is_sharp : 8 * ((bound_at 4 sharp.answer).part * (squared (vector (pos 12) (pos 12) (pos 5)) * squared (at 1))) ≤ 10 * ((bound_at 4 sharp.answer).whole * squared (cross (vector (pos 12) (pos 12) (pos 5)) (at 1)))
  pub two_needed : TouchedSo (vector (pos 5) (pos 5) (negsuc 0)) (pos 906) (line (pos 0) (pos 0) (pos 1) (pos 101) (at 100) (pos 0) (pos 1)) 1 (vector (pos 0) (pos 0) (pos 1))
  pub is_turned_away : dot (vector (pos 5) (pos 5) (negsuc 0)) (vector (pos 0) (pos 0) (pos 1)) <ℤ pos 0
