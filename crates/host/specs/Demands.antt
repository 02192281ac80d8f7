-- Demand 3 as a host has it: from the promises of `ulgenzhir_pick_wedge` and `ulgenzhir_pick_stack`, with the flattened answer. Statements only, over the words of
-- `slope/specs/Demands` (document 02's reading) and `slope/specs/Base` (document 01's). They are proved in `Proved`.
use Rattle.std.specs.Prelude.{◌≡◌, ◌⊎◌, List, ℕ, ℤ}
use Rattle.rules.specs.declared.Vector.{Vector}
use Rattle.rules.specs.declared.Wedge.{Wedge}
use Rattle.rules.specs.declared.Stack.{Stack}
use Rattle.rules.specs.declared.Accepted.{Accepted as AcceptedPick}
use Rattle.rules.specs.declared.Refused.{Refused as RefusedPick}
use Rattle.rules.specs.Vectors.{origin}
use Rattle.rules.specs.Walk.{triangle}
use Rattle.slope.specs.Demands.{Inputs, RefusedOutside, of_wedge, of_stack}
use Rattle.slope.specs.Demands as Demands
use Rattle.slope.specs.Base as Base
use Rattle.flat.specs.declared.FlatPick.{FlatPick}
use Rattle.panel.specs.Promises.{PickedWedge, PickedStack}

-- a flat answer's parts, as the core names them
abbrev pub accepted_of : FlatPick → AcceptedPick
accepted_of r = record { normal = r.normal; triangle = triangle r.m0 r.m1 r.m2; apex = r.apex; steps = r.steps; looks = r.looks }

abbrev pub refused_of : FlatPick → RefusedPick
refused_of r = record { number = r.number; place = r.place; steps = r.steps; looks = r.looks }

-- number 0, and what is asked of an accepted pick; or number 8, and what is asked of a refused one, with no normal, triangle or apex
pub record FlatAccepted (AcceptedWith : AcceptedPick → Type 0) (r : FlatPick) : Type 0 where
  pub is_accepted : r.number ≡ 0
  pub no_place : r.place ≡ origin
  pub demanded : AcceptedWith (accepted_of r)

pub record FlatRefused (i : Inputs) (r : FlatPick) : Type 0 where
  pub demanded : RefusedOutside i (refused_of r)
  pub no_normal : r.normal ≡ origin
  pub no_triangle : (r.m0 ≡ origin) × (r.m1 ≡ origin) × (r.m2 ≡ origin)
  pub no_apex : r.apex ≡ origin

abbrev pub FlatDemanded : (AcceptedPick → Type 0) → Inputs → FlatPick → Type 0
FlatDemanded AcceptedWith i r = FlatAccepted AcceptedWith r ⊎ FlatRefused i r

-- two accepted picks
pub record FlatSame (a b : FlatPick) : Type 0 where
  pub normals : a.normal ≡ b.normal
  pub triangles : (a.m0 ≡ b.m0) × (a.m1 ≡ b.m1) × (a.m2 ≡ b.m2)
  pub steps : a.steps ≡ b.steps

-- the promise of a host's call with these inputs allows r
pub data Called (i : Inputs) (r : FlatPick) : Type 0 where
  wedge_called : (wedge : Wedge) (p : Vector) (frame reach : ℤ) → i ≡ of_wedge wedge p frame reach → PickedWedge wedge p frame reach r → Called i r
  stack_called : (stack : Stack) (bytes : List ℕ) (p : Vector) (frame reach : ℤ) → i ≡ of_stack stack bytes p frame reach → PickedStack stack bytes p frame reach r → Called i r

-- the demand, over what is assumed of one pick, of a wedge and of two picks, and what is asked of an accepted one
pub record HostDemand (OnSlope : Vector → ℤ → Inputs → Type 0) (OnWedge : ℤ → Vector → Wedge → Vector → ℤ → ℤ → Type 0) (Together : Inputs → Inputs → Type 0)
    (AcceptedWith : Vector → Inputs → AcceptedPick → Type 0) : Type 0 where
  pub wedge_pick : (g : ℤ) (n : Vector) (wedge : Wedge) (p : Vector) (frame reach : ℤ) → OnWedge g n wedge p frame reach
      → (r : FlatPick) → PickedWedge wedge p frame reach r → FlatDemanded (AcceptedWith n (of_wedge wedge p frame reach)) (of_wedge wedge p frame reach) r
  pub stack_pick : (n : Vector) (t : ℤ) (stack : Stack) (bytes : List ℕ) (p : Vector) (frame reach : ℤ) → OnSlope n t (of_stack stack bytes p frame reach)
      → (r : FlatPick) → PickedStack stack bytes p frame reach r → FlatDemanded (AcceptedWith n (of_stack stack bytes p frame reach)) (of_stack stack bytes p frame reach) r
  -- any two calls, of wedges or of stacks, that were accepted
  pub two_picks : (n : Vector) (t u : ℤ) (i j : Inputs) → OnSlope n t i → OnSlope n u j → Together i j → (a b : FlatPick) → Called i a → Called j b → a.number ≡ 0 → b.number ≡ 0 → FlatSame a b
  -- a test wedge is a slope, common divisor or not, so two picks of wedges are two calls on slopes
  pub wedge_slope : (g : ℤ) (n : Vector) (wedge : Wedge) (p : Vector) (frame reach : ℤ) → OnWedge g n wedge p frame reach → (t : ℤ) × OnSlope n t (of_wedge wedge p frame reach)

-- as document 02 reads it: two picks are compared in one frame
abbrev pub HostDemand3 : Type 0
HostDemand3 = HostDemand Demands.OnSlope Demands.OnWedge (λ i j. i.frame ≡ j.frame) Demands.AcceptedWith

-- as document 01 words it, for normals with three non-zero components
abbrev pub HostBaseDemand3 : Type 0
HostBaseDemand3 = HostDemand Base.OnSlope Base.OnWedge (λ i j. Unit {0}) Base.AcceptedWith
