-- Known lean and firm footing as a host has them: from the promises of `ulgenzhir_known_lean`, `ulgenzhir_firm_wedge` and `ulgenzhir_firm_stack`, with the flattened answers. Statements only,
-- over the words of `planes/specs/Lean` and `planes/specs/Firm`. They are proved in `LeanProved`.
use Rattle.std.specs.Prelude.{◌≡◌, List, ℕ, ◌+◌, ◌*◌, ◌≤◌, ℤ, pos, nat_abs, length, ◌<ℤ◌}
use Rattle.rules.specs.declared.Vector.{Vector}
use Rattle.rules.specs.declared.Wedge.{Wedge}
use Rattle.rules.specs.declared.Stack.{Stack}
use Rattle.rules.specs.declared.Bound.{Bound}
use Rattle.rules.specs.Vectors.{dot, origin}
use Rattle.rules.specs.Lean.{bound_at}
use Rattle.rules.specs.Walk.{signs}
use Rattle.rules.specs.Firm.{footing, start_under}
use Rattle.laws.specs.Tests.{In}
use Rattle.slope.specs.Demands.{Inputs, signs_of, apex_of, powers_of, OnSlope, of_wedge, of_stack}
use Rattle.planes.specs.Lean.{OnPlane, LeansBelow, last_of}
use Rattle.planes.specs.Firm.{Touches, Room, Plane, ConvexPart, Touched}
use Rattle.flat.specs.declared.FlatPick.{FlatPick}
use Rattle.flat.specs.declared.FlatReady.{FlatReady}
use Rattle.flat.specs.declared.FlatLean.{FlatLean}
use Rattle.flat.specs.declared.FlatFirm.{FlatFirm}
use Rattle.panel.specs.Promises.{WalkedWedge, WalkedStack, KnewLean, FirmedWedge, FirmedStack}
use Rattle.host.specs.Demands.{accepted_of, Called}
use Rattle.host.specs.Rows.{RowCalled}

-- ---- the known lean: number 0, and ν leans below part / whole, less than a right angle
pub record FlatLeans (ν : Vector) (r : FlatPick) (b : FlatLean) : Type 0 where
  pub is_known : b.number ≡ 0
  pub below : LeansBelow (record { part = b.part; whole = b.whole }) ν r.normal
  pub upward : pos 0 <ℤ dot ν r.normal

-- ---- the firm footing of a pick's answer, on the pick's own solid, frame and reach: the promise of a host's call allows f
pub data FirmCalled (i : Inputs) (r : FlatPick) (f : FlatFirm) : Type 0 where
  wedge_firmed : (wedge : Wedge) (p : Vector) (frame reach : ℤ) → i ≡ of_wedge wedge p frame reach → FirmedWedge wedge r frame reach f → FirmCalled i r f
  stack_firmed : (stack : Stack) (bytes : List ℕ) (p : Vector) (frame reach : ℤ) → i ≡ of_stack stack bytes p frame reach → FirmedStack stack bytes r frame reach f → FirmCalled i r f

abbrev pub firm_bound : FlatFirm → Bound
firm_bound f = record { part = f.part; whole = f.whole }

-- of every accepted pick: number 0, at most 56 looks, and any plane that was touched at its power leans below part / whole
pub record FlatStands (i : Inputs) (r : FlatPick) (f : FlatFirm) : Type 0 where
  pub is_firm : f.number ≡ 0
  pub no_place : f.place ≡ origin
  pub few_looks : f.looks ≤ 56
  pub below : (ν : Vector) (t : ℤ) → Touches ν t i.start (apex_of i) f.power (footing (signs_of i) (accepted_of r)) → LeansBelow (firm_bound f) ν r.normal

pub record HostLeans : Type 0 where
  -- on any plane, of a pick in one call or in two
  pub one_pick : (ν : Vector) (t : ℤ) (i : Inputs) → OnPlane ν t i → (r : FlatPick) → Called i r → r.number ≡ 0 → (b : FlatLean) → KnewLean r i.reach b → FlatLeans ν r b
  pub one_row : (ν : Vector) (t : ℤ) (i : Inputs) → OnPlane ν t i → (r : FlatPick) → RowCalled i r → r.number ≡ 0 → (b : FlatLean) → KnewLean r i.reach b → FlatLeans ν r b
  -- on any solid
  pub stands : (i : Inputs) (r : FlatPick) → Called i r → r.number ≡ 0 → (f : FlatFirm) → FirmCalled i r f → FlatStands i r f
  -- of a walk from any ready start, checked or not, where its footing stands
  pub wedge_walk : (wedge : Wedge) (ready : FlatReady) (frame reach : ℤ) (r : FlatPick) → WalkedWedge wedge ready frame reach r → r.number ≡ 0 → (f : FlatFirm) → FirmedWedge wedge r frame reach f → f.number ≡ 0
      → (ν : Vector) (t : ℤ) → Touches ν t (start_under r.apex (signs (nat_abs frame))) r.apex f.power (footing (signs (nat_abs frame)) (accepted_of r)) → LeansBelow (firm_bound f) ν r.normal
  pub stack_walk : (stack : Stack) (bytes : List ℕ) (ready : FlatReady) (frame reach : ℤ) (r : FlatPick) → WalkedStack stack bytes ready frame reach r → r.number ≡ 0 → (f : FlatFirm) → FirmedStack stack bytes r frame reach f → f.number ≡ 0
      → (ν : Vector) (t : ℤ) → Touches ν t (start_under r.apex (signs (nat_abs frame))) r.apex f.power (footing (signs (nat_abs frame)) (accepted_of r)) → LeansBelow (firm_bound f) ν r.normal
  -- on a convex part each plane that the apex is not below leans so, less than a right angle
  pub convex : (planes : List Plane) (i : Inputs) → ConvexPart planes i → (r : FlatPick) → Called i r → r.number ≡ 0 → (f : FlatFirm) → FirmCalled i r f
      → (plane : Plane) → In plane planes → Touched i plane → LeansBelow (firm_bound f) plane.normal r.normal × (pos 0 <ℤ dot plane.normal r.normal)
  -- on a slope of demand 3 a pick with room is firm to its last power
  pub on_slope : (n : Vector) (t : ℤ) (i : Inputs) → OnSlope n t i → (r : FlatPick) → Called i r → r.number ≡ 0 → Room i (accepted_of r) → (f : FlatFirm) → FirmCalled i r f
      → (f.power ≡ last_of i) × (f.looks ≡ 2 + powers_of i * length (footing (signs_of i) (accepted_of r))) × (firm_bound f ≡ bound_at (last_of i) (accepted_of r))
