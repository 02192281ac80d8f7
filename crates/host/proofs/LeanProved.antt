-- The known lean and the firm footing reach the host: a pick that is flattened and handed back is itself, so what the panel tells of it is the core's.
use Rattle.std.specs.Prelude.{◌≡◌, refl, ◌⊎◌, List, ℕ, ◌+◌, ◌*◌, ◌≤◌, ℤ, pos, nat_abs, length, ◌<ℤ◌}
use Rattle.std.proofs.Common.{sym, ap, subst, ◌∙◌, inl, inr, arith}
use Rattle.rules.specs.declared.Vector.{Vector}
use Rattle.rules.specs.declared.Accepted.{Accepted as AcceptedPick}
use Rattle.rules.specs.declared.Footing.{Footing}
use Rattle.rules.specs.declared.Bound.{Bound}
use Rattle.rules.specs.Answers.{Firm, Pick}
use Rattle.std.specs.Prelude.{Ok as Known, Ok as Stands, Err as FirmRefused, Ok as Accepted, Err as Refused}
use Rattle.rules.specs.declared.Solid.{Solid}
use Rattle.rules.specs.declared.ReadyStart.{ReadyStart}
use Rattle.rules.specs.Vectors.{dot}
use Rattle.rules.specs.Lean.{bound_at, lean_of}
use Rattle.rules.specs.Walk.{signs}
use Rattle.rules.specs.TwoCalls.{walk_of}
use Rattle.rules.specs.Firm.{footing, start_under, firm_of}
use Rattle.laws.specs.Tests.{In}
use Rattle.laws.proofs.Theorems.{refused-number}
use Rattle.laws.proofs.TwoCalls.{walk-number}
use Rattle.slope.specs.Demands.{Inputs, signs_of, powers_of, pick_at, OnSlope}
use Rattle.planes.specs.Lean.{OnPlane, LeansBelow, last_of}
use Rattle.planes.proofs.LeanProved.{known-lean}
use Rattle.planes.specs.Firm.{firm_at, Touches, firm_looks, Room, Plane, ConvexPart, Touched}
use Rattle.planes.proofs.FirmProved.{firm-footing}
use Rattle.flat.specs.declared.FlatPick.{FlatPick}
use Rattle.flat.specs.declared.FlatLean.{FlatLean}
use Rattle.flat.specs.declared.FlatFirm.{FlatFirm}
use Rattle.flat.specs.Flat.{flat_pick, handed_pick, ready_of, flat_lean, flat_firm}
use Rattle.flat.specs.Handed.{pick-back}
use Rattle.panel.specs.Promises.{KnewLean}
use Rattle.host.specs.Demands.{accepted_of, Called}
use Rattle.host.proofs.Proved.{called}
use Rattle.host.proofs.RowProved.{row-called}
use Rattle.host.specs.Leans.{FlatLeans, FirmCalled, wedge_firmed, stack_firmed, firm_bound, FlatStands, HostLeans}

-- ---- an accepted answer is the core's, flattened
accepted-is : (i : Inputs) (x : Pick) → pick_at i ≡ x → (flat_pick x).number ≡ 0 → (a : AcceptedPick) × (x ≡ Accepted a)
accepted-is i (Accepted a) e n = (a, refl)
accepted-is i (Refused r) e n = absurd (omega (arith, n, (refused-number i.solid i.bytes i.start i.frame i.reach r e).0))

module _ (i : Inputs) (r : FlatPick) (c : Called i r) (zero : r.number ≡ 0) where
  core : (a : AcceptedPick) × (pick_at i ≡ Accepted a)
  core = accepted-is i (pick_at i) refl (sym (ap (λ (r : FlatPick). r.number) (called c)) ∙ zero)

  flat-is : r ≡ flat_pick (Accepted core.0)
  flat-is = called c ∙ ap flat_pick core.1

  handed-is : handed_pick r ≡ Accepted core.0
  handed-is = ap handed_pick flat-is ∙ pick-back (Accepted core.0) tt

  -- ---- the known lean
  leans : (ν : Vector) (t : ℤ) → OnPlane ν t i → (b : FlatLean) → KnewLean r i.reach b → FlatLeans ν r b
  leans ν t o b h =
      let k = known-lean.one_pick ν t i o core.0 core.1 in
      let is : b ≡ flat_lean (Known (bound_at (last_of i) core.0)) = h.is ∙ ap (λ (x : Pick). flat_lean (lean_of x i.reach)) handed-is ∙ ap flat_lean k.is_known in
      subst (λ (r : FlatPick). FlatLeans ν r b) (sym flat-is) (subst (FlatLeans ν (flat_pick (Accepted core.0))) (sym is) (record { is_known = refl; below = k.below; upward = k.upward }))

  -- ---- the footing
  module _ (f : FlatFirm) (firmed : FirmCalled i r f) where
    firmed-is : f ≡ flat_firm (firm_at i core.0)
    firmed-is = go firmed ∙ ap (λ (x : Pick). flat_firm (firm_of i.solid i.bytes x i.frame i.reach)) handed-is
      where
        go : FirmCalled i r f → f ≡ flat_firm (firm_of i.solid i.bytes (handed_pick r) i.frame i.reach)
        go (wedge_firmed wedge p frame reach e h) = h.is ∙ ap (λ (i : Inputs). flat_firm (firm_of i.solid i.bytes (handed_pick r) i.frame i.reach)) (sym e)
        go (stack_firmed stack bytes p frame reach e h) = h.is ∙ ap (λ (i : Inputs). flat_firm (firm_of i.solid i.bytes (handed_pick r) i.frame i.reach)) (sym e)

    stood : (g : Footing) × (firm_at i core.0 ≡ Stands g)
    stood = firm-footing.stands i core.0 core.1

    abbrev g : Footing
    g = stood.0

    is-flat : f ≡ flat_firm (Stands g)
    is-flat = firmed-is ∙ ap flat_firm stood.1

    standing : FlatStands i r f
    standing = subst (λ (r : FlatPick). FlatStands i r f) (sym flat-is) (subst (FlatStands i (flat_pick (Accepted core.0))) (sym is-flat) (record {
      is_firm = refl;
      no_place = refl;
      few_looks = subst (λ (x : Firm). firm_looks x ≤ 56) stood.1 (firm-footing.few_looks_of_all i.solid i.bytes (Accepted core.0) i.frame i.reach);
      below = λ ν t touches. subst (λ (b : Bound). LeansBelow b ν core.0.normal) (sym (firm-footing.told i.solid i.bytes core.0 i.frame i.reach g stood.1).bound) (firm-footing.one_pick i core.0 core.1 ν t g.power touches).below;
    }))

    abbrev Leaning : Plane → FlatFirm → FlatPick → Type 0
    Leaning plane f r = LeansBelow (firm_bound f) plane.normal r.normal × (pos 0 <ℤ dot plane.normal r.normal)

    on-part : (planes : List Plane) → ConvexPart planes i → (plane : Plane) → In plane planes → Touched i plane → LeansBelow (firm_bound f) plane.normal r.normal × (pos 0 <ℤ dot plane.normal r.normal)
    on-part planes part plane k above =
        subst (Leaning plane f) (sym flat-is) (subst (λ (f : FlatFirm). Leaning plane f (flat_pick (Accepted core.0))) (sym is-flat) ((firm-footing.convex planes i part core.0 core.1 g stood.1).1 plane k above))

    abbrev Full : FlatFirm → FlatPick → Type 0
    Full f r = (f.power ≡ last_of i) × (f.looks ≡ 2 + powers_of i * length (footing (signs_of i) (accepted_of r))) × (firm_bound f ≡ bound_at (last_of i) (accepted_of r))

    on-slope : (n : Vector) (t : ℤ) → OnSlope n t i → Room i (accepted_of r)
        → (f.power ≡ last_of i) × (f.looks ≡ 2 + powers_of i * length (footing (signs_of i) (accepted_of r))) × (firm_bound f ≡ bound_at (last_of i) (accepted_of r))
    on-slope n t o room =
        let x = firm-footing.on_slope n t i o core.0 core.1 (subst (λ (r : FlatPick). Room i (accepted_of r)) flat-is room) in
        subst (Full f) (sym flat-is) (subst (λ (f : FlatFirm). Full f (flat_pick (Accepted core.0))) (sym (firmed-is ∙ ap flat_firm x)) (refl, refl, refl))

-- ---- a walk from any ready start
module _ (solid : Solid) (bytes : List ℕ) (d : ReadyStart) (frame reach : ℤ) where
  walk_is : (x : Pick) → walk_of solid bytes d frame reach ≡ x → (flat_pick x).number ≡ 0 → (a : AcceptedPick) × (x ≡ Accepted a)
  walk_is (Accepted a) e n = (a, refl)
  walk_is (Refused r) e n = absurd (go (walk-number solid bytes d frame reach r e))
    where
      go : ((((1 ≤ r.number) × (r.number ≤ 4)) ⊎ (r.number ≡ 13)) × (r.steps ≡ 0) × (r.looks ≡ 0)) ⊎ ((8 ≤ r.number) × (r.number ≤ 10)) → ⊥
      go (inl (inl k, h, l)) = omega (arith, n, k.0)
      go (inl (inr k, h, l)) = omega (arith, n, k)
      go (inr k) = omega (arith, n, k.0)

  stands-is : (a : AcceptedPick) (x : Firm) → firm_of solid bytes (Accepted a) frame reach ≡ x → (flat_firm x).number ≡ 0 → (g : Footing) × (x ≡ Stands g)
  stands-is a (Stands g) e n = (g, refl)
  stands-is a (FirmRefused r) e n = absurd (go (firm-footing.refusals solid bytes (Accepted a) frame reach r e).0)
    where
      go : ((1 ≤ r.number) × (r.number ≤ 6)) ⊎ (r.number ≡ 35) → ⊥
      go (inl k) = omega (arith, n, k.0)
      go (inr k) = omega (arith, n, k)

  abbrev WalkLeans : FlatPick → FlatFirm → Type 0
  WalkLeans r f = (ν : Vector) (t : ℤ) → Touches ν t (start_under r.apex (signs (nat_abs frame))) r.apex f.power (footing (signs (nat_abs frame)) (accepted_of r)) → LeansBelow (firm_bound f) ν r.normal

  walk-leans : (r : FlatPick) → r ≡ flat_pick (walk_of solid bytes d frame reach) → r.number ≡ 0 → (f : FlatFirm) → f ≡ flat_firm (firm_of solid bytes (handed_pick r) frame reach) → f.number ≡ 0 → WalkLeans r f
  walk-leans r e zero f h firm =
      let w = walk_is (walk_of solid bytes d frame reach) refl (sym (ap (λ (r : FlatPick). r.number) e) ∙ zero) in
      let a = w.0 in
      let flat : r ≡ flat_pick (Accepted a) = e ∙ ap flat_pick w.1 in
      let footed : f ≡ flat_firm (firm_of solid bytes (Accepted a) frame reach) = h ∙ ap (λ (x : Pick). flat_firm (firm_of solid bytes x frame reach)) (ap handed_pick flat ∙ pick-back (Accepted a) tt) in
      let g = stands-is a (firm_of solid bytes (Accepted a) frame reach) refl (sym (ap (λ (f : FlatFirm). f.number) footed) ∙ firm) in
      let is : f ≡ flat_firm (Stands g.0) = footed ∙ ap flat_firm g.1 in
      let here : WalkLeans (flat_pick (Accepted a)) (flat_firm (Stands g.0)) = λ ν t touches.
      subst (λ (b : Bound). LeansBelow b ν a.normal) (sym (firm-footing.told solid bytes a frame reach g.0 g.1).bound) (firm-footing.one_walk solid bytes d frame reach a w.1 g.0 g.1 ν t touches).below in
      subst (λ (r : FlatPick). WalkLeans r f) (sym flat) (subst (WalkLeans (flat_pick (Accepted a))) (sym is) here)

pub host-leans : HostLeans
host-leans = record {
  one_pick = λ ν t i o r c zero b h. leans i r c zero ν t o b h;
  one_row = λ ν t i o r c zero b h. leans i r (row-called c) zero ν t o b h;
  stands = λ i r c zero f h. standing i r c zero f h;
  wedge_walk = λ wedge ready frame reach r w zero f h firm. walk-leans _ _ (ready_of ready) frame reach r w.is zero f h.is firm;
  stack_walk = λ stack bytes ready frame reach r w zero f h firm. walk-leans _ _ (ready_of ready) frame reach r w.is zero f h.is firm;
  convex = λ planes i part r c zero f h plane k above. on-part i r c zero f h planes part plane k above;
  on_slope = λ n t i o r c zero room f h. on-slope i r c zero f h n t o room;
}
