-- Demand 3 reaches the host: a promise of the panel is the core's pick, flattened, and a flat answer is accepted exactly if its number is 0.
use Rattle.std.specs.Prelude.{◌≡◌, refl, ℤ}
use Rattle.std.proofs.Common.{sym, ap, ◌∙◌, inl, inr, arith}
use Rattle.rules.specs.declared.Vector.{Vector}
use Rattle.rules.specs.declared.Wedge.{Wedge}
use Rattle.rules.specs.declared.Triangle.{Triangle}
use Rattle.rules.specs.declared.Accepted.{Accepted as AcceptedPick}
use Rattle.rules.specs.Answers.{Pick}
use Rattle.std.specs.Prelude.{Ok as Accepted, Err as Refused}
use Rattle.slope.specs.Demands.{Inputs, pick_at, RefusedOutside, OneOf, Same, of_wedge}
use Rattle.slope.proofs.Proved.{demand-3}
use Rattle.slope.proofs.Corollary.{base-demand-3}
use Rattle.flat.specs.declared.FlatPick.{FlatPick}
use Rattle.flat.specs.Flat.{flat_pick}
use Rattle.host.specs.Demands.{FlatDemanded, FlatSame, Called, wedge_called, stack_called, HostDemand, HostDemand3, HostBaseDemand3}

pub called : {i : Inputs} {r : FlatPick} → Called i r → r ≡ flat_pick (pick_at i)
called (wedge_called wedge p frame reach e h) = h.is ∙ ap (λ (i : Inputs). flat_pick (pick_at i)) (sym e)
called (stack_called stack bytes p frame reach e h) = h.is ∙ ap (λ (i : Inputs). flat_pick (pick_at i)) (sym e)

module _ (A : AcceptedPick → Type 0) (i : Inputs) where
  flat : (x : Pick) → OneOf A (RefusedOutside i) x → FlatDemanded A i (flat_pick x)
  flat (Accepted a) h = inl (record { is_accepted = refl; no_place = refl; demanded = h })
  flat (Refused r) h = inr (record { demanded = h; no_normal = refl; no_triangle = (refl, refl, refl); no_apex = refl })

  -- number 0 is no refusal
  pub accepted : (x : Pick) → OneOf A (RefusedOutside i) x → (flat_pick x).number ≡ 0 → (a : AcceptedPick) × (x ≡ Accepted a)
  accepted (Accepted a) h e = (a, refl)
  accepted (Refused r) h e = absurd (omega (arith, h.is_eight, e))

pub same-flat : (a b : AcceptedPick) → Same a b → FlatSame (flat_pick (Accepted a)) (flat_pick (Accepted b))
same-flat a b h = record {
  normals = h.normals;
  triangles = (ap (λ (m : Triangle). m.m0) h.triangles, ap (λ (m : Triangle). m.m1) h.triangles, ap (λ (m : Triangle). m.m2) h.triangles);
  steps = h.steps;
}

-- ---- whatever is assumed and asked, if it is proved of the core's pick
module _ (OnSlope : Vector → ℤ → Inputs → Type 0) (OnWedge : ℤ → Vector → Wedge → Vector → ℤ → ℤ → Type 0) (Together : Inputs → Inputs → Type 0) (AcceptedWith : Vector → Inputs → AcceptedPick → Type 0)
    (one_pick : (n : Vector) (t : ℤ) (i : Inputs) → OnSlope n t i → OneOf (AcceptedWith n i) (RefusedOutside i) (pick_at i))
    (two_picks : (n : Vector) (t u : ℤ) (i j : Inputs) → OnSlope n t i → OnSlope n u j → Together i j → (a b : AcceptedPick) → pick_at i ≡ Accepted a → pick_at j ≡ Accepted b → Same a b)
    (wedge_slope : (g : ℤ) (n : Vector) (wedge : Wedge) (p : Vector) (frame reach : ℤ) → OnWedge g n wedge p frame reach → (t : ℤ) × OnSlope n t (of_wedge wedge p frame reach)) where
  pub one-call : (n : Vector) (t : ℤ) (i : Inputs) → OnSlope n t i → (r : FlatPick) → Called i r → FlatDemanded (AcceptedWith n i) i r
  one-call n t i o r c = rw (called c) (flat (AcceptedWith n i) i (pick_at i) (one_pick n t i o))

  accepted-call : (n : Vector) (t : ℤ) (i : Inputs) → OnSlope n t i → (r : FlatPick) → Called i r → r.number ≡ 0 → (a : AcceptedPick) × (pick_at i ≡ Accepted a)
  accepted-call n t i o r c e = accepted (AcceptedWith n i) i (pick_at i) (one_pick n t i o) (sym (ap (λ (r : FlatPick). r.number) (called c)) ∙ e)

  pub two-calls : (n : Vector) (t u : ℤ) (i j : Inputs) → OnSlope n t i → OnSlope n u j → Together i j → (a b : FlatPick) → Called i a → Called j b → a.number ≡ 0 → b.number ≡ 0 → FlatSame a b
  two-calls n t u i j o p e a b c d f g =
      let x = accepted-call n t i o a c f in
      let y = accepted-call n u j p b d g in
      rw (called c ∙ ap flat_pick x.1, called d ∙ ap flat_pick y.1) (same-flat x.0 y.0 (two_picks n t u i j o p e x.0 y.0 x.1 y.1))

  host : HostDemand OnSlope OnWedge Together AcceptedWith
  host = record {
    wedge_pick = λ g n wedge p frame reach o r h. let w = wedge_slope g n wedge p frame reach o in one-call n w.0 _ w.1 r (wedge_called wedge p frame reach refl h);
    stack_pick = λ n t stack bytes p frame reach o r h. one-call n t _ o r (stack_called stack bytes p frame reach refl h);
    two_picks = two-calls;
    wedge_slope = wedge_slope;
  }

pub host-demand-3 : HostDemand3
host-demand-3 = host _ _ _ _ demand-3.one_pick demand-3.two_picks demand-3.wedge_slope

pub host-base-demand-3 : HostBaseDemand3
host-base-demand-3 = host _ _ _ _ base-demand-3.one_pick (λ n t u i j o p _. base-demand-3.two_picks n t u i j o p) base-demand-3.wedge_slope
