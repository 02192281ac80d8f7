-- The two calls in a row reach the host: a check's number is 0 exactly where it is ready, its ready start comes back from the host as it went, and in a row the two are the pick.
use Rattle.std.specs.Prelude.{◌≡◌, refl, ◌⊎◌, List, ℕ, ◌≤◌, ℤ}
use Rattle.std.proofs.Common.{sym, ◌∙◌, inl, inr, arith}
use Rattle.std.proofs.Math.Path.{ap}
use Rattle.rules.specs.declared.Vector.{Vector}
use Rattle.rules.specs.declared.Wedge.{Wedge}
use Rattle.rules.specs.declared.Solid.{Solid}
use Rattle.rules.specs.declared.ReadyStart.{ReadyStart}
use Rattle.rules.specs.Answers.{Check}
use Rattle.std.specs.Prelude.{Ok as Ready, Err as CheckRefused, Ok as Accepted, Err as Refused}
use Rattle.rules.specs.declared.Accepted.{Accepted as AcceptedPick}
use Rattle.rules.specs.Pick.{pick_of}
use Rattle.rules.specs.TwoCalls.{check_of, walk_of, in_a_row}
use Rattle.laws.proofs.TwoCalls.{check-number, check-no-step, row}
use Rattle.slope.specs.Demands.{Inputs, pick_at, RefusedOutside, OneOf, Same, of_wedge}
use Rattle.slope.proofs.Proved.{demand-3}
use Rattle.slope.proofs.Corollary.{base-demand-3}
use Rattle.slope.specs.Rows.{check_at}
use Rattle.flat.specs.declared.FlatPick.{FlatPick}
use Rattle.flat.specs.declared.FlatReady.{FlatReady}
use Rattle.flat.specs.declared.FlatCheck.{FlatCheck}
use Rattle.flat.specs.Flat.{flat_pick, flat_check, ready_of}
use Rattle.flat.specs.Handed.{ready-back}
use Rattle.host.specs.Demands.{Called, wedge_called, stack_called}
use Rattle.host.proofs.Proved.{called, one-call, two-calls}
use Rattle.host.specs.Rows.{refusal_of, FlatRow, check_refuses, walk_answers, RowCalled, wedge_row, stack_row, CheckCalled, wedge_checked, stack_checked, Lit, NotLit, HostRowDemand, HostTwoCalls}

module _ (solid : Solid) (bytes : List ℕ) (p : Vector) (frame reach : ℤ) where
  -- by what the check found
  pick_is : (x : Check) → check_of solid bytes p frame reach ≡ x → in_a_row solid bytes frame reach x ≡ pick_of solid bytes p frame reach
  pick_is x e = ap (in_a_row solid bytes frame reach) (sym e) ∙ row solid bytes p frame reach

  refused-so : (x : Check) → check_of solid bytes p frame reach ≡ x → (c : FlatCheck) → c ≡ flat_check x → 1 ≤ c.number → refusal_of c ≡ flat_pick (pick_of solid bytes p frame reach)
  unfolding in_a_row
  refused-so (Ready d) e c h n = absurd (omega (arith, n, ap (λ (c : FlatCheck). c.number) h))
  refused-so (CheckRefused r) e c h n = ap refusal_of h ∙ ap (λ steps. flat_pick (Refused record { number = r.number; place = r.place; steps = steps; looks = r.looks })) (sym (check-no-step solid bytes p frame reach r e)) ∙ ap flat_pick (pick_is (CheckRefused r) e)

  walked-so : (x : Check) → check_of solid bytes p frame reach ≡ x → (c : FlatCheck) → c ≡ flat_check x → c.number ≡ 0 → flat_pick (walk_of solid bytes (ready_of c.ready) frame reach) ≡ flat_pick (pick_of solid bytes p frame reach)
  unfolding in_a_row
  walked-so (Ready d) e c h n = ap (λ (c : FlatCheck). flat_pick (walk_of solid bytes (ready_of c.ready) frame reach)) h ∙ ap (λ (d : ReadyStart). flat_pick (walk_of solid bytes d frame reach)) (ready-back d) ∙ ap flat_pick (pick_is (Ready d) e)
  walked-so (CheckRefused r) e c h n = absurd (omega (arith, n, ap (λ (c : FlatCheck). c.number) h, (check-number solid bytes p frame reach r e).0))

  -- whatever the two promise, if each is the core's answer, flattened
  row_is : {Checks : FlatCheck → Type 0} {Walks : FlatReady → FlatPick → Type 0} → ((c : FlatCheck) → Checks c → c ≡ flat_check (check_of solid bytes p frame reach)) → ((d : FlatReady) (r : FlatPick) → Walks d r → r ≡ flat_pick (walk_of solid bytes (ready_of d) frame reach))
      → (r : FlatPick) → FlatRow Checks Walks r → r ≡ flat_pick (pick_of solid bytes p frame reach)
  row_is checks walks r (check_refuses c h n is) = is ∙ refused-so _ refl c (checks c h) n
  row_is checks walks r (walk_answers c h n w) = walks c.ready r w ∙ walked-so _ refl c (checks c h) n

-- so a row is a call of a pick
pub row-called : {i : Inputs} {r : FlatPick} → RowCalled i r → Called i r
row-called {r = r} (wedge_row wedge p frame reach e h) = wedge_called wedge p frame reach e (record { is = row_is _ _ p frame reach (λ c k. k.is) (λ d x k. k.is) r h })
row-called {r = r} (stack_row stack bytes p frame reach e h) = stack_called stack bytes p frame reach e (record { is = row_is _ _ p frame reach (λ c k. k.is) (λ d x k. k.is) r h })

-- ---- every check
check-called : {i : Inputs} {c : FlatCheck} → CheckCalled i c → c ≡ flat_check (check_at i)
check-called (wedge_checked wedge p frame reach e h) = h.is ∙ ap (λ (i : Inputs). flat_check (check_at i)) (sym e)
check-called (stack_checked stack bytes p frame reach e h) = h.is ∙ ap (λ (i : Inputs). flat_check (check_at i)) (sym e)

lit-or-not : (i : Inputs) (c : FlatCheck) → CheckCalled i c → Lit c ⊎ NotLit c
lit-or-not i c h = rw (check-called h) (go (check_at i) refl)
  where
    go : (x : Check) → check_at i ≡ x → Lit (flat_check x) ⊎ NotLit (flat_check x)
    go (Ready d) e = inl (refl, refl, refl)
    go (CheckRefused r) e = let k = check-number i.solid i.bytes i.start i.frame i.reach r e in inr (k.0, k.1, refl)

-- ---- whatever is assumed and asked, if it is proved of the core's pick
module _ (OnSlope : Vector → ℤ → Inputs → Type 0) (OnWedge : ℤ → Vector → Wedge → Vector → ℤ → ℤ → Type 0) (Together : Inputs → Inputs → Type 0) (AcceptedWith : Vector → Inputs → AcceptedPick → Type 0)
    (one_pick : (n : Vector) (t : ℤ) (i : Inputs) → OnSlope n t i → OneOf (AcceptedWith n i) (RefusedOutside i) (pick_at i))
    (two_picks : (n : Vector) (t u : ℤ) (i j : Inputs) → OnSlope n t i → OnSlope n u j → Together i j → (a b : AcceptedPick) → pick_at i ≡ Accepted a → pick_at j ≡ Accepted b → Same a b)
    (wedge_slope : (g : ℤ) (n : Vector) (wedge : Wedge) (p : Vector) (frame reach : ℤ) → OnWedge g n wedge p frame reach → (t : ℤ) × OnSlope n t (of_wedge wedge p frame reach)) where
  rows : HostRowDemand OnSlope OnWedge Together AcceptedWith
  rows = record {
    one_row = λ n t i o r h. one-call _ _ _ _ one_pick two_picks wedge_slope n t i o r (row-called h);
    wedge_row = λ g n wedge p frame reach o r h. let w = wedge_slope g n wedge p frame reach o in one-call _ _ _ _ one_pick two_picks wedge_slope n w.0 _ w.1 r (row-called (wedge_row wedge p frame reach refl h));
    two_rows = λ n t u i j o q e a b h k. two-calls _ _ _ _ one_pick two_picks wedge_slope n t u i j o q e a b (row-called h) (row-called k);
  }

pub host-two-calls : HostTwoCalls
host-two-calls = record {
  checked = lit-or-not;
  wedge_promise = λ wedge p frame reach r h. record { is = called (row-called (wedge_row wedge p frame reach refl h)) };
  stack_promise = λ stack bytes p frame reach r h. record { is = called (row-called (stack_row stack bytes p frame reach refl h)) };
  demand3 = rows _ _ _ _ demand-3.one_pick demand-3.two_picks demand-3.wedge_slope;
  base_demand3 = rows _ _ _ _ base-demand-3.one_pick (λ n t u i j o p _. base-demand-3.two_picks n t u i j o p) base-demand-3.wedge_slope;
}
