-- Demand 3 for the two calls in a row: what they answer keeps the promise of a pick, since in a row they are the pick; so all that was proved of picks is read for them.
use Rattle.std.specs.Prelude.{◌≡◌, refl, List, ℕ, ℤ}
use Rattle.std.proofs.Common.{sym, ap, ◌∙◌}
use Rattle.rules.specs.declared.Vector.{Vector}
use Rattle.rules.specs.declared.Wedge.{Wedge}
use Rattle.rules.specs.declared.Solid.{Solid}
use Rattle.rules.specs.declared.ReadyStart.{ReadyStart}
use Rattle.rules.specs.Answers.{Check, Pick}
use Rattle.std.specs.Prelude.{Ok as Accepted}
use Rattle.rules.specs.declared.Accepted.{Accepted as AcceptedPick}
use Rattle.rules.specs.Pick.{pick_of}
use Rattle.rules.specs.TwoCalls.{check_of, walk_of, in_a_row}
use Rattle.laws.proofs.TwoCalls.{row}
use Rattle.slope.specs.Demands.{Inputs, pick_at, RefusedOutside, OneOf, Same, of_wedge}
use Rattle.slope.proofs.Proved.{demand-3}
use Rattle.slope.proofs.Corollary.{base-demand-3}
use Rattle.slope.specs.Rows.{InARow, check_refuses, walk_answers, RowOf, wedge_row, stack_row, RowDemand, TwoCalls}

-- whatever the two promise, if each is the definition's answer
row_is : (solid : Solid) (bytes : List ℕ) (p : Vector) (frame reach : ℤ) {Checks : Check → Type 0} {Walks : ReadyStart → Pick → Type 0} → ((c : Check) → Checks c → c ≡ check_of solid bytes p frame reach) → ((d : ReadyStart) (r : Pick) → Walks d r → r ≡ walk_of solid bytes d frame reach)
    → (r : Pick) → InARow Checks Walks r → r ≡ pick_of solid bytes p frame reach
unfolding in_a_row
row_is solid bytes p frame reach checks walks r (check_refuses e h is) = is ∙ ap (in_a_row solid bytes frame reach) (checks _ h) ∙ row solid bytes p frame reach
row_is solid bytes p frame reach checks walks r (walk_answers d h w) = walks d r w ∙ ap (in_a_row solid bytes frame reach) (checks _ h) ∙ row solid bytes p frame reach

pub row_of : {i : Inputs} {r : Pick} → RowOf i r → r ≡ pick_at i
row_of {r = r} (wedge_row wedge p frame reach e h) = row_is _ _ p frame reach (λ c k. k.is) (λ d x k. k.is) r h ∙ ap pick_at (sym e)
row_of {r = r} (stack_row stack bytes p frame reach e h) = row_is _ _ p frame reach (λ c k. k.is) (λ d x k. k.is) r h ∙ ap pick_at (sym e)

-- whatever is assumed and asked, if it is proved of the pick
module _ (OnSlope : Vector → ℤ → Inputs → Type 0) (OnWedge : ℤ → Vector → Wedge → Vector → ℤ → ℤ → Type 0) (Together : Inputs → Inputs → Type 0) (AcceptedWith : Vector → Inputs → AcceptedPick → Type 0)
    (one_pick : (n : Vector) (t : ℤ) (i : Inputs) → OnSlope n t i → OneOf (AcceptedWith n i) (RefusedOutside i) (pick_at i))
    (two_picks : (n : Vector) (t u : ℤ) (i j : Inputs) → OnSlope n t i → OnSlope n u j → Together i j → (a b : AcceptedPick) → pick_at i ≡ Accepted a → pick_at j ≡ Accepted b → Same a b)
    (wedge_slope : (g : ℤ) (n : Vector) (wedge : Wedge) (p : Vector) (frame reach : ℤ) → OnWedge g n wedge p frame reach → (t : ℤ) × OnSlope n t (of_wedge wedge p frame reach)) where
  rows : RowDemand OnSlope OnWedge Together AcceptedWith
  rows = record {
    one_row = λ n t i o r h. rw (row_of h) (one_pick n t i o);
    wedge_row = λ g n wedge p frame reach o r h. let w = wedge_slope g n wedge p frame reach o in rw (row_of (wedge_row wedge p frame reach refl h)) (one_pick n w.0 _ w.1);
    two_rows = λ n t u i j o q e a b h k. two_picks n t u i j o q e a b (sym (row_of h)) (sym (row_of k));
  }

pub two-calls : TwoCalls
two-calls = record {
  wedge_promise = λ wedge p frame reach r h. record { is = row_of (wedge_row wedge p frame reach refl h) };
  stack_promise = λ stack bytes p frame reach r h. record { is = row_of (stack_row stack bytes p frame reach refl h) };
  demand3 = rows _ _ _ _ demand-3.one_pick demand-3.two_picks demand-3.wedge_slope;
  base_demand3 = rows _ _ _ _ base-demand-3.one_pick (λ n t u i j o p _. base-demand-3.two_picks n t u i j o p) base-demand-3.wedge_slope;
}
