-- What is wanted of quick touches reaches the host: a flat touch is the core's, so is what it tells.
use Rattle.std.specs.Prelude.{◌≡◌, refl, ℤ}
use Rattle.std.proofs.Common.{sym, ap, ◌∙◌, inl, inr, arith}
use Rattle.rules.specs.declared.Vector.{Vector}
use Rattle.rules.specs.declared.Accepted.{Accepted as AcceptedPick}
use Rattle.rules.specs.Answers.{Touch, guess}
use Rattle.std.specs.Prelude.{Ok as Guess, Err as TouchRefused}
use Rattle.laws.proofs.Theorems.{touch-number}
use Rattle.slope.specs.Demands.{Inputs, pick_at, OnSlope, of_wedge}
use Rattle.slope.proofs.Proved.{demand-3}
use Rattle.slope.specs.Touches.{touch_at, OnLevel, TouchedAs}
use Rattle.slope.proofs.TouchProved.{quick-touch}
use Rattle.flat.specs.declared.FlatPick.{FlatPick}
use Rattle.flat.specs.declared.FlatTouch.{FlatTouch}
use Rattle.flat.specs.Flat.{flat_pick, flat_touch}
use Rattle.host.specs.Demands.{FlatSame, Called}
use Rattle.host.proofs.Proved.{called, accepted, same-flat}
use Rattle.host.specs.Touches.{without_guess, FlatTouched, Marked, TouchCalled, wedge_touched, stack_touched, HostQuickTouch}

touch-called : {i : Inputs} {r : FlatTouch} → TouchCalled i r → r ≡ flat_touch (touch_at i)
touch-called (wedge_touched wedge p frame reach e h) = h.is ∙ ap (λ (i : Inputs). flat_touch (touch_at i)) (sym e)
touch-called (stack_touched stack bytes p frame reach e h) = h.is ∙ ap (λ (i : Inputs). flat_touch (touch_at i)) (sym e)

flat : (n : Vector) (i : Inputs) (x : Touch) → TouchedAs n i x → FlatTouched n i (flat_touch x)
flat n i (Guess a) h = inl (record { is_accepted = refl; is_guess = refl; no_place = refl; wanted = h })
flat n i (TouchRefused r) h = inr (record { wanted = h; no_guess = refl; no_normal = refl; no_triangle = (refl, refl, refl); no_apex = refl })

-- number 0 is no refusal
guessed : (n : Vector) (i : Inputs) (x : Touch) → TouchedAs n i x → (flat_touch x).number ≡ 0 → (a : AcceptedPick) × (x ≡ guess a)
guessed n i (Guess g) h e = (g.answer, refl)
guessed n i (TouchRefused r) (inl h) e = absurd (omega (arith, h.is_eight, e))
guessed n i (TouchRefused r) (inr h) e = absurd (omega (arith, h.is_eleven, e))

one-call : (n : Vector) (t : ℤ) (i : Inputs) → OnLevel n t i → (r : FlatTouch) → TouchCalled i r → FlatTouched n i r
one-call n t i o r c = rw (touch-called c) (flat n i (touch_at i) (quick-touch.one_touch n t i o))

guess-call : (n : Vector) (t : ℤ) (i : Inputs) → OnLevel n t i → (r : FlatTouch) → TouchCalled i r → r.number ≡ 0 → (a : AcceptedPick) × (touch_at i ≡ guess a)
guess-call n t i o r c e = guessed n i (touch_at i) (quick-touch.one_touch n t i o) (sym (ap (λ (r : FlatTouch). r.number) (touch-called c)) ∙ e)

as-long-walk : (n : Vector) (t u : ℤ) (i j : Inputs) → OnLevel n t i → OnSlope n u j
    → (a : FlatTouch) (b : FlatPick) → TouchCalled i a → Called j b → a.number ≡ 0 → b.number ≡ 0 → FlatSame (without_guess a) b
as-long-walk n t u i j o p a b c d f g =
    let x = guess-call n t i o a c f in
    let y = accepted _ j (pick_at j) (demand-3.one_pick n u j p) (sym (ap (λ (r : FlatPick). r.number) (called d)) ∙ g) in
    rw (touch-called c ∙ ap flat_touch x.1, called d ∙ ap flat_pick y.1) (same-flat x.0 y.0 (quick-touch.as_long_walk n t u i j o p x.0 y.0 x.1 y.1))

two-touches : (n : Vector) (t u : ℤ) (i j : Inputs) → OnLevel n t i → OnLevel n u j
    → (a b : FlatTouch) → TouchCalled i a → TouchCalled j b → a.number ≡ 0 → b.number ≡ 0 → FlatSame (without_guess a) (without_guess b)
two-touches n t u i j o p a b c d f g =
    let x = guess-call n t i o a c f in
    let y = guess-call n u j p b d g in
    rw (touch-called c ∙ ap flat_touch x.1, touch-called d ∙ ap flat_touch y.1) (same-flat x.0 y.0 (quick-touch.two_touches n t u i j o p x.0 y.0 x.1 y.1))

marked-call : (i : Inputs) (r : FlatTouch) → TouchCalled i r → Marked r
marked-call i r c = rw (touch-called c) (go (touch_at i) refl)
  where
    go : (x : Touch) → touch_at i ≡ x → Marked (flat_touch x)
    go (Guess a) e = inl (refl, refl)
    go (TouchRefused r) e = inr ((touch-number i.solid i.bytes i.start i.frame i.reach r e).0, refl)

pub host-quick-touch : HostQuickTouch
host-quick-touch = record {
  marked = marked-call;
  wedge_touch = λ g n wedge p frame reach o r h. rw h.is (flat n _ (touch_at (of_wedge wedge p frame reach)) (quick-touch.wedge_touch g n wedge p frame reach o (touch_at (of_wedge wedge p frame reach)) (record { is = refl })));
  stack_touch = λ n t stack bytes p frame reach o r h. one-call n t _ o r (stack_touched stack bytes p frame reach refl h);
  as_long_walk = as-long-walk;
  two_touches = two-touches;
}
