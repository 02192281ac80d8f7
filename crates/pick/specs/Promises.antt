-- The promises of any solid settle the answer: two answers that one allows are equal. So do those of a wedge and of a stack, which they are. A stack's answer depends on the voxels of its box alone.
use Rattle.std.specs.Prelude.{◌≡◌, List, [], ℕ, ℤ, nat_abs}
use Rattle.std.proofs.Math.Path.{sym}
use Rattle.std.proofs.Common.{◌∙◌}
use Rattle.rules.specs.declared.Vector.{Vector}
use Rattle.rules.specs.declared.Wedge.{Wedge}
use Rattle.rules.specs.declared.Stack.{Stack}
use Rattle.rules.specs.declared.Solid.{Solid}
use Rattle.rules.specs.declared.Solid.TheVariants.{Wedge as IsWedge, Stack as IsStack}
use Rattle.rules.specs.declared.ReadyStart.{ReadyStart}
use Rattle.rules.specs.Answers.{Check, Pick, Touch}
use Rattle.rules.specs.Vectors.{◌⊕◌}
use Rattle.rules.specs.Walk.{signs}
use Rattle.rules.specs.Pick.{check, pick, answer, pick_of, PickPromise, WedgePromise, StackPromise}
use Rattle.rules.specs.Touch.{touch, marked, touch_of, TouchPromise, WedgeTouchPromise, StackTouchPromise}
use Rattle.rules.specs.TwoCalls.{check_answer, check_of, readiness, walk_on, walk_answer, walk_of, CheckPromise, WalkPromise, WedgeCheckPromise, StackCheckPromise, WedgeWalkPromise, StackWalkPromise}
use Rattle.stack.specs.Alike.{Alike, alike}

-- ---- of any solid
module _ {s : Solid} {bytes : List ℕ} {frame reach : ℤ} where
  pub pick-settled : {p : Vector} {r t : Pick} → PickPromise s bytes p frame reach r → PickPromise s bytes p frame reach t → r ≡ t
  pick-settled h k = h.is ∙ sym k.is

  pub touch-settled : {p : Vector} {r t : Touch} → TouchPromise s bytes p frame reach r → TouchPromise s bytes p frame reach t → r ≡ t
  touch-settled h k = h.is ∙ sym k.is

  pub check-settled : {p : Vector} {r t : Check} → CheckPromise s bytes p frame reach r → CheckPromise s bytes p frame reach t → r ≡ t
  check-settled h k = h.is ∙ sym k.is

  pub walk-settled : {d : ReadyStart} {r t : Pick} → WalkPromise s bytes d frame reach r → WalkPromise s bytes d frame reach t → r ≡ t
  walk-settled h k = h.is ∙ sym k.is

-- ---- of wedges: each is that of any solid
module _ {w : Wedge} {frame reach : ℤ} where
  pub wedge-picked : {p : Vector} {r : Pick} → PickPromise (IsWedge w) [] p frame reach r → WedgePromise w p frame reach r
  wedge-picked h = record { is = h.is }

  pub wedge-touched : {p : Vector} {r : Touch} → TouchPromise (IsWedge w) [] p frame reach r → WedgeTouchPromise w p frame reach r
  wedge-touched h = record { is = h.is }

  pub wedge-checked : {p : Vector} {r : Check} → CheckPromise (IsWedge w) [] p frame reach r → WedgeCheckPromise w p frame reach r
  wedge-checked h = record { is = h.is }

  pub wedge-walked : {d : ReadyStart} {r : Pick} → WalkPromise (IsWedge w) [] d frame reach r → WedgeWalkPromise w d frame reach r
  wedge-walked h = record { is = h.is }

  pub wedge-settled : {p : Vector} {r t : Pick} → WedgePromise w p frame reach r → WedgePromise w p frame reach t → r ≡ t
  wedge-settled h k = h.is ∙ sym k.is

  pub wedge-touch-settled : {p : Vector} {r t : Touch} → WedgeTouchPromise w p frame reach r → WedgeTouchPromise w p frame reach t → r ≡ t
  wedge-touch-settled h k = h.is ∙ sym k.is

  pub wedge-check-settled : {p : Vector} {r t : Check} → WedgeCheckPromise w p frame reach r → WedgeCheckPromise w p frame reach t → r ≡ t
  wedge-check-settled h k = h.is ∙ sym k.is

  pub wedge-walk-settled : {d : ReadyStart} {r t : Pick} → WedgeWalkPromise w d frame reach r → WedgeWalkPromise w d frame reach t → r ≡ t
  wedge-walk-settled h k = h.is ∙ sym k.is

-- ---- of stacks
module _ {k : Stack} {bytes : List ℕ} {frame reach : ℤ} where
  pub stack-picked : {p : Vector} {r : Pick} → PickPromise (IsStack k) bytes p frame reach r → StackPromise k bytes p frame reach r
  stack-picked h = record { is = h.is }

  pub stack-touched : {p : Vector} {r : Touch} → TouchPromise (IsStack k) bytes p frame reach r → StackTouchPromise k bytes p frame reach r
  stack-touched h = record { is = h.is }

  pub stack-checked : {p : Vector} {r : Check} → CheckPromise (IsStack k) bytes p frame reach r → StackCheckPromise k bytes p frame reach r
  stack-checked h = record { is = h.is }

  pub stack-walked : {d : ReadyStart} {r : Pick} → WalkPromise (IsStack k) bytes d frame reach r → StackWalkPromise k bytes d frame reach r
  stack-walked h = record { is = h.is }

  pub stack-settled : {p : Vector} {r t : Pick} → StackPromise k bytes p frame reach r → StackPromise k bytes p frame reach t → r ≡ t
  stack-settled h k = h.is ∙ sym k.is

  pub stack-touch-settled : {p : Vector} {r t : Touch} → StackTouchPromise k bytes p frame reach r → StackTouchPromise k bytes p frame reach t → r ≡ t
  stack-touch-settled h k = h.is ∙ sym k.is

  pub stack-check-settled : {p : Vector} {r t : Check} → StackCheckPromise k bytes p frame reach r → StackCheckPromise k bytes p frame reach t → r ≡ t
  stack-check-settled h k = h.is ∙ sym k.is

  pub stack-walk-settled : {d : ReadyStart} {r t : Pick} → StackWalkPromise k bytes d frame reach r → StackWalkPromise k bytes d frame reach t → r ≡ t
  stack-walk-settled h k = h.is ∙ sym k.is

-- ---- lent bytes that agree on the voxels of the box
module _ {k : Stack} {a b : List ℕ} (h : Alike k a b) {frame reach : ℤ} where
  pub stack-answers-alike : {p : Vector} {r t : Pick} → StackPromise k a p frame reach r → StackPromise k b p frame reach t → r ≡ t
  unfolding pick_of
  stack-answers-alike {p} u v = u.is ∙ alike h (λ ok look. answer (pick ok look p frame reach)) ∙ sym v.is

  pub stack-touches-alike : {p : Vector} {r t : Touch} → StackTouchPromise k a p frame reach r → StackTouchPromise k b p frame reach t → r ≡ t
  unfolding touch_of
  stack-touches-alike {p} u v = u.is ∙ alike h (λ ok look. marked (answer (touch ok look p frame reach))) ∙ sym v.is

  pub stack-checks-alike : {p : Vector} {r t : Check} → StackCheckPromise k a p frame reach r → StackCheckPromise k b p frame reach t → r ≡ t
  unfolding check_of
  stack-checks-alike {p} u v = u.is ∙ alike h (λ ok look. check_answer p (p ⊕ signs (nat_abs frame)) (check ok look p frame reach)) ∙ sym v.is

  pub stack-walks-alike : {d : ReadyStart} {r t : Pick} → StackWalkPromise k a d frame reach r → StackWalkPromise k b d frame reach t → r ≡ t
  unfolding walk_of
  stack-walks-alike {d} u v = u.is ∙ alike h (λ ok look. walk_answer d.looks (readiness look d frame reach ok) (walk_on look d frame reach)) ∙ sym v.is
