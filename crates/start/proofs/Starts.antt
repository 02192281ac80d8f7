-- The start: p and q, then the axes, or the corners of a quick touch.
use Rattle.std.specs.Prelude.{◌≡◌, refl, Bool, true, false, ℕ, Ok, Err}
use Rattle.std.proofs.Common.{arith}
use Rattle.rules.specs.declared.Vector.{Vector}
use Rattle.rules.specs.declared.Refused.{Refused}
use Rattle.rules.specs.Walk.{Probe, start, all_corners, quick_start}
use Rattle.laws.specs.Tally.{Gives, then-yes, then-no, at_once}
use Rattle.facing.specs.Facing.{Cleared, cleared_looks, FacingAsked, CornersAsked}
use Rattle.start.specs.Start.{Start, start_tally, start_looks, AxesAsked, quickly, Started}

module _ {c : Probe} {p : Vector} where
  pub started-refused : (quick : Bool) {r : Refused} → FacingAsked c p (Err r) → Started quick c p (Err r)
  unfolding start quick_start
  started-refused true h = record { gives = then-no _ h.gives; few = omega (arith, h.few) }
  started-refused false h = record { gives = then-no _ h.gives; few = omega (arith, h.few) }

  module _ {n : ℕ} (h : FacingAsked c p (Ok n)) where
    pub started-axes : {quick : Bool} {r : Start} → quick ≡ false → AxesAsked c n r → Started quick c p r
    unfolding start
    started-axes f g = rw f (record { gives = then-yes _ h.gives g.gives; few = omega (arith, g.few, h.few) })

    -- ---- the corners
    after-corners : (cleared : Cleared) → CornersAsked c n cleared → Gives n (all_corners c) (start_tally (quickly cleared))
    unfolding all_corners
    after-corners (Ok k) g = then-yes _ g.gives at_once
    after-corners (Err r) g = then-no _ g.gives

    quickly-few : (cleared : Cleared) → start_looks (quickly cleared) ≡ cleared_looks cleared
    quickly-few (Ok k) = refl
    quickly-few (Err r) = refl

    pub started-corners : {quick : Bool} {cleared : Cleared} {r : Start} → quick ≡ true → CornersAsked c n cleared → r ≡ quickly cleared → Started quick c p r
    unfolding quick_start
    started-corners {cleared = cleared} f g i = rw (f, i) (record { gives = then-yes _ h.gives (after-corners cleared g); few = omega (arith, g.few, h.few, quickly-few cleared) })

pub ruleset starting = (started-refused, started-axes, started-corners)
