-- The falls question along a line: its points are the apex with another part along the axis, so what holds of a vector's question holds of it.
use mathlib.Core.Path.{◌≡◌, refl, sym, ap, ◌∙◌}
use mathlib.Core.List.{List}
use Prim.Native.Nat.{ℕ, ◌+◌, ◌<◌}
use lib.IntN.{ℤ, ◌+ℤ◌, ◌-ℤ◌}
use Rattle.integers.specs.Sizes.{Within, within-is}
use Rattle.rules.specs.declared.Vector.{Vector}
use Rattle.rules.specs.declared.Look.{Look}
use Rattle.rules.specs.declared.Look.TheVariants.{Empty}
use Rattle.rules.specs.declared.Axis.{Axis}
use Rattle.rules.specs.Walk.{Probe}
use Rattle.rules.specs.Solids.{look}
use Rattle.laws.specs.Bounds.{Bounded}
use Rattle.axis.specs.Axes.{with_part}
use Rattle.axis.specs.Along.{part-within, part-with, along-axis, twice-along}
use Rattle.solid.specs.Grid.{ranks_of}
use Rattle.solid.specs.Facts.{empty-bounded}
use Rattle.falls.specs.declared.Scene.{Scene}
use Rattle.along.specs.declared.Line.{Line}
use Rattle.falls.specs.Scene.{Ready}
use Rattle.falls.specs.Sizes.{apex-bounded}
use Rattle.falls.specs.declared.Falls.TheVariants.{Stopped}
use Rattle.falls.specs.Falls.{Fallen, Falling}
use Rattle.along.specs.Lines.{way_along, Along}
use Rattle.along.specs.Facts.{way-bounded}
use Rattle.falls.specs.Powers.{falls-begins, falls-on}

-- of a point, by its part
pub part-sized : {n : ℕ} (q : Vector) (k : Axis) {z : ℤ} → Bounded n (with_part q k z) → Within n z
part-sized q k {z} h = within-is (sym (part-with q k z)) (part-within h k)

pub stopped-at : {c : Probe} {u at p : Vector} {looks n : ℕ} → p ≡ at → Fallen c u looks (Stopped (record { place = at; looks = n })) → Fallen c u looks (Stopped (record { place = p; looks = n }))
stopped-at e h = rw e h

module _ {v : Scene} {bytes : List ℕ} {l : Line} (h : Ready v bytes) (a : Along v l) where
  pub from-within : Within 1023 l.from
  from-within = within-is a.from (part-within (apex-bounded h) l.axis)

  -- the first point
  pub along-begins : {z rank : ℤ} {looks : ℕ} → z ≡ l.from +ℤ l.step → rank ≡ v.here +ℤ l.rise
      → Falling (look v.solid bytes) (ranks_of v.solid) v.apex (way_along l) v.span looks 1 looks (with_part v.apex l.axis z) rank
  along-begins e f = falls-begins (apex-bounded h) (way-bounded a) h.ranked a.rise (ap (with_part v.apex l.axis) (e ∙ ap (λ (x : ℤ). x +ℤ l.step) a.from) ∙ along-axis v.apex l.axis l.step) f

  -- the next one
  pub along-on : (z : ℤ) {far rank next : ℤ} {looks power n : ℕ} {seen : Look}
      → Falling (look v.solid bytes) (ranks_of v.solid) v.apex (way_along l) v.span looks power n (with_part v.apex l.axis z) rank
      → seen ≡ look v.solid bytes (with_part v.apex l.axis z) → seen ≡ Empty → power < v.span → far ≡ z +ℤ (z -ℤ l.from) → next ≡ rank +ℤ (rank -ℤ v.here)
      → Falling (look v.solid bytes) (ranks_of v.solid) v.apex (way_along l) v.span looks (power + power) (n + 1) (with_part v.apex l.axis far) next
  along-on z i b e o f x =
      falls-on i b (apex-bounded h) (empty-bounded h.permitted b e) h.ranked h.span-high e o refl
      (ap (with_part v.apex l.axis) (f ∙ ap (λ (y : ℤ). z +ℤ (z -ℤ y)) a.from) ∙ twice-along v.apex l.axis z) x
