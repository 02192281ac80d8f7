-- How large the ways are, and so the places that are looked at: space's sums and products fit.
use mathlib.Core.Path.{◌≡◌}
use Prim.Native.Nat.{ℕ, ◌≤◌}
use lib.Dec.{lit≤}
use lib.IntN.{ℤ, pos, ◌*ℤ◌}
use Rattle.integers.specs.Sizes.{Within, within_wider, within-product}
use Rattle.rules.specs.declared.Vector.{Vector}
use Rattle.rules.specs.declared.Triangle.{Triangle}
use Rattle.rules.specs.declared.Axis.{Axis}
use Rattle.rules.specs.declared.Way.{Way}
use Rattle.rules.specs.declared.Way.TheVariants.{Sideways as sideways, Along as along, Against as against}
use Rattle.rules.specs.Vectors.{minus, scale}
use Rattle.rules.specs.Walk.{unit}
use Rattle.rules.specs.Firm.{way_of}
use Rattle.laws.specs.Triples.{All}
use Rattle.laws.specs.Bounds.{Bounded, bounded-is, bounded-wider, bounded-opposite, bounded-lay, way-bounded}
use Rattle.axis.specs.Along.{unit-bounded}

pub opposite-fits : {e o : Vector} (k : Axis) → e ≡ unit k → o ≡ minus e → Bounded 1000000000 o
opposite-fits k e f = bounded-is f (bounded-opposite (bounded-is e (bounded-wider (unit-bounded k) (lit≤ tt))))

-- a way's parts are at most 4,092
ways-bounded : {s : Vector} {m : Triangle} → Bounded 1 s → All (Bounded 2046) m → (w : Way) → Bounded 4092 (way_of s m w)
ways-bounded h k (sideways x) = way-bounded k x
ways-bounded h k (along a) = bounded-wider (bounded-lay h (unit-bounded a)) (lit≤ tt)
ways-bounded h k (against a) = bounded-wider (bounded-lay h (bounded-opposite (unit-bounded a))) (lit≤ tt)

pub way-fits : {s : Vector} {m : Triangle} (w : Way) {u : Vector} → Bounded 1 s → All (Bounded 2046) m → u ≡ way_of s m w → Bounded 10000 u
way-fits w h k e = bounded-is e (bounded-wider (ways-bounded h k w) (lit≤ tt))

pub start_fits : {p : Vector} → Bounded 1023 p → Bounded 1000000000 p
start_fits h = bounded-wider h (lit≤ tt)

times-fits : {l : ℕ} {x : ℤ} → l ≤ 512 → Within 10000 x → Within 1000000000 (pos l *ℤ x)
times-fits {l} h k = let n : Within 512 (pos l) = record { size = h } in within_wider (within-product n k) (lit≤ tt)

pub scaled_fits : {l : ℕ} (u : Vector) {a : Vector} → l ≤ 512 → Bounded 10000 u → a ≡ scale (pos l) u → Bounded 1000000000 a
unfolding scale
scaled_fits u h b e = bounded-is e (record { in-x = times-fits h b.in-x; in-y = times-fits h b.in-y; in-z = times-fits h b.in-z })

pub ruleset reaching = (way-fits, start_fits, scaled_fits)
