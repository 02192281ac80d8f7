-- What a pair's corners have to its way: the difference of a sound triangle's corners is small, is document 01's way laid in, and has its rank; and the product with m_l is the pair's weight.
use Rattle.std.specs.Prelude.{◌≡◌, List, ℕ, ◌-ℤ◌}
use Rattle.std.proofs.Common.{◌∙◌, lit≤}
use Rattle.integers.specs.Machine.{machine, value}
use Rattle.rules.specs.declared.Axis.{Axis}
use Rattle.rules.specs.declared.Pair.{Pair}
use Rattle.rules.specs.Vectors.{dot, lay}
use Rattle.rules.specs.Walk.{from, to, way}
use Rattle.laws.specs.Bounds.{Bounded, bounded-wider, bounded-difference}
use Rattle.laws.specs.Sphere.{weight}
use Rattle.solid.specs.Grid.{ranks_of}
use Rattle.falls.specs.declared.Scene.{Scene}
use Rattle.falls.specs.Scene.{Ready}
use Rattle.choice.specs.Numbers.{from_bits}
use Rattle.choice.specs.Sound.{Sound}
use Rattle.round.specs.declared.Corner.{Corner}
use Rattle.round.specs.Corners.{corner_at, difference, triangle_in, Ranked, Small, small, rank-difference, way-laid, weight-laid}

module _ {v : Scene} {bytes : List ℕ} {ms : List Corner} (ready : Ready v bytes) (s : Sound (triangle_in v.signs ms)) (z : Ranked (ranks_of v.solid) ms) where
  pub corner-small : (k : Axis) {a : Corner} → a ≡ corner_at ms k → Small a
  corner-small k e = rw e ((small ms ready s z).corners k)

  pub corner-fits : (k : Axis) {a : Corner} → a ≡ corner_at ms k → Bounded 10000 a.at
  corner-fits k e = bounded-wider (corner-small k e).bounded (lit≤ tt)

  module _ (x : Pair) {a b w : Corner} (e : a ≡ corner_at ms (from x)) (f : b ≡ corner_at ms (to x)) (g : w ≡ difference b a) where
    pub is-laid : w.at ≡ lay v.signs (way (triangle_in v.signs ms) x)
    is-laid = rw (g, f, e) (way-laid ms ready.signed x)

    pub weighs : dot b.at w.at ≡ weight (triangle_in v.signs ms) x
    weighs = rw (g, f, e) (weight-laid ms ready.signed x)

    pub rank-is : from_bits w.rank ≡ dot (ranks_of v.solid) w.at
    rank-is =
        let p = (corner-small (from x) e).within in
        let q = (corner-small (to x) f).within in
        let read : from_bits (b.rank -ℤ a.rank) ≡ b.rank -ℤ a.rank = value (search machine depth 30 fits 5000) tt in
        rw g (read ∙ rw (f, e) (rank-difference z (to x) (from x)))

    pub way-small : Bounded 2046 w.at
    way-small = rw g (bounded-difference (corner-small (to x) f).bounded (corner-small (from x) e).bounded)

    pub way-fits : Bounded 10000 w.at
    way-fits = bounded-wider way-small (lit≤ tt)

pub ruleset ways = (corner-small, corner-fits, is-laid, weighs, rank-is, way-small, way-fits)
