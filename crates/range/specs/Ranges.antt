-- What a number in a range and a point in a box tell: the tests as inequalities.
use Rattle.std.specs.Prelude.{◌≡◌, refl, ℕ, suc, ◌≤◌, T, ℤ, pos, negsuc, nat_abs, ◌≤ℤ◌, ◌<ℤ◌}
use Rattle.std.proofs.Common.{arith}
use Rattle.std.specs.Int.Signed.{le_z, lt_z, le_z_yes, lt_z_yes}
use Rattle.std.proofs.Math.Facts.{and_yes}
use Rattle.integers.specs.Order.{parts}
use Rattle.integers.specs.Sizes.{Within, sizes}
use Rattle.rules.specs.declared.Vector.{Vector}
use Rattle.rules.specs.Solids.{between, in_side, in_box}

pub between-yes : (low x high : ℤ) → T (between low x high) → (low ≤ℤ x) × (x ≤ℤ high)
unfolding between
between-yes low x high t = let h = and_yes (le_z low x) (le_z x high) t in (le_z_yes h.0, le_z_yes h.1)

-- from a natural on, a number is a natural
pub between-naturals : (low high : ℕ) (x : ℤ) → T (between (pos low) x (pos high)) → (low ≤ nat_abs x) × (nat_abs x ≤ high) × (x ≡ pos (nat_abs x))
between-naturals low high x t = go x (between-yes (pos low) x (pos high) t)
  where
    go : (z : ℤ) → (pos low ≤ℤ z) × (z ≤ℤ pos high) → (low ≤ nat_abs z) × (nat_abs z ≤ high) × (z ≡ pos (nat_abs z))
    go (pos n) h = (omega (arith, parts, h.0), omega (arith, parts, h.1), refl)
    go (negsuc n) h = absurd h.0.le

-- a range around 0 bounds the size
pub between-within : (k : ℕ) (x : ℤ) → T (between (negsuc k) x (pos (suc k))) → Within (suc k) x
between-within k x t = let h = between-yes (negsuc k) x (pos (suc k)) t in omega (arith, parts, sizes)

-- ---- 0 ≤ x < side
pub record InSide (side x : ℤ) : Type 0 where
  pub low : pos 0 ≤ℤ x
  pub below : x <ℤ side

pub record InSides (sides p : Vector) : Type 0 where
  pub of-x : InSide sides.x p.x
  pub of-y : InSide sides.y p.y
  pub of-z : InSide sides.z p.z

in-side : (side x : ℤ) → T (in_side side x) → InSide side x
in-side side x t = let h = and_yes (le_z (pos 0) x) (lt_z x side) t in record { low = le_z_yes h.0; below = lt_z_yes h.1 }

pub in-sides : (sides p : Vector) → T (in_box sides p) → InSides sides p
unfolding in_box
in-sides sides p t =
    let h = and_yes (in_side sides.x p.x) _ t in
    let k = and_yes (in_side sides.y p.y) (in_side sides.z p.z) h.1 in
    record { of-x = in-side _ _ h.0; of-y = in-side _ _ k.0; of-z = in-side _ _ k.1 }
