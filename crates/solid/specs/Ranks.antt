-- A permitted solid's grid: its sides are the box's, its ranks are small, and a voxel of the box is filled exactly if its rank says so.
use Rattle.std.specs.Prelude.{◌≡◌, Bool, true, false, ◌&&◌, List, ℕ, ◌*◌, ◌≤◌, T, ℤ, pos, nat_abs}
use Rattle.std.proofs.Math.Path.{refl}
use Rattle.std.proofs.Common.{sym, ap, ◌∙◌, mul-le-mul, arith, lit≤}
use Rattle.std.proofs.Math.Facts.{and_yes}
use Rattle.integers.specs.Sizes.{Within, within_wider, within-literal, within-sum, within-product}
use Rattle.rules.specs.declared.Vector.{Vector}
use Rattle.rules.specs.declared.Solid.{Solid}
use Rattle.rules.specs.declared.Solid.TheVariants.{Wedge as IsWedge, Stack as IsStack}
use Rattle.rules.specs.Vectors.{vector, dot}
use Rattle.rules.specs.Solids.{row_bytes, slice_bytes, filled_wedge, box, in_side, in_box, filled}
use Rattle.rules.specs.declared.Axis.{Axis}
use Rattle.rules.specs.declared.Axis.TheVariants.{Axis0 as axis0, Axis1 as axis1, Axis2 as axis2}
use Rattle.laws.specs.Bounds.{Bounded}
use Rattle.laws.specs.Parts.{part}
use Rattle.laws.specs.Tests.{is_true}
use Rattle.axis.specs.Axes.{with_part}
use Rattle.stack.specs.Sides.{sized}
use Rattle.stack.specs.Bits.{stack_ranks}
use Rattle.stack.specs.Voxels.{point-held, rank-low, rank-held, rank-filled}
use Rattle.solid.specs.declared.Grid.{Grid}
use Rattle.solid.specs.Asks.{PermittedSolid, InBoxOf}
use Rattle.solid.specs.Grid.{ranks_of, grid_of, side_at, sides_of, GridRanks, filled_at, RankHeld}
use Rattle.solid.specs.Facts.{wedge-asks}

-- ---- the sides and the ranks
sides-are : (s : Solid) {bytes : List ℕ} → PermittedSolid s bytes → sides_of (grid_of s) ≡ box s
sides-are (IsWedge w) h = refl
sides-are (IsStack k) h = let s = (sized h.is).of in λ i. vector (sym s.wide.is i) (sym s.high.is i) (sym s.deep.is i)

pub in-box-by-grid : {s : Solid} {bytes : List ℕ} {g : Grid} (p : Vector) {i : Bool} → PermittedSolid s bytes → g ≡ grid_of s → i ≡ in_box (sides_of g) p → i ≡ in_box (box s) p
in-box-by-grid {s} p h e i = i ∙ ap (λ (g : Grid). in_box (sides_of g) p) e ∙ ap (λ (v : Vector). in_box v p) (sides-are s h)

-- from a voxel of the box along an axis one side alone is asked
and-true : (b : Bool) → b ≡ b && true
and-true true = refl
and-true false = refl

one_side : (sides q : Vector) (k : Axis) (z : ℤ) → in_box sides q ≡ true → in_side (part k sides) z ≡ in_box sides (with_part q k z)
unfolding in_box
one_side sides q k z e =
    let t : T (in_box sides q) = rw e tt in
    let x = and_yes (in_side sides.x q.x) _ t in
    let y = and_yes (in_side sides.y q.y) _ x.1 in
    go k (is_true _ x.0) (is_true _ y.0) (is_true _ y.1)
  where
    go : (k : Axis) → in_side sides.x q.x ≡ true → in_side sides.y q.y ≡ true → in_side sides.z q.z ≡ true → in_side (part k sides) z ≡ in_box sides (with_part q k z)
    go axis0 a b c = rw (b, c) (and-true _)
    go axis1 a b c = rw (a, c) (and-true _)
    go axis2 a b c = rw (a, b)

part-sides : (g : Grid) (k : Axis) → pos (side_at g k) ≡ part k (sides_of g)
part-sides g axis0 = refl
part-sides g axis1 = refl
part-sides g axis2 = refl

pub in-box-along : {s : Solid} {bytes : List ℕ} (q : Vector) (k : Axis) (z : ℤ) {side : ℕ} {i : Bool}
    → PermittedSolid s bytes → InBoxOf s q → side ≡ side_at (grid_of s) k → i ≡ in_side (pos side) z → i ≡ in_box (box s) (with_part q k z)
in-box-along {s} q k z {side} h p e i =
    i ∙ ap (λ (n : ℕ). in_side (pos n) z) e ∙ ap (λ (n : ℤ). in_side n z) (part-sides (grid_of s) k ∙ ap (part k) (sides-are s h))
    ∙ one_side (box s) q k z p.is

ranks-are : (s : Solid) → (grid_of s).ranks ≡ ranks_of s
ranks-are (IsWedge w) = refl
ranks-are (IsStack k) = refl

pub ranks-small : (s : Solid) {bytes : List ℕ} → PermittedSolid s bytes → GridRanks (grid_of s)
unfolding stack_ranks row_bytes slice_bytes
ranks-small (IsWedge w) h = let a = wedge-asks h in record { in-x = a.in-a; in-y = a.in_b; in-z = within_wider a.in_c (lit≤ tt) }
ranks-small (IsStack k) h =
    let s = (sized h.is).of in
    let row : row_bytes (nat_abs k.width) ≤ 32 = omega (arith, s.wide.side.most) in
    let slice = mul-le-mul s.high.side.most row in
    record { in-x = within_wider (within-literal (pos 1)) (lit≤ tt); in-y = record { size = omega arith }; in-z = record { size = omega arith } }

pub grid-small : {s : Solid} {bytes : List ℕ} {g : Grid} → PermittedSolid s bytes → g ≡ grid_of s → GridRanks g
grid-small {s} h e = rw e (ranks-small s h)

-- so a rank is small where the parts are
ranks-within : {g : Grid} {n : ℕ} {v : Vector} → GridRanks g → Bounded n v → Within (67536 * n) (dot g.ranks v)
unfolding dot
ranks-within g b = within_wider (within-sum (within-sum (within-product g.in-x b.in-x) (within-product g.in-y b.in-y)) (within-product g.in-z b.in-z)) (omega arith)

pub rank-by-grid : (s : Solid) {g : Grid} (v : Vector) {z : ℤ} → g ≡ grid_of s → z ≡ dot g.ranks v → z ≡ dot (ranks_of s) v
rank-by-grid s v e h = h ∙ ap (λ (r : Vector). dot r v) (ap (λ (g : Grid). g.ranks) e ∙ ranks-are s)

pub rank-within : (s : Solid) {bytes : List ℕ} {n : ℕ} {v : Vector} → PermittedSolid s bytes → Bounded n v → Within (67536 * n) (dot (ranks_of s) v)
rank-within s h b = rw (ranks-are s) at (ranks-within (ranks-small s h) b)

-- ---- a voxel of the box
module _ {bytes : List ℕ} {p : Vector} where
  pub rank-in-box : (s : Solid) → PermittedSolid s bytes → InBoxOf s p → RankHeld s bytes (dot (ranks_of s) p)
  rank-in-box (IsWedge w) h i = tt
  rank-in-box (IsStack k) h i = let q = point-held h.is i.is in (rank-low q, rank-held q)

  pub filled-by-rank : (s : Solid) → PermittedSolid s bytes → InBoxOf s p → filled_at s bytes (dot (ranks_of s) p) ≡ filled s bytes p
  unfolding filled_wedge
  filled-by-rank (IsWedge w) h i = refl
  filled-by-rank (IsStack k) h i = rank-filled (point-held h.is i.is)
