-- The bound. With the signs s of the frame and 0 ≤ e < ν·s, e² is less than 3·(ν·ν), for (ν·s)² is at most (ν·ν)(s·s); so where each way of the footing, L times, is within e,
-- L²·|ν×n|² is less than 3·S·(ν·ν). Multiplied by n·n it is the sine's bound, and by Lagrange's identity the wall's.
use Rattle.std.specs.Prelude.{◌≡◌, refl, [], ◌∷◌, ℕ, ◌*◌, ◌<◌, ℤ, pos, negsuc, nat_abs, ◌+ℤ◌, ◌-ℤ◌, ◌*ℤ◌, ◌≤ℤ◌, ◌<ℤ◌}
use Rattle.std.proofs.Common.{arith}
use Rattle.integers.specs.Reify.{byring, sides}
use Rattle.integers.specs.Order.{parts}
use Rattle.rules.specs.declared.Vector.{Vector}
use Rattle.rules.specs.declared.Levels.{Levels}
use Rattle.rules.specs.declared.Triangle.{Triangle}
use Rattle.rules.specs.Vectors.{scale, dot, cross}
use Rattle.rules.specs.Lean.{squared, spread}
use Rattle.laws.specs.Parts.{of2}
use Rattle.laws.specs.Frames.{Signs}
use Rattle.planes.specs.Orders.{at_most, less_by, rest, rest-less, ◌and◌, ◌by◌, square-less, below-three}
use Rattle.planes.specs.Turn.{square, square-up, squared-is, lagrange, Face, WaysWithin, turn-close, spread-high, normal-long}
use Rattle.planes.specs.Faces.{sign-square}
use Rattle.planes.specs.Lean.{LeansBelow}

signs-square : (s : Vector) → Signs s → square s ≡ pos 3
unfolding dot
signs-square s g = rw (sign-square g.of_x, sign-square g.of_y, sign-square g.of_z) refl

-- e² is less than 3·(ν·ν)
wide : (ν s : Vector) (e : ℤ) → Signs s → pos 0 ≤ℤ e → e <ℤ dot ν s → (e *ℤ e +ℤ pos 1) ≤ℤ (pos 3 *ℤ square ν)
wide ν s e g h k =
    let d = dot ν s in
    at_most (square (cross ν s) +ℤ (d *ℤ d -ℤ (e *ℤ e +ℤ pos 1))) (square-up (cross ν s) and rest (square-less e d h k))
    (rw (lagrange ν s, signs-square s g) (byring (square ν ∷ d ∷ e ∷ []) (search sides depth 40 fits 5000) tt))

cross-scale : (l : ℤ) (a b : Vector) → square (cross (scale l a) b) ≡ l *ℤ l *ℤ square (cross a b)
unfolding dot cross scale
cross-scale l a b = byring (l ∷ of2 a b) (search sides depth 40 fits 5000) tt

size-square : (z : ℤ) → pos (nat_abs z * nat_abs z) ≡ z *ℤ z
size-square (pos k) = refl
size-square (negsuc k) = refl

-- ---- multiplied by n·n
sine-by : (W S M N Q : ℤ) → (W *ℤ Q) <ℤ (S *ℤ M) → pos 1 ≤ℤ N → (W *ℤ N *ℤ Q) <ℤ (S *ℤ (M *ℤ N))
sine-by W S M N Q h k =
    less_by ((S *ℤ M -ℤ W *ℤ Q -ℤ pos 1) *ℤ (N -ℤ pos 1) +ℤ (S *ℤ M -ℤ W *ℤ Q -ℤ pos 1) +ℤ (N -ℤ pos 1))
    (rest-less h by rest k and rest-less h and rest k)
    (byring (W ∷ S ∷ M ∷ N ∷ Q ∷ []) (search sides depth 40 fits 5000) tt)

wall-by : (W S P D Q : ℤ) → (W *ℤ Q) <ℤ (S *ℤ P) → Q ≡ P -ℤ D → (W *ℤ P) <ℤ (W *ℤ D +ℤ S *ℤ P)
wall-by W S P D Q h e = less_by (S *ℤ P -ℤ W *ℤ (P -ℤ D) -ℤ pos 1) (rest-less (rw e at h)) (byring (W ∷ S ∷ P ∷ D ∷ []) (search sides depth 40 fits 5000) tt)

-- ---- the bound at L
module _ {s : Vector} {v : Levels} {n : Vector} {m : Triangle} (f : Face s v n m) (g : Signs s) (ν : Vector) (L : ℕ) (e : ℤ)
    (up : pos 0 ≤ℤ e) (low : e <ℤ dot ν s) (held : WaysWithin (scale (pos L) ν) e s v m) where
  close-whole : (pos L *ℤ pos L *ℤ square (cross ν n)) ≤ℤ (pos (spread v m) *ℤ (e *ℤ e))
  close-whole = rw (cross-scale (pos L) ν n) at (turn-close s n m (scale (pos L) ν) e v.x v.y v.z f held)

  pub close_at : pos (L * L * squared (cross ν n)) ≤ℤ (pos (spread v m) *ℤ (e *ℤ e))
  close_at = rw (← squared-is (cross ν n)) at close-whole

  lean-whole : (pos L *ℤ pos L *ℤ square (cross ν n)) <ℤ (pos 3 *ℤ pos (spread v m) *ℤ square ν)
  lean-whole = below-three _ (pos (spread v m)) e (square ν) close-whole (spread-high v.x v.y v.z f) (wide ν s e g up low)

  pub lean-at : L * L * squared (cross ν n) < 3 * spread v m * squared ν
  lean-at = omega (arith, parts, (rw (← squared-is (cross ν n), ← squared-is ν) at lean-whole))

  sine-whole : (pos L *ℤ pos L *ℤ square n *ℤ square (cross ν n)) <ℤ (pos 3 *ℤ pos (spread v m) *ℤ (square ν *ℤ square n))
  sine-whole = sine-by (pos L *ℤ pos L) (pos 3 *ℤ pos (spread v m)) (square ν) (square n) (square (cross ν n)) lean-whole (normal-long f)

  wall-whole : (pos L *ℤ pos L *ℤ square n *ℤ (square ν *ℤ square n)) <ℤ (pos L *ℤ pos L *ℤ square n *ℤ (dot ν n *ℤ dot ν n) +ℤ pos 3 *ℤ pos (spread v m) *ℤ (square ν *ℤ square n))
  wall-whole = wall-by (pos L *ℤ pos L *ℤ square n) (pos 3 *ℤ pos (spread v m)) (square ν *ℤ square n) (dot ν n *ℤ dot ν n) (square (cross ν n)) sine-whole (lagrange ν n)

  pub below_at : LeansBelow (record { part = 3 * spread v m; whole = L * L * squared n }) ν n
  below_at = record {
    sine = omega (arith, parts, (rw (← squared-is (cross ν n), ← squared-is ν, ← squared-is n) at sine-whole));
    wall = omega (arith, parts, (rw (← squared-is ν, ← squared-is n, ← size-square (dot ν n)) at wall-whole));
  }
