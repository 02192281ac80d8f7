-- On a slope a question that was answered answered whether n·u < 0. The apex is between 0 and less than R above the plane: a filled voxel at q + l·u is
-- lower than q, so n·u < 0; and if n·u ≤ -1 the voxel at a power of at least R would be below the plane.
use Rattle.std.specs.Prelude.{◌≡◌, Bool, true, false, List, [], ◌∷◌, ℕ, suc, ◌≤◌, ℤ, pos, negsuc, ◌+ℤ◌, ◌*ℤ◌, ◌≤ℤ◌, ◌<ℤ◌}
use Rattle.std.proofs.Common.{sym, inl, inr, arith}
use Rattle.std.proofs.Math.Nat as NatL
use Rattle.std.specs.Int.Signed.{lt_z, lt_z_yes}
use Rattle.integers.specs.Order.{parts, linear, atom, fact}
use Rattle.rules.specs.declared.Vector.{Vector}
use Rattle.rules.specs.declared.Look.TheVariants.{Filled, Empty}
use Rattle.rules.specs.Vectors.{scale, dot, lay}
use Rattle.rules.specs.Walk.{Probe}
use Rattle.laws.specs.Tests.{less, not-less}
use Rattle.laws.specs.Parts.{dot-sum, dot-scale}
use Rattle.laws.specs.Powers.{Reaches}
use Rattle.laws.specs.Looks.{along, FellAt, Fell}
use Rattle.laws.specs.Frames.{lay-dot}

-- ---- numbers
-- e + l d < t ≤ e
goes_down : (l : ℕ) (d e t : ℤ) → (e +ℤ pos l *ℤ d) <ℤ t → t ≤ℤ e → d <ℤ pos 0
goes_down l (pos k) e t h i = let a = atom e in let b = atom t in absurd (omega (arith, parts, fact (search linear) h))
goes_down l (negsuc k) e t h i = lt_z_yes tt

-- t ≤ e + l d and e < t + R, R ≤ l
stays_up : (l R : ℕ) (d e t : ℤ) → t ≤ℤ (e +ℤ pos l *ℤ d) → e <ℤ (t +ℤ pos R) → R ≤ l → pos 0 ≤ℤ d
stays_up l R (pos k) e t h i r = omega (arith, parts)
stays_up l R (negsuc k) e t h i r =
    let a = atom e in let b = atom t in
    absurd (omega (arith, fact (search linear) h, fact (search linear) i, NatL.mul-le-mul_left {m = 1} {n = suc k} l (omega arith)))

-- ---- an apex q less than R above the plane n·v = t, and a power of at least R
pub record Near (c : Probe) (n : Vector) (t : ℤ) (R : ℕ) : Type 0 where
  pub below : (v : Vector) → c.look v ≡ Filled → dot n v <ℤ t
  pub above : (v : Vector) → c.look v ≡ Empty → t ≤ℤ dot n v
  pub low : t ≤ℤ dot n c.apex
  pub high : dot n c.apex <ℤ (t +ℤ pos R)
  pub reaches : Reaches R c.powers

module _ {c : Probe} {n : Vector} {t : ℤ} {R : ℕ} (near : Near c n t R) where
  height : (u : Vector) (l : ℕ) → dot n (along c u l) ≡ dot n c.apex +ℤ pos l *ℤ dot n u
  height u l = rw (dot-sum n c.apex (scale (pos l) u), dot-scale n u (pos l))

  fell : (u : Vector) (ls : List ℕ) → FellAt c u ls true → dot n u <ℤ pos 0
  fell u [] f = absurd f
  fell u (l ∷ ls) (inl e) = goes_down l (dot n u) (dot n c.apex) t (rw (height u l) at (near.below _ e)) near.low
  fell u (l ∷ ls) (inr f) = fell u ls f.1

  stood : (u : Vector) (ls : List ℕ) → Reaches R ls → FellAt c u ls false → pos 0 ≤ℤ dot n u
  stood u [] r f = absurd r
  stood u (l ∷ ls) (inl r) f = stays_up l R (dot n u) (dot n c.apex) t (rw (height u l) at (near.above _ f.0)) near.high r
  stood u (l ∷ ls) (inr r) f = stood u ls r f.1

  below-zero : (u : Vector) (b : Bool) → FellAt c u c.powers b → b ≡ lt_z (dot n u) (pos 0)
  below-zero u true f = sym (less (dot n u) (pos 0) (fell u c.powers f))
  below-zero u false f = sym (not-less (dot n u) (pos 0) (stood u c.powers near.reaches f))

  -- in the frame
  pub fell-is : (u : Vector) (b : Bool) → Fell c u b → b ≡ lt_z (dot (lay c.signs n) u) (pos 0)
  fell-is u b f = rw (lay-dot c.signs n u) (below-zero (lay c.signs u) b f)
