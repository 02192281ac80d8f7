-- A wedge whose numbers are g times n is the slope of n below t = h/g, rounded up: gx < h exactly if x < t.
use Rattle.std.specs.Prelude.{◌≡◌, ◌⊎◌, [], ◌∷◌, zero, suc, ℤ, pos, negsuc, ◌+ℤ◌, ◌-ℤ◌, ◌*ℤ◌, ◌≤ℤ◌, ◌<ℤ◌}
use Rattle.std.proofs.Common.{sym, ap, ◌∙◌, inl, inr, arith}
use Rattle.std.specs.Int.Signed.{lt_z}
use Rattle.integers.specs.Reify.{byring, sides}
use Rattle.integers.specs.Order.{parts, linear, atom, goal, fact, *ℤ-mono}
use Rattle.rules.specs.declared.Vector.{Vector}
use Rattle.rules.specs.declared.Wedge.{Wedge}
use Rattle.rules.specs.Vectors.{dot}
use Rattle.rules.specs.Solids.{filled_wedge}
use Rattle.laws.specs.Tests.{less, not-less, compared}
use Rattle.laws.specs.Parts.{scale-dot}
use Rattle.slope.specs.Demands.{of_wedge, OnWedge, OnSlope}

-- h/g, rounded up
pub record Ceiling (g h : ℤ) : Type 0 where
  pub t : ℤ
  pub enough : h ≤ℤ (g *ℤ t)
  pub least : (g *ℤ (t -ℤ pos 1)) <ℤ h

module _ (g : ℤ) (one : pos 1 ≤ℤ g) where
  next : (t : ℤ) → g *ℤ (t +ℤ pos 1) ≡ g *ℤ t +ℤ g
  next t = byring (g ∷ t ∷ []) (search sides depth 40 fits 5000) tt

  back : (t : ℤ) → g *ℤ (t +ℤ pos 1 -ℤ pos 1) ≡ g *ℤ t
  back t = byring (g ∷ t ∷ []) (search sides depth 40 fits 5000) tt

  lower : (t : ℤ) → g *ℤ (t -ℤ pos 1 -ℤ pos 1) ≡ g *ℤ (t -ℤ pos 1) -ℤ g
  lower t = byring (g ∷ t ∷ []) (search sides depth 40 fits 5000) tt

  -- from h to h + 1, and down
  up : {h k : ℤ} → k ≡ h +ℤ pos 1 → Ceiling g h → Ceiling g k
  up {h} {k} e c = go (compared (g *ℤ c.t) k)
    where
      go : ((g *ℤ c.t) <ℤ k) ⊎ (k ≤ℤ (g *ℤ c.t)) → Ceiling g k
      go (inr l) = record { t = c.t; enough = l; least = let x = atom h in let y = atom k in let f = fact (search linear) e in omega (arith, parts, c.least) }
      go (inl l) = record {
        t = c.t +ℤ pos 1;
        enough = rw (next c.t) (let x = atom h in let y = atom k in let z = atom g in let u = atom (g *ℤ c.t) in let f = fact (search linear) e in goal (search linear) (omega (arith, parts, c.enough)));
        least = rw (back c.t) l;
      }

  down : {h k : ℤ} → h ≡ k +ℤ pos 1 → Ceiling g h → Ceiling g k
  down {h} {k} e c = go (compared (g *ℤ (c.t -ℤ pos 1)) k)
    where
      go : ((g *ℤ (c.t -ℤ pos 1)) <ℤ k) ⊎ (k ≤ℤ (g *ℤ (c.t -ℤ pos 1))) → Ceiling g k
      go (inl l) = record { t = c.t; enough = let x = atom h in let y = atom k in let f = fact (search linear) e in omega (arith, parts, c.enough); least = l }
      go (inr l) = record {
        t = c.t -ℤ pos 1;
        enough = l;
        least = rw (lower c.t) (let x = atom h in let y = atom k in let z = atom g in let u = atom (g *ℤ (c.t -ℤ pos 1)) in let f = fact (search linear) e in goal (search linear) (omega (arith, parts, c.least)));
      }

  at_zero : Ceiling g (pos 0)
  at_zero = let x = atom g in record { t = pos 0; enough = goal (search linear) (omega arith); least = goal (search linear) (omega (arith, parts)) }

  pub ceiling : (h : ℤ) → Ceiling g h
  ceiling (pos zero) = at_zero
  ceiling (pos (suc n)) = up (goal (search linear) (omega arith)) (ceiling (pos n))
  ceiling (negsuc zero) = down (goal (search linear) (omega arith)) at_zero
  ceiling (negsuc (suc n)) = down (goal (search linear) (omega arith)) (ceiling (negsuc n))

  -- both tests agree
  same_test : (h : ℤ) (c : Ceiling g h) (x : ℤ) → lt_z (g *ℤ x) h ≡ lt_z x c.t
  same_test h c x = go (compared x c.t)
    where
      from_zero : pos 0 ≤ℤ g
      from_zero = omega (arith, parts)

      go : (x <ℤ c.t) ⊎ (c.t ≤ℤ x) → lt_z (g *ℤ x) h ≡ lt_z x c.t
      go (inl l) =
          let a = atom x in let b = atom c.t in
          let k : x ≤ℤ (c.t -ℤ pos 1) = goal (search linear) (omega (arith, parts)) in
          less (g *ℤ x) h (omega (arith, parts, *ℤ-mono from_zero k, c.least)) ∙ sym (less x c.t l)
      go (inr l) = not-less (g *ℤ x) h (omega (arith, parts, *ℤ-mono from_zero l, c.enough)) ∙ sym (not-less x c.t l)

pub multiple-slope : (g : ℤ) (n : Vector) (wedge : Wedge) (p : Vector) (frame reach : ℤ) → OnWedge g n wedge p frame reach → (c : Ceiling g wedge.h) → OnSlope n c.t (of_wedge wedge p frame reach)
unfolding filled_wedge
multiple-slope g n wedge p frame reach o c = record {
  permitted = o.permitted;
  direction = o.direction;
  filled_below = λ v _. ap (λ (a : Vector). lt_z (dot a v) wedge.h) o.multiple ∙ ap (λ (z : ℤ). lt_z z wedge.h) (scale-dot n v g) ∙ same_test g o.at_least_once wedge.h c (dot n v);
  touched = o.touched;
}

pub wedge-slope : (g : ℤ) (n : Vector) (wedge : Wedge) (p : Vector) (frame reach : ℤ) → OnWedge g n wedge p frame reach → (t : ℤ) × OnSlope n t (of_wedge wedge p frame reach)
wedge-slope g n wedge p frame reach o = let c = ceiling g o.at_least_once wedge.h in (c.t, multiple-slope g n wedge p frame reach o c)
