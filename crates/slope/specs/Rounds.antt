-- On a slope every round that is answered chooses as the ideal round, so the rounds are the ideal walk's: a step is taken only while the heights
-- add up to more than 3, and refusal 9 is never given. The ideal walk is that of the normal with 1 along the level axes: the pairs that take part ask the same of it.
use Rattle.std.specs.Prelude.{◌≡◌, refl, Bool, ℕ, zero, suc, ◌+◌, ◌≤◌, T, ℤ, pos, ◌≤ℤ◌}
use Rattle.std.proofs.Common.{sym, ◌∙◌, arith}
use Rattle.std.proofs.Math.Path.{ap, ap₂}
use mathlib.Core.List.{List, [], ◌∷◌}
use Rattle.std.specs.Int.Signed.{lt_z}
use Rattle.rules.specs.declared.Vector.{Vector}
use Rattle.rules.specs.declared.Levels.{Levels}
use Rattle.rules.specs.declared.Triangle.{Triangle}
use Rattle.rules.specs.declared.Pair.{Pair}
use Rattle.rules.specs.Answers.{Choice}
use Rattle.std.specs.Prelude.{None as Nothing, Some as Chosen}
use Rattle.rules.specs.Vectors.{lay}
use Rattle.rules.specs.Walk.{Stop, stop, pairs, way, step, keep, only, choice, takes_part, Probe}
use Rattle.laws.specs.Tests.{Each}
use Rattle.laws.specs.Only.{only-holds}
use Rattle.laws.specs.Flat.{Flat, Lies, raised, raised-way}
use Rattle.laws.specs.Looks.{FellOf, StoppedOf, RoundOf}
use Rattle.laws.specs.Next.{LevelsAnswered, Reached, sideways, turn-of, NextLook, next-look}
use Rattle.laws.specs.Walks.{WalkRule}
use Rattle.slope.specs.Falls.{Near, fell-is}
use Rattle.slope.specs.Ideal.{downs, ideal_round, ideal, Upright, heights, Down, step-upright, step-lower, no_step, round-down, ideal-ends, ideal-goes-on}

-- refusal 8, at the voxel that was to be looked at next
pub record Edge (c : Probe) (r : Stop) : Type 0 where
  pub is_eight : r.number ≡ 8
  pub next : NextLook c r

pub edge-sideways : {c : Probe} (v : Levels) → LevelsAnswered c v → (k : ℕ) (m : Triangle) (p : Vector) → Reached c (only (takes_part v) pairs) k m → StoppedOf c m (only (takes_part v) pairs) p → Edge c (stop 8 p k)
edge-sideways {c} v asked k m p h o = record { is_eight = refl; next = next-look c (way m o.pair) (sideways v asked m h o.pair (turn-of c o) refl) o.stopped }

-- ---- rounds
module _ {c : Probe} {n : Vector} {t : ℤ} {R : ℕ} (near : Near c n t R) (v : Levels) (lies : Lies v (lay c.signs n)) where
  abbrev N : Vector
  N = raised v (lay c.signs n)

  abbrev ps : List Pair
  ps = only (takes_part v) pairs

  fell-downs : (m : Triangle) → Flat v m → (xs fs : List Pair) → Each (λ x. T (takes_part v x)) xs → FellOf c m xs fs → fs ≡ downs N v m xs
  unfolding only
  fell-downs m f [] fs ts h = h
  fell-downs m f (x ∷ xs) fs ts h =
      h.4 ∙ ap₂ (λ (b : Bool) (gs : List Pair). keep b x gs) (fell-is near (way m x) h.0 h.2 ∙ ap (λ z. lt_z z (pos 0)) (sym (raised-way v m f (lay c.signs n) lies x ts.0))) (fell-downs m f xs h.1 ts.1 h.3)

  round-ideal : (m : Triangle) (x : Choice) → Flat v m → RoundOf c ps m x → x ≡ ideal_round N v m
  unfolding ideal_round
  round-ideal m x f w = w.2 ∙ ap (choice m) (fell-downs m f ps w.0 (only-holds (takes_part v) pairs) w.1)

  -- heights of at most 3 + r leave at most r steps, and the ideal walk from here ends where it ended
  pub record Kept (final : Triangle × ℕ) (left r k : ℕ) (m : Triangle) : Type 0 where
    pub enough : r ≤ left
    pub upright : Upright N v m
    pub lower : heights N v m ≤ℤ pos (3 + r)
    pub same : ideal N v r k m ≡ final
    pub reached : Reached c ps k m

  falls_down : (m : Triangle) (x : Pair) → Flat v m → RoundOf c ps m (Chosen x) → Down N v m x
  falls_down m x f w = rw (← round-ideal m (Chosen x) f w) at (round-down N v m)

  -- F holds of refusal 8, given while a pair of the triangle reached was asked
  pub slope-walk : {F : Stop → Type 0} → ((k : ℕ) (m : Triangle) (p : Vector) → Reached c (only (takes_part v) pairs) k m → StoppedOf c m (only (takes_part v) pairs) p → F (stop 8 p k))
      → (final : Triangle × ℕ) → WalkRule c (only (takes_part v) pairs) (Kept final) (λ e. e ≡ final) F
  slope-walk {F} beyond final = record {
    outside = λ left r k m p h o. beyond k m p h.reached o;
    ends = λ left r k m h w. sym (ideal-ends N v r k m (round-ideal m Nothing h.upright.flat w)) ∙ h.same;
    stops = stops;
    steps = steps;
  }
    where
      stops : (r k : ℕ) (m : Triangle) (x : Pair) → Kept final 0 r k m → RoundOf c ps m (Chosen x) → F (stop 9 c.apex k)
      stops zero k m x h w = absurd (no_step N v m x h.upright (falls_down m x h.upright.flat w) h.lower)
      stops (suc r) k m x h w = absurd (omega (arith, h.enough))

      steps : (left r k : ℕ) (m : Triangle) (x : Pair) → Kept final (suc left) r k m → RoundOf c ps m (Chosen x) → (j : ℕ) × (suc j ≤ r) × Kept final left j (suc k) (step m x)
      steps left zero k m x h w = absurd (no_step N v m x h.upright (falls_down m x h.upright.flat w) h.lower)
      steps left (suc r) k m x h w = (
        r,
        omega arith,
        record {
          enough = omega (arith, h.enough);
          upright = step-upright N v m x h.upright (falls_down m x h.upright.flat w);
          lower = step-lower N v m x r h.upright h.lower;
          same = sym (ideal-goes-on N v r k m x (round-ideal m (Chosen x) h.upright.flat w)) ∙ h.same;
          reached = (m, x, h.reached, w, refl);
        },
      )
