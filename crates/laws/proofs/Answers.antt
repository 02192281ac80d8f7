-- The pick's answer: the triangle's vectors and the normal that were found generate the face, and what every pick tells holds of its answer.
use Rattle.std.specs.Prelude.{◌≡◌, refl, List, ℕ, ◌+◌, ◌*◌, ◌-◌, ◌≤◌, max, length, ℤ, pos}
use Rattle.std.proofs.Common.{sym, subst, ◌∙◌, arith}
use Rattle.std.proofs.Math.Path.{ap}
use Rattle.std.proofs.Math.Nat as NatL
use Rattle.std.proofs.Math.IntN.{nat_abs}
use Rattle.rules.specs.declared.Vector.{Vector}
use Rattle.rules.specs.declared.Solid.{Solid}
use Rattle.rules.specs.declared.Levels.{Levels}
use Rattle.rules.specs.declared.Triangle.{Triangle}
use Rattle.rules.specs.declared.Accepted.{Accepted as AcceptedPick}
use Rattle.rules.specs.declared.Refused.{Refused as RefusedPick}
use Rattle.rules.specs.Answers.{Pick}
use Rattle.std.specs.Prelude.{Ok as Accepted, Err as Refused}
use Rattle.rules.specs.Vectors.{◌⊕◌, scale, dot, lay}
use Rattle.rules.specs.Solids.{permitted, look}
use Rattle.rules.specs.declared.Axis.{Axis}
use Rattle.rules.specs.declared.Axis.TheVariants.{Axis0 as axis0, Axis1 as axis1, Axis2 as axis2}
use Rattle.rules.specs.Walk.{Stop, powers, vector_of, levelled, normal, Probe, Found, laid, found}
use Rattle.rules.specs.Pick.{pick, pick_of}
use Rattle.rules.specs.Lean.{levels_of}
use Rattle.laws.specs.Parts.{scale_one}
use Rattle.laws.specs.Triples.{det_of, crosses, combined, expand}
use Rattle.laws.specs.Flat.{Flat}
use Rattle.laws.proofs.Flat.{levelled-dot}
use Rattle.laws.specs.Generators.{Combines, generators, Products}
use Rattle.laws.proofs.Generators.{face-generated}
use Rattle.laws.specs.Says.{Few}
use Rattle.laws.specs.Frames.{Signs, lay-lay, lay-dot, lay-scale, lay-sum}
use Rattle.laws.specs.Rounds.{WalkFound}
use Rattle.laws.specs.Picks.{PickFound, RefusalHere}
use Rattle.laws.proofs.Picks.{pick-says}
use Rattle.laws.specs.Answers.{laid_of, steps_of, looks_of, found_of, stop_of, AnswerSays, answer-says, found-triangle, found-normal, found-levels}

-- ---- of a flat triangle of determinant 1, laid in
lay-combined : (s : Vector) (m : Triangle) (a b c : ℤ) → lay s (combined m a b c) ≡ combined (laid s m) a b c
lay-combined s m a b c = lay-sum s (scale a m.m0 ⊕ scale b m.m1) (scale c m.m2) ∙ rw (lay-sum s (scale a m.m0) (scale b m.m1), lay-scale s m.m0 a, lay-scale s m.m1 b, lay-scale s m.m2 c) refl

module _ {s : Vector} (g : Signs s) {v : Levels} {m : Triangle} (k : Flat v m) (d : det_of m ≡ pos 1) where
  abbrev n : Vector
  n = lay s (levelled v (normal m))

  pub laid-products : Products v (lay s (levelled v (normal m))) (laid s m)
  laid-products j = ap (dot n) (laid_of s m j) ∙ lay-dot s _ (lay s (vector_of m j)) ∙ ap (dot (levelled v (normal m))) (lay-lay s (vector_of m j) g) ∙ levelled-dot v m k d j

  -- the level vectors and the sides between the other corners generate the plane of the laid-in normal
  pub laid-generated : (u : Vector) → dot (lay s (levelled v (normal m))) u ≡ pos 0 → Combines (generators v (laid s m)) u
  laid-generated u e = subst (Combines (generators v (laid s m))) (sym back) (face-generated v n (laid s m) laid-products c (ap (dot n) (sym back) ∙ e))
    where
      c : Axis → ℤ
      c j = dot (vector_of (crosses m) j) (lay s u)

      back : u ≡ combined (laid s m) (c axis0) (c axis1) (c axis2)
      back = sym (lay-lay s u g) ∙ ap (lay s) (sym (scale_one (lay s u)) ∙ (rw d at (expand m (lay s u)))) ∙ lay-combined s m (c axis0) (c axis1) (c axis2)

-- ---- what an accepted record holds
module _ {c : Probe} {R : ℕ} {v : Levels} {f : Found} (h : WalkFound c R v f) where
  pub found-products : Signs c.signs → Products (levels_of f.normal) f.normal f.triangle
  found-products g = rw (← (found-levels h) g) (rw (found-triangle h, found-normal h) (laid-products g h.end.flat h.end.tame.unimodular))

  pub found-generated : Signs c.signs → (u : Vector) → dot f.normal u ≡ pos 0 → Combines (generators (levels_of f.normal) f.triangle) u
  found-generated g u e = subst (λ l. Combines (generators l f.triangle) u) (found-levels h g) (rw (found-triangle h) (laid-generated g h.end.flat h.end.tame.unimodular u (rw (found-normal h) at e)))

-- ---- and of a solid's pick
module _ (solid : Solid) (bytes : List ℕ) (p : Vector) (frame reach : ℤ) where
  abbrev FoundOn : Found → Type 0
  FoundOn = PickFound (permitted solid bytes) (look solid bytes) p frame reach

  abbrev RefusalOn : Stop → Type 0
  RefusalOn = RefusalHere (permitted solid bytes) (look solid bytes) p frame reach

  abbrev K : ℕ
  K = length (powers (nat_abs reach))

  abbrev most : ℕ
  most = 2 + K * (6 * max (nat_abs reach) 3 - 9)

  tells : (N : ℕ) → (nat_abs reach ≤ 256 → 2 + K * (6 * max (nat_abs reach) 3 - 9) ≤ N) → AnswerSays (Few N FoundOn) (Few N RefusalOn) (pick_of solid bytes p frame reach)
  unfolding pick_of
  tells N h = answer-says _ _ (pick (permitted solid bytes) (look solid bytes) p frame reach) (pick-says (permitted solid bytes) (look solid bytes) p frame reach N h)

  pub accepted-tells : (a : AcceptedPick) → pick_of solid bytes p frame reach ≡ Accepted a → FoundOn (found_of a)
  accepted-tells a e = (subst (AnswerSays (Few most FoundOn) (Few most RefusalOn)) e (tells most (λ _. NatL.le_refl _))).1.holds

  pub refused-tells : (r : RefusedPick) → pick_of solid bytes p frame reach ≡ Refused r → RefusalOn (stop_of r)
  refused-tells r e = (subst (AnswerSays (Few most FoundOn) (Few most RefusalOn)) e (tells most (λ _. NatL.le_refl _))).1.holds

  pub few-steps : steps_of (pick_of solid bytes p frame reach) ≤ nat_abs reach - 2
  unfolding found
  few-steps = go _ (pick_of solid bytes p frame reach) (tells _ (λ _. NatL.le_refl _))
    where
      go : (N : ℕ) (x : Pick) → AnswerSays (Few N FoundOn) (Few N RefusalOn) x → steps_of x ≤ nat_abs reach - 2
      go N (Accepted a) h = let k = h.1.holds.accepting.walked in rw (ap (λ (f : Found). f.steps) k.is) k.end.few_steps.most
      go N (Refused r) h = h.1.holds.few_steps.most

  pub few-looks : (N : ℕ) → (nat_abs reach ≤ 256 → 2 + length (powers (nat_abs reach)) * (6 * max (nat_abs reach) 3 - 9) ≤ N) → looks_of (pick_of solid bytes p frame reach) ≤ N
  few-looks N h = go (pick_of solid bytes p frame reach) (tells N h)
    where
      go : (x : Pick) → AnswerSays (Few N FoundOn) (Few N RefusalOn) x → looks_of x ≤ N
      go (Accepted a) h = omega (arith, h.1.few, h.2)
      go (Refused r) h = omega (arith, h.1.few, h.2)
