-- Every accepted answer, of a pick or of a walk from any ready start, is a face and can be measured: no vector of its triangle has a part beyond 1023, for every step is by a pair that a round asked,
-- and its normal's sizes add up to at most the reach.
use Rattle.std.proofs.Math.Path.{◌≡◌, subst}
use Rattle.std.specs.Prelude.{refl, Bool, true, false, not, T, leb, ℤ, nat_abs}
use Rattle.std.proofs.Common.{ap, ◌∙◌, inr, arith, le→leb}
use mathlib.Core.List.{List, []}
use Prim.Native.Nat.{ℕ, zero, suc, ◌-◌, ◌≤◌}
use Rattle.std.proofs.Math.ListN.{length}
use Rattle.std.proofs.Math.Facts.{yes_and}
use Rattle.range.specs.Ranges.{between-naturals}
use Rattle.integers.specs.Sizes.{Within}
use Rattle.rules.specs.declared.Vector.{Vector}
use Rattle.rules.specs.declared.Solid.{Solid}
use Rattle.rules.specs.declared.Levels.{Levels}
use Rattle.rules.specs.declared.Triangle.{Triangle}
use Rattle.rules.specs.declared.Pair.{Pair}
use Rattle.rules.specs.Answers.{Choice}
use Rattle.std.specs.Prelude.{None as Nothing, Some as Chosen, Ok as Accepted}
use Rattle.rules.specs.declared.ReadyStart.{ReadyStart}
use Rattle.rules.specs.declared.Accepted.{Accepted as AcceptedPick}
use Rattle.rules.specs.Vectors.{lay, size}
use Rattle.rules.specs.Solids.{permitted, look}
use Rattle.rules.specs.Asked.{Asked, answered, refused}
use Rattle.rules.specs.Walk.{Stop, stop, asked, signs, units, vector_of, pairs, step, normal, all_level, only, remaining, takes_part, levelled, Probe, Found, found, round, walk, rounds}
use Rattle.rules.specs.Pick.{is_inside, probe, check, pick, pick_of}
use Rattle.rules.specs.TwoCalls.{walk_on, walk_of}
use Rattle.rules.specs.Lean.{levels_of, within, measurable}
use Rattle.laws.specs.Triples.{All, all-by, all_of}
use Rattle.laws.specs.Bounds.{Bounded, bounded-is}
use Rattle.laws.specs.Boxes.{units-within, probe_on, chosen-within}
use Rattle.laws.specs.Frames.{Signs, signs-are, sign-size, lay-size}
use Rattle.laws.specs.Says.{says-answered}
use Rattle.laws.specs.Answered.{both-answered, asked-answered, voxels_of}
use Rattle.laws.specs.PickRule.{Faced}
use Rattle.laws.specs.PickParts.{WalkPart, walk-part, pick-parts}
use Rattle.laws.specs.Rounds.{WalkFound}
use Rattle.laws.specs.Picks.{Accepting}
use Rattle.laws.proofs.Checks.{check-says}
use Rattle.laws.specs.Answers.{laid_of, found_of, accepted-answer}
use Rattle.laws.proofs.Answers.{accepted-tells}
use Rattle.laws.specs.Handed.{accepted-walk}
use Rattle.laws.proofs.Handed.{walk-accepted, thirteen-when}
use Rattle.planes.specs.Turn.{Face}
use Rattle.planes.specs.Faces.{found-face}

-- ---- the end of a walk
module _ (solid : Solid) (bytes : List ℕ) (q s : Vector) (R : ℕ) (ok : T (permitted solid bytes)) (inside : T (is_inside (look solid bytes q))) (signed : Signs s) where
  abbrev c : Probe
  c = probe_on solid bytes q s R

  abbrev Fit : Triangle → Type 0
  Fit = All (Bounded 1023)

  end-within : (ps : List Pair) (left n : ℕ) (m : Triangle) {e : Triangle × ℕ} {t : List Vector} → walk c ps left n m ≡ answered e t → Fit m → Fit e.0
  unfolding walk
  end-within ps zero n m {e} w h =
      let b = both-answered (asked n (round c ps m)) _ w in
      go b.answer b.second
    where
      go : (y : Choice) {u : List Vector} → ◌≡◌ {A = Asked Stop (Triangle × ℕ)} (elim y [ Nothing ↦ answered (m, n) [] | Chosen x ↦ refused (stop 9 q n) [] ]) (answered e u) → Fit e.0
      go Nothing k = let is : (m, n) ≡ e = cc in subst (λ (e : Triangle × ℕ). Fit e.0) is h
      go (Chosen x) k = absurd (let z : ◌≡◌ {A = ℕ} 0 1 = cc in omega arith)
  end-within ps (suc left) n m {e} w h =
      let b = both-answered (asked n (round c ps m)) _ w in
      go b.answer (asked-answered n _ b.first) b.second (λ x u k. end-within ps left (suc n) (step m x) k)
    where
      go : (y : Choice) {f u : List Vector} → round c ps m ≡ answered y f → ◌≡◌ {A = Asked Stop (Triangle × ℕ)} (elim y [ Nothing ↦ answered (m, n) [] | Chosen x ↦ walk c ps left (suc n) (step m x) ]) (answered e u)
          → ((x : Pair) (u : List Vector) → walk c ps left (suc n) (step m x) ≡ answered e u → Fit (step m x) → Fit e.0) → Fit e.0
      go Nothing a k later = let is : (m, n) ≡ e = cc in subst (λ (e : Triangle × ℕ). Fit e.0) is h
      go (Chosen x) a k later = later x _ k (chosen-within solid bytes q s R ps m ok inside signed x a h)

  laid-within : (a : Vector) → Bounded 1023 a → Bounded 1023 (lay s a)
  unfolding lay
  laid-within a h = record {
    in-x = record { size = rw (sign-size s.x a.x signed.of_x) h.in-x.size };
    in-y = record { size = rw (sign-size s.y a.y signed.of_y) h.in-y.size };
    in-z = record { size = rw (sign-size s.z a.z signed.of_z) h.in-z.size };
  }

  pub found_within : {v : Levels} {f : Found} {t : List Vector} → WalkPart (probe_on solid bytes q s R) R v f t → All (Bounded 1023) f.triangle
  unfolding rounds found
  found_within {v} {f} h =
      let fits = end-within (only (takes_part v) pairs) (R - length (remaining v)) 0 units h.walked units-within in
      all-by (λ k. bounded-is (ap (λ (f : Found). vector_of f.triangle k) h.is ∙ laid_of s h.end.0 k) (laid-within (vector_of h.end.0 k) (all_of fits k)))

-- ---- so it can be measured
part-within : {n k : ℕ} {z : ℤ} → Within n z → n ≤ k → T (leb (nat_abs z) k)
part-within {n} {k} {z} h l = le→leb (nat_abs z) k (omega (arith, h.size))

vector-within : (n k : ℕ) (a : Vector) → Bounded n a → n ≤ k → T (within k a)
unfolding within
vector-within n k a h l = yes_and (leb (nat_abs a.x) k) _ (part-within h.in-x l) (yes_and (leb (nat_abs a.y) k) _ (part-within h.in-y l) (part-within h.in-z l))

normal-within : (a : Vector) → size a ≤ 256 → T (within 256 a)
unfolding size
normal-within a h = vector-within 256 256 a (record { in-x = record { size = omega (arith, h) }; in-y = record { size = omega (arith, h) }; in-z = record { size = omega (arith, h) } }) (omega arith)

-- sizes of what was found add up to at most the reach
found-size : {c : Probe} {R : ℕ} {v : Levels} {f : Found} → WalkFound c R v f → Signs c.signs → size f.normal ≤ R
unfolding found
found-size {c} {v = v} h g = rw (ap (λ (f : Found). f.normal) h.is, lay-size c.signs (levelled v (normal h.at.0)) g) h.fits

corner-within : {a : Vector} → Bounded 1023 a → T (within 2046 a)
corner-within {a} h = vector-within 1023 2046 a h (omega arith)

measured : (a : AcceptedPick) {s : Vector} → size a.normal ≤ 256 → All (Bounded 1023) a.triangle → Face s (levels_of a.normal) a.normal a.triangle → T (measurable a)
unfolding measurable
measured a few fits f =
    yes_and (within 256 a.normal) _ (normal-within a.normal few)
    (yes_and (within 2046 a.triangle.m0) _ (corner-within fits.of0)
    (yes_and (within 2046 a.triangle.m1) _ (corner-within fits.of1)
    (yes_and (within 2046 a.triangle.m2) _ (corner-within fits.of2) f.some)))

-- ---- of a pick
module _ (solid : Solid) (bytes : List ℕ) (p : Vector) (frame reach : ℤ) (a : AcceptedPick) (is : pick_of solid bytes p frame reach ≡ Accepted a) where
  picked : pick (permitted solid bytes) (look solid bytes) p frame reach ≡ answered (found_of a) (voxels_of (pick (permitted solid bytes) (look solid bytes) p frame reach))
  unfolding pick_of
  picked = accepted-answer (pick (permitted solid bytes) (look solid bytes) p frame reach) is

  -- its start is filled and its apex empty
  pub accepted-faced : Faced (permitted solid bytes) (look solid bytes) p frame reach
  unfolding pick
  accepted-faced =
      let b = both-answered (check (permitted solid bytes) (look solid bytes) p frame reach) _ picked in
      (says-answered (check-says (permitted solid bytes) (look solid bytes) p frame reach) b.first).faced

  abbrev accepting : Accepting (probe (look solid bytes) p frame reach) (nat_abs reach) (found_of a)
  accepting = (accepted-tells solid bytes p frame reach a is).accepting

  pub accepted-face : Face (signs (nat_abs frame)) (levels_of a.normal) a.normal a.triangle
  accepted-face = found-face accepting.walked (signs-are (nat_abs frame)) accepting.asked.some

  pub accepted-measurable : T (measurable a)
  accepted-measurable =
      let g = signs-are (nat_abs frame) in let passed = accepted-faced.passed in
      measured a (omega (arith, found-size accepting.walked g, (between-naturals 1 256 reach passed.permitted_reach).1))
      (found_within solid bytes _ _ (nat_abs reach) passed.permitted_solid passed.apex_inside g (pick-parts _ _ p frame reach picked).walk)
      accepted-face

-- ---- of a walk from any ready start
module _ (solid : Solid) (bytes : List ℕ) (d : ReadyStart) (frame reach : ℤ) (a : AcceptedPick) (is : walk_of solid bytes d frame reach ≡ Accepted a) where
  walked : walk_on (look solid bytes) d frame reach ≡ answered (found_of a) (voxels_of (walk_on (look solid bytes) d frame reach))
  unfolding walk_of
  walked = (accepted-walk d.looks _ (walk_on (look solid bytes) d frame reach) is).0

  -- with all three axes level it would have been refused with 13
  pub not-all-level : T (not (all_level d.level))
  not-all-level = go (all_level d.level) refl
    where
      go : (b : Bool) → all_level d.level ≡ b → T (not b)
      go true e = let r = thirteen-when solid bytes d frame reach (walk-accepted solid bytes d frame reach a is).0 (inr (rw e tt)) in absurd (let z : ◌≡◌ {A = ℕ} 0 1 = cc in omega arith)
      go false e = tt

  pub walk-face : Face (signs (nat_abs frame)) (levels_of a.normal) a.normal a.triangle
  walk-face = let h = walk-accepted solid bytes d frame reach a is in found-face h.1 (signs-are (nat_abs frame)) not-all-level

  pub walk-measurable : T (measurable a)
  unfolding walk_on
  walk-measurable =
      let h = walk-accepted solid bytes d frame reach a is in let g = signs-are (nat_abs frame) in let passed = h.0 in
      measured a (omega (arith, found-size h.1 g, (between-naturals 1 256 reach passed.permitted_reach).1))
      (found_within solid bytes d.apex _ (nat_abs reach) passed.permitted_solid passed.apex_inside g (walk-part _ (nat_abs reach) d.level walked))
      walk-face
