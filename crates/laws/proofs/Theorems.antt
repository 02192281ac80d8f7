-- What holds on every solid, wedge or stack, for every pick and every quick touch: the statements. The proofs are in the modules beside. `TwoCalls` has those on the
-- start check and the walk from a ready start.
use Rattle.std.specs.Prelude.{◌≡◌, not, List, [], ℕ, zero, suc, ◌+◌, ◌*◌, ◌-◌, ◌≤◌, max, T, length, ℤ, pos, nat_abs, ◌-ℤ◌, ◌*ℤ◌, ◌≤ℤ◌}
use Rattle.std.proofs.Math.Path.{refl, sym}
use Rattle.std.proofs.Common.{ap, subst, ◌∙◌, arith}
use Rattle.std.proofs.Math.Bool.{false}
use Rattle.std.proofs.Math.Nat as NatL
use Rattle.std.specs.Int.Signed.{lt_z}
use Rattle.integers.specs.Sizes.{Within}
use Rattle.rules.specs.declared.Vector.{Vector}
use Rattle.rules.specs.declared.Solid.{Solid}
use Rattle.rules.specs.declared.Solid.TheVariants.{Stack as IsStack}
use Rattle.rules.specs.declared.Stack.{Stack}
use Rattle.rules.specs.declared.Levels.{Levels}
use Rattle.rules.specs.declared.Triangle.{Triangle}
use Rattle.rules.specs.declared.Pair.{Pair}
use Rattle.rules.specs.declared.Pair.TheVariants.{P01, P02}
use Rattle.rules.specs.Answers.{Choice, Pick, guess}
use Rattle.std.specs.Prelude.{None as Nothing, Ok as Accepted, Err as Refused, Err as TouchRefused}
use Rattle.rules.specs.declared.Accepted.{Accepted as AcceptedPick}
use Rattle.rules.specs.declared.Refused.{Refused as RefusedPick}
use Rattle.rules.specs.Vectors.{◌⊕◌, scale, dot, lay}
use Rattle.rules.specs.Solids.{box, in_box, permitted, look}
use Rattle.rules.specs.Asked.{answered}
use Rattle.rules.specs.declared.Axis.{Axis}
use Rattle.rules.specs.declared.Axis.TheVariants.{Axis0 as axis0, Axis1 as axis1, Axis2 as axis2}
use Rattle.rules.specs.Walk.{signs, powers, unit, units, vector_of, pairs, second, way, step, levels, level, keep, only, remaining, takes_part, determinant, inside, choice, Probe, corner, laid, falling, round, walk}
use Rattle.rules.specs.Pick.{is_inside, probe, pick, pick_of}
use Rattle.rules.specs.Touch.{nearer, touch_of}
use Rattle.rules.specs.Lean.{is_zero, levels_of}
use Rattle.laws.specs.Tests.{In}
use Rattle.laws.specs.Parts.{NonNegative, Positive, part, parts-by}
use Rattle.laws.specs.Triples.{All, all-by, det_of, step-det}
use Rattle.laws.specs.Levels as Levels
use Rattle.laws.specs.Levels.{levels-of, levels-eq}
use Rattle.laws.specs.Flat.{product}
use Rattle.laws.specs.Generators.{Combines, generators, two-sides}
use Rattle.laws.specs.Tame.{units-tame}
use Rattle.laws.specs.Sphere as Sphere
use Rattle.laws.specs.Sphere.{weight}
use Rattle.laws.proofs.Choosing as Choosing
use Rattle.laws.specs.Choosing.{best}
use Rattle.laws.specs.Frames.{Signs, signs-are, lay-part-high}
use Rattle.laws.specs.Powers as Powers
use Rattle.laws.specs.Powers.{UpTo, few-looks}
use Rattle.laws.specs.Bounds.{Bounded}
use Rattle.laws.specs.Boxes as Boxes
use Rattle.laws.specs.Boxes.{outside-box, probe_on}
use Rattle.laws.specs.Next.{LevelsAnswered, Reached, NextLook}
use Rattle.laws.specs.Axes.{levels-answered}
use Rattle.laws.specs.Answered.{voxels_of}
use Rattle.laws.specs.Ended as Ended
use Rattle.laws.proofs.Ended as Ends
use Rattle.laws.specs.Ended.{Stood, EndsIfNoneFalls}
use Rattle.laws.proofs.Ended.{end-stood}
use Rattle.laws.specs.PickParts.{PickParts, pick-parts}
use Rattle.laws.specs.BothWays.{BothWays, parts-levels, levels-looked}
use Rattle.laws.proofs.BothWays.{sides-looked}
use Rattle.laws.specs.Rounds.{WalkFound}
use Rattle.laws.specs.Picks.{Accepting}
use Rattle.laws.proofs.Answers as Answers
use Rattle.laws.specs.Answers.{steps_of, looks_of, found_of, stop_of, voxels-counted, accepted-answer, found-determinant, found-signs, found-levels, found-steps, found-stays}
use Rattle.laws.proofs.Answers.{accepted-tells, refused-tells, few-steps, found-products, found-generated}
use Rattle.laws.specs.Corners as Corners
use Rattle.laws.specs.Corners.{CornerEmpty, nth}
use Rattle.laws.specs.Touches.{NextTouch}
use Rattle.laws.proofs.Touched as Touched
use Rattle.laws.specs.Touched.{unmarked}
use Rattle.laws.proofs.Stacks as Stacks

-- ---- the powers are 1, 2, 4, .. up to the first that is at least R
pub powers-reach : (R : ℕ) → UpTo R 1 (powers R)
powers-reach = Powers.powers-reach

-- ---- the triangle's determinant is 1 at the beginning, and every step keeps it
pub units-determinant : det_of units ≡ pos 1
units-determinant = units-tame.unimodular

pub step-determinant : (m : Triangle) (x : Pair) → det_of (step m x) ≡ det_of m
step-determinant = step-det

-- ---- the choice: document 01's determinant is twice a difference of weights, a pair's weight being m_l·(m_l - m_k), so strictly inside is a smaller weight
pub determinant-is : (m : Triangle) (x y : Pair) → det_of m ≡ pos 1 → determinant m x y ≡ pos 2 *ℤ (dot (second m y) (way m y) -ℤ dot (second m x) (way m x))
determinant-is = Sphere.determinant-is

pub inside-by-weight : (m : Triangle) → det_of m ≡ pos 1 → (x y : Pair) → inside m x y ≡ lt_z (weight m y) (weight m x)
inside-by-weight = Sphere.inside-by-weight

-- and a weight stays far below 2^31, with parts within 1023 (below)
pub weight-fits : (m : Triangle) → All (Bounded 1023) m → (x : Pair) → Within 6279174 (weight m x)
weight-fits = Sphere.weight-fits

-- a pair is always chosen when one falls, and no pair is inside its own sphere
pub choice-exists : (m : Triangle) → det_of m ≡ pos 1 → (falling : List Pair) → choice m falling ≡ Nothing → falling ≡ []
choice-exists = Choosing.choice-exists

pub not-inside-itself : (m : Triangle) → det_of m ≡ pos 1 → (x : Pair) → inside m x x ≡ false
not-inside-itself = Choosing.not-inside-itself

-- the best of the falling pairs, each taken where it is strictly inside the best one's sphere so far, is the choice
pub best-is-choice : (m : Triangle) → det_of m ≡ pos 1 → (falling : List Pair) → best m Nothing falling ≡ choice m falling
best-is-choice = Choosing.best-is-choice

-- ---- every triangle that a walk of the pairs ps meets has determinant 1, whatever follows
pub reached-determinant : (c : Probe) (ps : List Pair) (n : ℕ) (m : Triangle) → Reached c ps n m → det_of m ≡ pos 1
reached-determinant = Ended.reached-determinant

-- so the definition's walk ends exactly if no pair falls: where the round at such a triangle was answered and none of the pairs fell it ends there, and it ends there only so;
-- else it steps by one that fell, or refuses 9 where no step is left
pub walk_ends : (c : Probe) (ps : List Pair) (n : ℕ) (m : Triangle) → Reached c ps n m → (fell : List Pair) (voxels : List Vector) → falling c m ps ≡ answered fell voxels → (left : ℕ) → EndsIfNoneFalls c ps left n m fell voxels
walk_ends c ps n m r fell voxels e left = Ends.walk_ends c ps n m r e left

-- and a walk that ends has looked at the way of each pair of its last triangle, at every power, so at the last: each voxel there is among those looked at, and empty.
-- With a pair (k, l) the pair (l, k) takes part, so it has looked both ways
pub walk-looked : (c : Probe) (ps : List Pair) (left : ℕ) {end : Triangle × ℕ} {voxels : List Vector} → walk c ps left 0 units ≡ answered end voxels
    → (x : Pair) → In x ps → Stood c voxels (lay c.signs (way end.0 x))
walk-looked c ps left = end-stood c ps left 0 units units-determinant

-- ---- each part of every triangle vector stays within 1023: it does at the beginning, and if it does before a round that was answered, it does after a step by any pair that the round asked
pub units-within : All (Bounded 1023) units
units-within = Boxes.units-within

pub triangle-within : (solid : Solid) (bytes : List ℕ) (q s : Vector) (R : ℕ) (ps : List Pair) (m : Triangle) {y : Choice} {t : List Vector}
    → T (permitted solid bytes) → T (is_inside (look solid bytes q)) → Signs s → round (probe_on solid bytes q s R) ps m ≡ answered y t
    → All (Bounded 1023) m → (x : Pair) → In x ps → All (Bounded 1023) (step m x)
triangle-within solid bytes q s R ps m ok inside signed = Boxes.triangle-within solid bytes q s R ps m ok inside signed

-- ---- with r remaining axes r(r - 1) pairs take part
pub pairs-taking : (v : Levels) → length (only (takes_part v) pairs) ≡ length (remaining v) * (length (remaining v) - 1)
pairs-taking = Levels.pairs-taking

module _ (solid : Solid) (bytes : List ℕ) (p : Vector) (frame reach : ℤ) where
  abbrev R : ℕ
  R = nat_abs reach

  -- K, the number of powers
  abbrev K : ℕ
  K = length (powers (nat_abs reach))

  abbrev s : Vector
  s = signs (nat_abs frame)

  -- what the walk is about, from the apex q, that is p + s
  abbrev c : Probe
  c = probe (look solid bytes) p frame reach

  -- ---- at most R - 2 steps and 2 + K(6R - 9) looks, with 3 for a smaller R, refused or accepted; so at most 13,745
  pub steps-at-most : steps_of (pick_of solid bytes p frame reach) ≤ nat_abs reach - 2
  steps-at-most = few-steps solid bytes p frame reach

  pub looks-at-most : looks_of (pick_of solid bytes p frame reach) ≤ 2 + K * (6 * max (nat_abs reach) 3 - 9)
  looks-at-most = Answers.few-looks solid bytes p frame reach _ (λ _. NatL.le_refl _)

  pub looks-at-most-from-3 : 3 ≤ nat_abs reach → looks_of (pick_of solid bytes p frame reach) ≤ 2 + K * (6 * nat_abs reach - 9)
  looks-at-most-from-3 h = let e : max R 3 ≡ R = omega (arith, h) in rw e at looks-at-most

  pub looks-at-most-13745 : looks_of (pick_of solid bytes p frame reach) ≤ 13745
  looks-at-most-13745 = Answers.few-looks solid bytes p frame reach 13745 (λ h. few-looks R (max R 3) h (omega arith))

  -- the voxels that the pick looks at, in order
  abbrev pub looked_at : List Vector
  looked_at = voxels_of (pick (permitted solid bytes) (look solid bytes) p frame reach)

  pub looked-counted : looks_of (pick_of solid bytes p frame reach) ≡ length looked_at
  unfolding pick_of
  looked-counted = voxels-counted (pick (permitted solid bytes) (look solid bytes) p frame reach)

  -- u and its opposite from q: at each power the voxel there is one of those, and empty
  abbrev pub LookedBothWays : Vector → Type 0
  LookedBothWays = BothWays (probe (look solid bytes) p frame reach) looked_at

  -- each axis was asked, and v has those that are level
  abbrev pub Answered : Levels → Type 0
  Answered = LevelsAnswered (probe (look solid bytes) p frame reach)

  -- ---- an accepted pick
  module _ (a : AcceptedPick) (is : pick_of solid bytes p frame reach ≡ Accepted a) where
    abbrev accepting : Accepting (probe (look solid bytes) p frame reach) (nat_abs reach) (found_of a)
    accepting = (accepted-tells solid bytes p frame reach a is).accepting

    abbrev walked : WalkFound (probe (look solid bytes) p frame reach) (nat_abs reach) accepting.level (found_of a)
    walked = accepting.walked

    abbrev signed : Signs (signs (nat_abs frame))
    signed = signs-are (nat_abs frame)

    -- an axis is level exactly if the normal's part is 0
    pub accepted-levels : Answered (levels_of a.normal)
    accepted-levels = subst (LevelsAnswered c) (found-levels walked signed) (levels-answered c accepting.asked)

    -- the other parts have the frame's sign
    pub accepted-signs : NonNegative (lay s a.normal)
    accepted-signs = found-signs walked signed

    -- a level axis's vector stays the unit vector, laid in
    pub accepted-stays : (k : Axis) → T (level (levels_of a.normal) k) → vector_of a.triangle k ≡ lay s (unit k)
    accepted-stays = found-stays walked signed

    -- steps: at most the reach less the remaining axes
    pub accepted-steps : a.steps ≤ nat_abs reach - length (remaining (levels_of a.normal))
    accepted-steps = found-steps walked signed

    -- the triangle has determinant 1 in the frame; the normal's product is 0 with the vector of a level axis and 1 with every other
    pub accepted-determinant : det_of (laid s a.triangle) ≡ pos 1
    accepted-determinant = found-determinant walked signed

    pub accepted-products : (k : Axis) → dot a.normal (vector_of a.triangle k) ≡ product (level (levels_of a.normal) k)
    accepted-products = found-products walked signed

    -- the level vectors and the sides between the other corners generate every whole vector of the plane
    pub accepted-generated : (v : Vector) → dot a.normal v ≡ pos 0 → Combines (generators (levels_of a.normal) a.triangle) v
    accepted-generated = found-generated walked signed

    parts-here : PickParts c (nat_abs reach) (found_of a) looked_at
    unfolding pick_of
    parts-here = pick-parts _ _ p frame reach (accepted-answer (pick (permitted solid bytes) (look solid bytes) p frame reach) is)

    levels-here : parts-here.levels ≡ levels_of a.normal
    levels-here = parts-levels c parts-here accepted-levels

    -- it has looked both ways from q, at every power, so at the last: along each level axis, and along each side between two other corners
    pub level-both-ways : (k : Axis) → T (level (levels_of a.normal) k) → LookedBothWays (lay s (unit k))
    level-both-ways k l = levels-looked c parts-here k (rw levels-here l)

    pub sides-both-ways : (x : Pair) → T (takes_part (levels_of a.normal) x) → LookedBothWays (way a.triangle x)
    sides-both-ways x takes = sides-looked c parts-here.walk x (rw levels-here takes)

    -- with no level axis, as document 01 has it
    module _ (none : (k : Axis) → is_zero (part k a.normal) ≡ false) where
      unlevel : levels_of a.normal ≡ levels false false false
      unlevel = λ i. levels (none axis0 i) (none axis1 i) (none axis2 i)

      pub base-signs : Positive (lay s a.normal)
      base-signs = parts-by (λ z. pos 1 ≤ℤ z) (lay s a.normal) (λ k. lay-part-high s a.normal signed accepted-signs k (none k))

      pub base-products : All (λ m. dot a.normal m ≡ pos 1) a.triangle
      base-products = all-by (λ k. accepted-products k ∙ ap product (levels-of a.normal k ∙ none k))

      pub base-sides : (v : Vector) → dot a.normal v ≡ pos 0 → (c1 : ℤ) × (c2 : ℤ) × (v ≡ scale c1 (way a.triangle P01) ⊕ scale c2 (way a.triangle P02))
      base-sides v h = two-sides a.triangle v (subst (λ l. Combines (generators l a.triangle) v) unlevel (accepted-generated v h))

  -- ---- a refused pick that took a step had asked the axes: at most the reach less those that remain
  pub refused-steps : (r : RefusedPick) → pick_of solid bytes p frame reach ≡ Refused r → 1 ≤ r.steps → (v : Levels) × Answered v × (r.steps ≤ nat_abs reach - length (remaining v))
  refused-steps r is h = let a = (refused-tells solid bytes p frame reach r is).few_steps.asked h in (a.0, levels-answered c a.1, a.2)

  -- so with no level axis at most R - 3, refused or accepted, as document 01 has it
  pub base-steps-at-most : Answered (levels false false false) → steps_of (pick_of solid bytes p frame reach) ≤ nat_abs reach - 3
  unfolding remaining only keep
  base-steps-at-most none = go (pick_of solid bytes p frame reach) refl
    where
      same : (v : Levels) → Answered v → v ≡ levels false false false
      same v h = levels-eq (λ k. let e = sym (h k).1 ∙ (none k).1 in cc e)

      three : (n : ℕ) (v : Levels) → Answered v → n ≤ nat_abs reach - length (remaining v) → n ≤ nat_abs reach - 3
      three n v h k = subst (λ (v : Levels). n ≤ nat_abs reach - length (remaining v)) (same v h) k

      go : (x : Pick) → pick_of solid bytes p frame reach ≡ x → steps_of x ≤ nat_abs reach - 3
      go (Accepted a) is = three a.steps (levels_of a.normal) (accepted-levels a is) (accepted-steps a is)
      go (Refused r) is = refused r.steps (refused-steps r is)
        where
          refused : (n : ℕ) → (1 ≤ n → (v : Levels) × Answered v × (n ≤ nat_abs reach - length (remaining v))) → n ≤ nat_abs reach - 3
          refused zero h = omega arith
          refused (suc n) h = let a = h (omega arith) in three (suc n) a.0 a.1 a.2

  -- ---- refusal 8 is given at the voxel that was to be looked at next, and that lies outside the box
  pub refused-next : (r : RefusedPick) → pick_of solid bytes p frame reach ≡ Refused r → r.number ≡ 8 → NextLook (probe (look solid bytes) p frame reach) (stop_of r)
  refused-next r is e = (refused-tells solid bytes p frame reach r is).next e

  pub refused-outside : (r : RefusedPick) → pick_of solid bytes p frame reach ≡ Refused r → r.number ≡ 8 → T (not (in_box (box solid) r.place))
  refused-outside r is e = outside-box solid bytes r.place (refused-next r is e).outside

  -- the refusals of a pick are 1 to 10
  pub refused-number : (r : RefusedPick) → pick_of solid bytes p frame reach ≡ Refused r → (1 ≤ r.number) × (r.number ≤ 10)
  refused-number r is = (refused-tells solid bytes p frame reach r is).known

  -- ---- the quick touch, with the corner of each axis: q less its unit vector, laid in
  abbrev d : Probe
  d = nearer (probe (look solid bytes) p frame reach)

  -- where p and q lie in the box each corner does, so none gives 8
  pub corner-inside : T (is_inside (look solid bytes p)) → T (is_inside (look solid bytes d.apex)) → (k : Axis) → T (is_inside (look solid bytes (corner d (unit k))))
  corner-inside = Corners.corner-inside solid bytes p s

  -- at most R - 3 steps, and six looks for each round after the first five; all of them where it is accepted
  pub touch-steps-at-most : steps_of (unmarked (touch_of solid bytes p frame reach)) ≤ nat_abs reach - 3
  touch-steps-at-most = Touched.few-steps solid bytes p frame reach

  pub touch-looks-at-most : looks_of (unmarked (touch_of solid bytes p frame reach)) ≤ 5 + 6 * suc (steps_of (unmarked (touch_of solid bytes p frame reach)))
  touch-looks-at-most = Touched.few-looks solid bytes p frame reach

  pub touch-looks-at-most-1529 : looks_of (unmarked (touch_of solid bytes p frame reach)) ≤ 1529
  touch-looks-at-most-1529 = Touched.most-looks solid bytes p frame reach

  pub guess-looks : (a : AcceptedPick) → touch_of solid bytes p frame reach ≡ guess a → a.looks ≡ 5 + 6 * suc a.steps
  guess-looks = Touched.guess-looks solid bytes p frame reach

  module _ (r : RefusedPick) (is : touch_of solid bytes p frame reach ≡ TouchRefused r) where
    -- 1 to 11, and 7 isn't given
    pub touch-number : (1 ≤ r.number) × (r.number ≤ 11) × (r.number ≡ 7 → ⊥)
    touch-number = Touched.refused-known solid bytes p frame reach r is

    -- 8 is given at the way of a pair, from q, that was to be looked at next and lies outside the box: never at a corner
    pub touch-next : r.number ≡ 8 → NextTouch d (stop_of r)
    touch-next = Touched.refused-next solid bytes p frame reach r is

    pub touch-outside : r.number ≡ 8 → T (not (in_box (box solid) r.place))
    touch-outside e = outside-box solid bytes r.place (touch-next e).outside

    -- 11 at the lowest corner that isn't filled, after the looks at p, q and the corners up to it
    pub touch-corner : r.number ≡ 11 → (h : CornerEmpty d (stop_of r)) × (r.looks ≡ 2 + nth h.axis)
    touch-corner = Touched.refused-corner solid bytes p frame reach r is

-- ---- on a stack no pick of a reach above 64 is accepted
pub stack-reach : (stack : Stack) (bytes : List ℕ) (p : Vector) (frame reach : ℤ) (a : AcceptedPick) → pick_of (IsStack stack) bytes p frame reach ≡ Accepted a → reach ≤ℤ pos 64
stack-reach = Stacks.stack-reach
