-- A pick on a slope is the ideal walk of its normal, laid in, or it is refused with 8 at the voxel that was to be looked at next. An axis is level exactly if n has no
-- part along it. The heights of the remaining axes end equal, so the normal found is n (it has no common divisor), and no refusal 10 is left; refusal 7 would need a part against the frame.
use Rattle.std.proofs.Math.Path.{◌≡◌, refl, sym}
use Rattle.std.proofs.Common.{ap, subst, ◌∙◌, arith, T_not, le→leb, length-append}
use Rattle.std.specs.Prelude.{Bool, true, false, not, List, ◌∷◌, ◌++◌, ℕ, zero, suc, ◌+◌, ◌*◌, ◌-◌, ◌≤◌, T, leb, length, ℤ, pos, negsuc, neg_ℤ, nat_abs, ◌+ℤ◌, ◌≤ℤ◌, ◌<ℤ◌}
use Rattle.std.proofs.lemmas.Bool.{false≢true}
use Rattle.std.specs.Int.Signed.{lt_z, lt_z_yes, lt_z_no}
use Rattle.integers.specs.Order.{parts, linear, atom, goal, fact}
use Rattle.rules.specs.declared.Vector.{Vector}
use Rattle.rules.specs.declared.Look.{Look}
use Rattle.rules.specs.declared.Look.TheVariants.{Filled, Empty}
use Rattle.rules.specs.declared.Levels.{Levels}
use Rattle.rules.specs.declared.Triangle.{Triangle}
use Rattle.rules.specs.Vectors.{minus, dot, cross, det, lay, size}
use Rattle.rules.specs.Solids.{between, permitted, look}
use Rattle.rules.specs.declared.Axis.{Axis}
use Rattle.rules.specs.declared.Axis.TheVariants.{Axis0 as axis0, Axis1 as axis1, Axis2 as axis2}
use Rattle.rules.specs.Walk.{Stop, stop, powers, unit, units, pairs, level, all_level, only, remaining, takes_part, levelled, normal, Probe, at_powers, axes, rounds, found}
use Rattle.rules.specs.Pick.{is_inside, pick}
use Rattle.rules.specs.Lean.{is_zero, levels_of}
use Rattle.laws.specs.Tests.{is_true, is_false, is-not, not-less}
use Rattle.laws.specs.Parts.{part, part_of, part-origin, vector-by-parts, dot-minus, dot-unit}
use Rattle.laws.specs.Levels.{remains, remaining-count, at-most-3, pairs-taking, is-zero, not-zero, levels-of, levels-eq, all-level, lowest}
use Rattle.laws.specs.Flat.{units-flat, raise, raised, Lies}
use Rattle.laws.specs.Frames.{Signs, signs-are, lay-lay, lay-scale, dot-apex, lay-size, sum-size, lay-part-zero}
use Rattle.laws.specs.Says.{Says, Few, says-weaker}
use Rattle.laws.specs.Looks.{Fell, StoppedOf}
use Rattle.laws.specs.Next.{LevelsAnswered, Reached}
use Rattle.laws.specs.Axes.{FellAlong, AxisOf, AxesOf, levels-answered, AxisRule}
use Rattle.laws.proofs.Axes.{axes-says}
use Rattle.laws.specs.Powers.{powers-reach, up-to-reaches, looks-add-up}
use Rattle.laws.specs.Walks.{walk-says}
use Rattle.laws.specs.Boxes.{look-as}
use Rattle.laws.specs.PickRule.{InputRule, PickRule, pick-by-rule}
use Rattle.range.specs.Ranges.{between-naturals}
use Rattle.slope.specs.Demands.{Inputs, signs_of, probe_at, powers_of, remaining_of, OnSlope}
use Rattle.slope.specs.Falls.{Near, fell-is}
use Rattle.slope.specs.Ideal.{Upright, heights, Even, ideal-even, ideal_of}
use Rattle.slope.specs.Ends.{at-least-1, multiple, is_normal}
use Rattle.slope.specs.Rounds.{Edge, edge-sideways, slope-walk}

-- ---- numbers
-- minus a part that is not below 0 is below 0 exactly if it is not 0
downward : (z : ℤ) → pos 0 ≤ℤ z → lt_z (neg_ℤ z) (pos 0) ≡ not (is_zero z)
downward (pos zero) h = refl
downward (pos (suc k)) h = refl
downward (negsuc k) h = absurd h.le

not_same : (a b : Bool) → not a ≡ not b → a ≡ b
not_same true true e = refl
not_same true false e = absurd (false≢true e)
not_same false true e = absurd (false≢true (sym e))
not_same false false e = refl

-- one part of the raised normal
raise-high : (b : Bool) (z : ℤ) → (T (not b) → pos 1 ≤ℤ z) → pos 1 ≤ℤ raise b z
raise-high true z h = omega (arith, parts)
raise-high false z h = h tt

raise-sum : (b : Bool) (z : ℤ) → (T b → z ≡ pos 0) → raise b z +ℤ pos (remains b) ≡ z +ℤ pos 1
raise-sum true z h = rw (h tt)
raise-sum false z h = refl

remains-most : (b : Bool) (z : ℤ) → (T (not b) → pos 1 ≤ℤ z) → pos 0 ≤ℤ z → pos (remains b) ≤ℤ z
remains-most true z h k = k
remains-most false z h k = h tt

-- ---- the pick
module _ (n : Vector) (t : ℤ) (i : Inputs) (o : OnSlope n t i) where
  abbrev s : Vector
  s = signs_of i

  abbrev c : Probe
  c = probe_at i

  abbrev R : ℕ
  R = nat_abs i.reach

  abbrev K : ℕ
  K = length (powers (nat_abs i.reach))

  abbrev w : ℕ
  w = size n

  abbrev look_of : Vector → Look
  look_of = look i.solid i.bytes

  -- the level axes, and how many remain
  abbrev v : Levels
  v = levels_of n

  abbrev r : ℕ
  r = remaining_of n

  -- the normal in the frame, with 1 along the level axes, and the end of its ideal walk
  abbrev N : Vector
  N = lay (signs_of i) n

  abbrev H : Vector
  H = raised (levels_of n) (lay (signs_of i) n)

  abbrev pub ideally : Triangle × ℕ
  ideally = ideal_of (signs_of i) n

  g : Signs s
  g = signs-are _

  pub upward : (k : Axis) → pos 0 ≤ℤ part k (lay (signs_of i) n)
  upward k = part_of o.direction.signed k

  pub level-is : (k : Axis) → level (levels_of n) k ≡ is_zero (part k (lay (signs_of i) n))
  level-is k = levels-of n k ∙ sym (lay-part-zero s n g k)

  lies : Lies v N
  lies k h = is-zero (part k N) (sym (level-is k) ∙ is_true (level v k) h)

  high : (k : Axis) → T (not (level v k)) → pos 1 ≤ℤ part k N
  high k h = not-zero (part k N) (sym (level-is k) ∙ is-not (level v k) h) (upward k)

  -- some axis remains, since n is not all zero
  pub some : T (not (all_level (levels_of n)))
  some = rw (is_false (all_level v) (λ a. o.direction.not_all_zero (vector-by-parts (λ k. is-zero (part k n) (sym (levels-of n k) ∙ is_true (level v k) (all-level v a k)) ∙ sym (part-origin k))))) tt

  sum : N.x +ℤ N.y +ℤ N.z ≡ pos w
  sum = sum-size N o.direction.signed ∙ ap pos (lay-size s n g)

  pub few : remaining_of n ≤ size n
  few =
      let a = atom N.x in let b = atom N.y in let c = atom N.z in
      omega (arith, parts, fact (search linear) sum, remaining-count v, remains-most v.x N.x (high axis0) (upward axis0), remains-most v.y N.y (high axis1) (upward axis1), remains-most v.z N.z (high axis2) (upward axis2))

  fits : w ≤ R
  fits = omega (arith, parts, o.direction.within_reach, (between-naturals 1 256 i.reach o.permitted.permitted_reach).2)

  pub below : (v : Vector) → look i.solid i.bytes v ≡ Filled → dot n v <ℤ t
  below v e = let f = look-as i.solid i.bytes v true e in lt_z_yes (rw (sym (o.filled_below v f.0) ∙ f.1) tt)

  pub above : (v : Vector) → look i.solid i.bytes v ≡ Empty → t ≤ℤ dot n v
  above v e = let f = look-as i.solid i.bytes v false e in lt_z_no (rw (sym (o.filled_below v f.0) ∙ f.1) tt)

  near : Near c n t R
  near = record {
    below = below;
    above = above;
    low = above c.apex o.touched.apex_empty;
    high = rw (dot-apex s n i.start, sum) (let a = atom (dot n i.start) in let b = atom t in goal (search linear) (omega (arith, parts, below i.start o.touched.start_filled, fits)));
    reaches = up-to-reaches R 1 (powers R) (powers-reach R);
  }

  -- ---- the beginning
  upright : Upright H v units
  unfolding det dot cross raised
  upright = record {
    unimodular = refl;
    high = record { of0 = rw (dot-unit H axis0) (raise-high v.x N.x (high axis0)); of1 = rw (dot-unit H axis1) (raise-high v.y N.y (high axis1)); of2 = rw (dot-unit H axis2) (raise-high v.z N.z (high axis2)) };
    flat = units-flat v;
  }

  begin : heights H v units ≤ℤ pos (3 + (w - r))
  unfolding raised
  begin =
      rw (dot-unit H axis0, dot-unit H axis1, dot-unit H axis2)
      (let a = atom N.x in let b = atom N.y in let c = atom N.z in let d = atom (raise v.x N.x) in let e = atom (raise v.y N.y) in let f = atom (raise v.z N.z) in
      goal (search linear) (omega (arith, parts, few, remaining-count v, fact (search linear) sum, fact (search linear) (raise-sum v.x N.x (lies axis0)), fact (search linear) (raise-sum v.y N.y (lies axis1)), fact (search linear) (raise-sum v.z N.z (lies axis2)))))

  pub end-even : Even H v ideally.0
  end-even = ideal-even H v (w - r) 0 units upright begin

  -- ---- the end
  pub end-normal : lay s (levelled v (normal ideally.0)) ≡ n
  end-normal =
      let low = lowest v some in let k = low.0 in
      let N-multiple = multiple N v lies ideally.0 end-even k low.1 in
      let n-multiple = sym (lay-lay s n g) ∙ ap (lay s) N-multiple ∙ lay-scale s _ _ in
      let one = o.direction.no_common_divisor _ _ (at-least-1 N v lies ideally.0 end-even k low.1) n-multiple in
      ap (lay s) (is_normal N v lies ideally.0 end-even k low.1 one) ∙ lay-lay s n g

  pub end_fits : T (leb (size (levelled (levels_of n) (normal ideally.0))) (nat_abs i.reach))
  end_fits = rw (← lay-size s (levelled v (normal ideally.0)) g, end-normal) (le→leb w R fits)

  -- ---- the rounds, at any powers that reach the plane; F holds of refusal 8
  pub rounds-ideal : (ls : List ℕ) (far : ℕ) → Near (at_powers ls (probe_at i)) n t far → {F : Stop → Type 0}
      → ((k : ℕ) (m : Triangle) (p : Vector) → Reached (at_powers ls (probe_at i)) (only (takes_part (levels_of n)) pairs) k m
      → StoppedOf (at_powers ls (probe_at i)) m (only (takes_part (levels_of n)) pairs) p → F (stop 8 p k))
      → Says (Few (suc (size n - remaining_of n) * (length (only (takes_part (levels_of n)) pairs) * length ls)) (λ e. e ≡ ideally)) (λ e l. F e) (rounds (at_powers ls (probe_at i)) (nat_abs i.reach) (levels_of n))
  unfolding rounds
  rounds-ideal ls far close beyond =
      says-weaker _ (λ e l h. h) (λ e l h. h.holds)
      (walk-says _ (only (takes_part v) pairs) (slope-walk close v lies beyond ideally) (R - r) (w - r) 0 units
      (record { enough = omega (arith, fits); upright = upright; lower = begin; same = refl; reached = refl }))

  -- ---- the axes: each is level exactly if n has no part along it
  minus-fell : (k : Axis) (b : Bool) → Fell c (minus (unit k)) b → b ≡ not (level v k)
  minus-fell k b f = fell-is near (minus (unit k)) b f ∙ ap (λ z. lt_z z (pos 0)) (dot-minus N (unit k) ∙ ap neg_ℤ (dot-unit N k)) ∙ downward (part k N) (upward k) ∙ ap not (sym (level-is k))

  no-opposite : (k : Axis) → Fell c (unit k) true → ⊥
  no-opposite k f = false≢true (sym (not-less (part k N) (pos 0) (upward k)) ∙ sym (fell-is near (unit k) true f ∙ ap (λ z. lt_z z (pos 0)) (dot-unit N k)))

  axis-is : (k : Axis) (b : Bool) → FellAlong c (unit k) b → b ≡ level v k
  axis-is k true f = not_same true (level v k) (minus-fell k false f.0)
  axis-is k false f = not_same false (level v k) (minus-fell k true f)

  levels-are : (a : Levels) → AxesOf c a → a ≡ v
  levels-are a h = levels-eq (λ k. axis-is k (level a k) (h.axis k).fell)

  abbrev EdgeHere : Stop → Type 0
  EdgeHere = Edge c

  axis-rule : (k : Axis) → AxisRule c EdgeHere k
  axis-rule k = record { eight = λ p h. record { is_eight = refl; next = h }; seven = λ _ f. absurd (no-opposite k f) }

  not-all : ((k : Axis) → AxisOf c (unit k) true) → ⊥
  not-all h = let low = lowest v some in T_not (level v low.0) low.1 (rw (← axis-is low.0 true (h low.0).fell) tt)

  -- ---- the pick, by its rule
  abbrev pub fewest : ℕ
  fewest = 2 + powers_of i * (6 - remaining_of n + remaining_of n * (remaining_of n - 1) * (size n + 1 - remaining_of n))

  -- the most looks of the rounds
  abbrev M : ℕ
  M = suc (w - r) * (length (only (takes_part v) pairs) * K)

  all-few : (l k : ℕ) → l + r * K ≤ 2 + 6 * K → k ≤ M → l + k ≤ fewest
  all-few l k h j =
      let e : w + 1 - r ≡ suc (w - r) = omega (arith, few) in
      rw (e, ← pairs-taking v) (looks-add-up K r (length (only (takes_part v) pairs)) (w - r) l k (at-most-3 v) h j)

  abbrev Level : Levels → List Vector → Type 0
  Level a l = (a ≡ v) × LevelsAnswered c v × (length l + r * K ≤ 2 + 6 * K)

  abbrev Ended : Levels → Triangle × ℕ → List Vector → Type 0
  Ended a e l = (a ≡ v) × Few fewest (λ e. e ≡ ideally) e l

  levels-say : (a : Levels) (l : List Vector) → AxesOf c a → length l + length (remaining a) * K ≤ 6 * K → Level a (i.start ∷ c.apex ∷ l)
  levels-say a l h k =
      let e = levels-are a h in
      let j = subst (λ (b : Levels). length l + length (remaining b) * K ≤ 6 * K) e k in
      (e, subst (LevelsAnswered c) e (levels-answered c h), omega (arith, j))

  rounds-say : LevelsAnswered c v → Says (Few M (λ e. e ≡ ideally)) (λ e l. EdgeHere e) (rounds c R v)
  rounds-say asked = rounds-ideal (powers R) R near (edge-sideways v asked)

  rounds-of : (a : Levels) (l : List Vector) → Level a l → Says (λ e k. Ended a e (l ++ k)) (λ e k. EdgeHere e) (rounds c R a)
  rounds-of a l h = rw h.0 (says-weaker _ (λ e k j. (refl, record { holds = j.holds; few = rw (length-append l k) (all-few (length l) (length k) h.2 j.few) })) (λ e k j. j) (rounds-say h.1))

  same-found : {a : Levels} {e : Triangle × ℕ} → a ≡ v → e ≡ ideally → found c a e ≡ found c v ideally
  same-found h k = λ j. found c (h j) (k j)

  -- none of the refusals 1 to 6
  pub good-inputs : {Stops : Stop → List Vector → Type 0} → InputRule (permitted i.solid i.bytes) (look i.solid i.bytes) i.start i.frame i.reach Stops
  unfolding is_inside
  good-inputs = record {
    judged = record {
      one = λ z. absurd (T_not (between (pos 1) i.reach (pos 256)) z o.permitted.permitted_reach);
      two = λ z. absurd (T_not (between (pos 0) i.frame (pos 7)) z o.permitted.permitted_frame);
      three = λ z. absurd (T_not (permitted i.solid i.bytes) z o.permitted.permitted_solid);
      four_start = λ z. absurd (T_not (is_inside (look_of i.start)) z (rw o.touched.start_filled tt));
      four_apex = λ z. absurd (T_not (is_inside (look_of c.apex)) z (rw o.touched.apex_empty tt));
    };
    five = λ _ e. absurd (let k = sym e ∙ o.touched.start_filled in let z : ◌≡◌ {A = ℕ} 0 1 = cc in omega arith);
    six = λ _ _ e. absurd (let k = sym e ∙ o.touched.apex_empty in let z : ◌≡◌ {A = ℕ} 0 1 = cc in omega arith);
  }

  slope-pick : PickRule (permitted i.solid i.bytes) look_of i.start i.frame i.reach (powers R) (axes c) Level Ended (Few fewest (λ f. f ≡ found c v ideally)) (λ e l. EdgeHere e)
  slope-pick = record {
    started = record {
      inputs = good-inputs;
      begin_says = λ _. says-weaker _ (λ a l h. levels-say a l h.0 h.1) (λ e l h. h.holds) (axes-says c axis-rule (λ h. absurd (not-all h)));
    };
    ended = λ _ a. record {
      rounds_say = rounds-of a;
      ten = λ e l h z. absurd (T_not (leb (size (levelled a (normal e.0))) R) z (rw (h.0, h.1.holds) end_fits));
      ends = λ e l h z. record { holds = same-found h.0 h.1.holds; few = h.1.few };
    };
  }

  pub pick-says : Says (Few fewest (λ f. f ≡ found c v ideally)) (λ e l. EdgeHere e) (pick (permitted i.solid i.bytes) look_of i.start i.frame i.reach)
  pick-says = pick-by-rule _ _ _ _ _ slope-pick
