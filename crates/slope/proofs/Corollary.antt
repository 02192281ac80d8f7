-- Document 01's demand 3 follows from document 02's: a normal with three non-zero components has three remaining axes, and one frame.
use Rattle.std.specs.Prelude.{◌≡◌, refl, false, ℕ, ◌+◌, ◌*◌, ◌-◌, ◌≤◌, T, ℤ, pos, nat_abs, ◌≤ℤ◌}
use Rattle.std.proofs.Common.{sym, subst, ◌∙◌, arith}
use Rattle.std.proofs.Math.Path.{ap}
use Rattle.std.proofs.lemmas.Bool.{false≢true}
use Rattle.std.proofs.Math.Facts.{yes_and}
use Rattle.std.proofs.Math.ListN.{length}
use Rattle.std.specs.Int.Signed.{le_z}
use Rattle.integers.specs.Order.{parts}
use Rattle.rules.specs.declared.Vector.{Vector}
use Rattle.rules.specs.declared.Wedge.{Wedge}
use Rattle.rules.specs.declared.Levels.{Levels}
use Rattle.rules.specs.declared.Pair.{Pair}
use Rattle.rules.specs.declared.Accepted.{Accepted as AcceptedPick}
use Rattle.rules.specs.Answers.{Pick}
use Rattle.std.specs.Prelude.{Ok as Accepted, Err as Refused}
use Rattle.rules.specs.Vectors.{dot, size}
use Rattle.rules.specs.Solids.{between}
use Rattle.rules.specs.declared.Axis.{Axis}
use Rattle.rules.specs.declared.Axis.TheVariants.{Axis0 as axis0, Axis1 as axis1, Axis2 as axis2}
use Rattle.rules.specs.Walk.{first, second, way, levels, keep, only, remaining}
use Rattle.rules.specs.Lean.{is_zero, levels_of}
use Rattle.laws.specs.Parts.{part, part_of, parts-by, dot-difference}
use Rattle.laws.specs.Triples.{All, all_first, all-second}
use Rattle.laws.specs.Levels.{above_zero}
use Rattle.laws.specs.Generators.{Combines, generators, two-sides}
use Rattle.laws.specs.Frames.{signs-are, lay-lay, lay-part-zero, same-frame}
use Rattle.range.specs.Ranges.{between-yes}
use Rattle.laws.proofs.Theorems.{base-products}
use Rattle.slope.specs.Demands as Demands
use Rattle.slope.specs.Demands.{Inputs, signs_of, powers_of, pick_at, remaining_of, of_wedge, AcceptedWith}
use Rattle.slope.specs.Base as Base
use Rattle.slope.specs.Base.{Permitted, Direction, OnSlope, OnWedge, Demanded, Demand3}
use Rattle.slope.proofs.Picks.{few}
use Rattle.slope.specs.Wedges.{wedge-slope}
use Rattle.slope.proofs.Proved.{demand-3, two-picks}

-- ---- what the base assumes is what document 02 assumes
from-1 : (reach : ℤ) → T (between (pos 3) reach (pos 256)) → T (between (pos 1) reach (pos 256))
unfolding between
from-1 reach t =
    let h = between-yes (pos 3) reach (pos 256) t in
    let low : pos 1 ≤ℤ reach = omega (arith, parts, h.0) in
    yes_and (le_z (pos 1) reach) (le_z reach (pos 256)) low.le h.1.le

to-permitted : (i : Inputs) → Permitted i → Demands.Permitted i
to-permitted i p = record { permitted_reach = from-1 i.reach p.permitted_reach; permitted_frame = p.permitted_frame; permitted_solid = p.permitted_solid }

module _ (n : Vector) (i : Inputs) (d : Direction n i) where
  unlevel : (k : Axis) → is_zero (part k n) ≡ false
  unlevel k = sym (lay-part-zero (signs_of i) n (signs-are _) k) ∙ above_zero _ (part_of d.signed k)

  to-direction : Demands.Direction n i
  to-direction = record {
    signed = parts-by (λ z. pos 0 ≤ℤ z) _ (λ k. let h = part_of d.signed k in omega (arith, parts));
    not_all_zero = λ e. absurd (false≢true (sym (unlevel axis0) ∙ ap (λ (a : Vector). is_zero a.x) e));
    no_common_divisor = d.no_common_divisor;
    within_reach = d.within_reach;
  }

  levels-none : levels_of n ≡ levels false false false
  levels-none = λ i. levels (unlevel axis0 i) (unlevel axis1 i) (unlevel axis2 i)

  three : remaining_of n ≡ 3
  unfolding remaining only keep
  three = ap (λ (v : Levels). length (remaining v)) levels-none

to-slope : {n : Vector} {t : ℤ} {i : Inputs} → OnSlope n t i → Demands.OnSlope n t i
to-slope o = record { permitted = to-permitted _ o.permitted; direction = to-direction _ _ o.direction; filled_below = o.filled_below; touched = o.touched }

to-wedge : {g : ℤ} {n : Vector} {wedge : Wedge} {p : Vector} {frame reach : ℤ} → OnWedge g n wedge p frame reach → Demands.OnWedge g n wedge p frame reach
to-wedge o = record { permitted = to-permitted _ o.permitted; direction = to-direction _ _ o.direction; at_least_once = o.at_least_once; multiple = o.multiple; touched = o.touched }

-- ---- and what document 02 promises is what the base does
module _ (n : Vector) (t : ℤ) (i : Inputs) (o : OnSlope n t i) where
  abbrev d : Direction n i
  d = o.direction

  looks : (l : ℕ) → l ≤ 2 + powers_of i * (6 - remaining_of n + remaining_of n * (remaining_of n - 1) * (size n + 1 - remaining_of n)) → l ≤ 2 + powers_of i * (6 * size n - 9)
  looks l h =
      let w : 3 ≤ size n = rw (three n i d) at (few n t i (to-slope o)) in
      let e : 6 - 3 + 3 * (3 - 1) * (size n + 1 - 3) ≡ 6 * size n - 9 = omega (arith, w) in
      rw e at (rw (three n i d) at h)

  in-plane : (a : AcceptedPick) → pick_at i ≡ Accepted a → a.normal ≡ n → (side : Pair) → dot n (way a.triangle side) ≡ pos 0
  in-plane a e k side =
      let m = a.triangle in
      let products : All (λ b. dot n b ≡ pos 1) m = rw (← k) (base-products i.solid i.bytes i.start i.frame i.reach a e (λ j. ap (λ (b : Vector). is_zero (part j b)) k ∙ unlevel n i d j)) in
      rw (dot-difference n (second m side) (first m side), all_first products side, all-second products side)

  to-accepted : (a : AcceptedPick) → pick_at i ≡ Accepted a → AcceptedWith n i a → Base.AcceptedWith n i a
  to-accepted a e h = record {
    is_normal = h.is_normal;
    few_steps = rw (three n i d) at h.few_steps;
    few_looks = looks a.looks h.fewest_looks;
    sides_in_plane = in-plane a e h.is_normal;
    sides_generate = λ v k. let c = two-sides a.triangle v (subst (λ (l : Levels). Combines (generators l a.triangle) v) (levels-none n i d) (h.generated v k)) in record { c1 = c.0; c2 = c.1; is = c.2 };
  }

  to-demanded : (x : Pick) → pick_at i ≡ x → Demands.Demanded n i x → Demanded n i x
  to-demanded (Accepted a) e h = to-accepted a e h
  to-demanded (Refused r) e h = h

one-pick : (n : Vector) (t : ℤ) (i : Inputs) → OnSlope n t i → Demanded n i (pick_at i)
one-pick n t i o = to-demanded n t i o (pick_at i) refl (demand-3.one_pick n t i (to-slope o))

wedge-base : (g : ℤ) (n : Vector) (wedge : Wedge) (p : Vector) (frame reach : ℤ) → OnWedge g n wedge p frame reach → (t : ℤ) × OnSlope n t (of_wedge wedge p frame reach)
wedge-base g n wedge p frame reach o =
    let w = wedge-slope g n wedge p frame reach (to-wedge o) in
    (w.0, record { permitted = o.permitted; direction = o.direction; filled_below = w.1.filled_below; touched = o.touched })

pub base-demand-3 : Demand3
base-demand-3 = record {
  one_pick = one-pick;
  two_picks = λ n t u i j o p.
      let g = signs-are (nat_abs i.frame) in let h = signs-are (nat_abs j.frame) in
      two-picks n t u i j (to-slope o) (to-slope p) (same-frame (signs_of i) (signs_of j) _ _ g h o.direction.signed p.direction.signed (lay-lay (signs_of i) n g ∙ sym (lay-lay (signs_of j) n h))).0;
  wedge_slope = wedge-base;
  wedge_pick = λ g n wedge p frame reach o r h. let w = wedge-base g n wedge p frame reach o in rw h.is (one-pick n w.0 _ w.1);
  stack_pick = λ n t stack bytes p frame reach o r h. rw h.is (one-pick n t _ o);
}
