-- Demand 3 is not empty: W1, W2, W6, W7, W8, a stack, and wedges that take all the looks allowed. What is assumed of them is proved, the answers are evaluated.
use Rattle.std.specs.Prelude.{◌≡◌, refl, Bool, true, false, ◌&&◌, [], ◌∷◌, ℕ, zero, suc, ◌*◌, ◌<◌, T, leb, ℤ, pos, negsuc, nat_abs, ◌-ℤ◌, ◌*ℤ◌, ◌≤ℤ◌}
use Rattle.std.proofs.Common.{sym, ap, subst, ◌∙◌, arith, leb→le}
use Rattle.std.specs.Bool.{beq}
use Rattle.std.proofs.Math.Nat as NatL
use Rattle.std.proofs.Math.Dec.{nleb→lt}
use Rattle.std.proofs.Math.Facts.{and_yes}
use Rattle.std.specs.Int.Signed.{le_z, le_z_yes, lt_z, lt_z_yes}
use Rattle.integers.specs.Order.{parts}
use Rattle.integers.specs.Sizes.{product-size}
use Rattle.integers.specs.Reify.{byring, sides}
use Rattle.rules.specs.declared.Vector.{Vector}
use Rattle.rules.specs.declared.Wedge.{Wedge}
use Rattle.rules.specs.declared.Solid.TheVariants.{Wedge as IsWedge, Stack as IsStack}
use Rattle.rules.specs.declared.Look.TheVariants.{Filled, Empty}
use Rattle.rules.specs.declared.Triangle.{Triangle}
use Rattle.rules.specs.declared.Accepted.{Accepted as AcceptedPick}
use Rattle.rules.specs.declared.Refused.{Refused as RefusedPick}
use Rattle.rules.specs.Answers.{Pick}
use Rattle.std.specs.Prelude.{Ok as Accepted, Err as Refused}
use Rattle.rules.specs.Vectors.{vector, ◌⊕◌, ◌⊖◌, minus, scale, dot, cross, det, sphere, lay, size, origin, unit0, unit2}
use Rattle.rules.specs.Solids.{between, permitted_wedge, filled_wedge, box, in_box, filled, look, row_bytes, slice_bytes, stack_bytes, permitted_stack, voxel, filled_stack}
use Rattle.rules.specs.Asked.{after, ◌>>=◌}
use Rattle.rules.specs.Walk.{ensure, sign, signs, seen, asked, powers_from, powers, normal, all_level, keep, only, remaining, takes_part, levelled, determinant, inside, any_inside, first_free, choice, look_at, falls_at, facing, is_level, axes, start, falling, round as round_of, walk, rounds, found, end}
use Rattle.rules.specs.Pick.{is_inside, placing, judging, check, pick, answer, pick_of}
use Rattle.laws.specs.Parts.{scale-dot, vector-eq}
use Rattle.laws.specs.Ranges.{Between}
use Rattle.laws.specs.Boxes.{in-cube}
use Rattle.slope.specs.Stair.{stair, row, rows, slices, stair_bytes}
use Rattle.slope.specs.Demands.{Inputs, signs_of, pick_at, OnSlope, OnWedge, of_stack, at, line, Accepts, Refuses, NotEmpty}
use Rattle.slope.specs.Base as Base
use Rattle.slope.specs.Wedges.{multiple-slope}

-- ---- a vector of which a whole combination of the components is 1 has no common divisor
factor-of-one : (k y : ℕ) → k * y ≡ 1 → k ≡ 1
factor-of-one zero y e = absurd (omega arith)
factor-of-one (suc k) zero e = absurd (omega arith)
factor-of-one (suc k) (suc y) e = omega (arith, NatL.mul-suc (suc k) y)

origin-dot : (w : Vector) → dot origin w ≡ pos 0
unfolding dot
origin-dot w = byring (w.x ∷ w.y ∷ w.z ∷ []) (search sides depth 40 fits 5000) tt

module _ (n w : Vector) (one : dot n w ≡ pos 1) where
  no-divisor : (d : ℤ) (u : Vector) → pos 0 ≤ℤ d → n ≡ scale d u → d ≡ pos 1
  no-divisor (pos j) u h e = ap pos (factor-of-one j (nat_abs (dot u w)) (sym (product-size (pos j) (dot u w)) ∙ ap nat_abs (sym (scale-dot u w (pos j)) ∙ ap (λ (a : Vector). dot a w) (sym e) ∙ one)))
  no-divisor (negsuc j) u h e = absurd h.le

  not-all-zero : n ≡ origin → ⊥
  not-all-zero e = let z : pos 0 ≡ pos 1 = sym (origin-dot w) ∙ ap (λ (a : Vector). dot a w) (sym e) ∙ one in omega (arith, parts)

-- ---- the outcome of a pick
pub data Outcome : Type 0 where
  N : Vector → ℕ → ℕ → Outcome
  R : ℕ → Outcome

unfoldable pub outcome : Pick → Outcome
outcome (Accepted a) = N a.normal a.steps a.looks
outcome (Refused r) = R r.number

-- which tells the answer
pub accepted-as : (x : Pick) {n : Vector} {steps looks : ℕ} → outcome x ≡ N n steps looks → (a : AcceptedPick) × (x ≡ Accepted a) × (a.normal ≡ n) × (a.steps ≡ steps) × (a.looks ≡ looks)
unfolding outcome
accepted-as (Accepted a) e = (a, refl, cc e, cc e, cc e)
accepted-as (Refused r) e = absurd (let z : ◌≡◌ {A = ℕ} 0 1 = cc e in omega arith)

pub refused_as : (x : Pick) {number : ℕ} → outcome x ≡ R number → (r : RefusedPick) × (x ≡ Refused r) × (r.number ≡ number)
unfolding outcome
refused_as (Accepted a) e = absurd (let z : ◌≡◌ {A = ℕ} 0 1 = cc e in omega arith)
refused_as (Refused r) e = (r, refl, cc e)

accepts : {n : Vector} {t : ℤ} {i : Inputs} {steps looks : ℕ} → OnSlope n t i → outcome (pick_at i) ≡ N n steps looks → Accepts n t i steps looks
accepts {i = i} o e = let h = accepted-as (pick_at i) e in record { on_slope = o; answer = h.0; is = h.1; is_normal = h.2; steps_are = h.3; looks_are = h.4 }

refuses : {n : Vector} {t : ℤ} {i : Inputs} → OnSlope n t i → outcome (pick_at i) ≡ R 8 → Refuses n t i
refuses {i = i} o e = let h = refused_as (pick_at i) e in record { on_slope = o; answer = h.0; is = h.1; is_eight = h.2 }

-- ---- wedges: every assumption is a test
abbrev wedge_of : ℤ → ℤ → ℤ → ℤ → Wedge
wedge_of a b c h = record { a = a; b = b; c = c; h = h }

-- n·w = 1
pub on-wedge : (g : ℤ) (w : Vector) {n : Vector} {a b c h : ℤ} {p : Vector} {frame reach : ℤ} → T (between (pos 1) reach (pos 256)) → T (between (pos 0) frame (pos 7)) → T (permitted_wedge (wedge_of a b c h))
    → T (le_z (pos 0) (lay (signs (nat_abs frame)) n).x) → T (le_z (pos 0) (lay (signs (nat_abs frame)) n).y) → T (le_z (pos 0) (lay (signs (nat_abs frame)) n).z)
    → dot n w ≡ pos 1 → T (le_z (pos (size n)) reach) → T (le_z (pos 1) g) → vector a b c ≡ scale g n
    → look (IsWedge (wedge_of a b c h)) [] p ≡ Filled → look (IsWedge (wedge_of a b c h)) [] (p ⊕ signs (nat_abs frame)) ≡ Empty
    → OnWedge g n (wedge_of a b c h) p frame reach
on-wedge g w {n = n} r f ok x y z one fits once multiple filled empty = record {
  permitted = record { permitted_reach = r; permitted_frame = f; permitted_solid = ok };
  direction = record { signed = record { of_x = le_z_yes x; of_y = le_z_yes y; of_z = le_z_yes z }; not_all_zero = λ e. absurd (not-all-zero n w one e); no_common_divisor = λ d u h e. no-divisor n w one d u (omega (arith, parts)) e; within_reach = le_z_yes fits };
  at_least_once = le_z_yes once;
  multiple = multiple;
  touched = record { start_filled = filled; apex_empty = empty };
}

-- with the ceiling of h/g
pub on_line : {g : ℤ} {n : Vector} {t a b c h : ℤ} {p : Vector} {frame reach : ℤ} → OnWedge g n (wedge_of a b c h) p frame reach → T (le_z h (g *ℤ t)) → T (lt_z (g *ℤ (t -ℤ pos 1)) h) → OnSlope n t (line a b c h p frame reach)
on_line {t = t} o enough least = multiple-slope _ _ _ _ _ _ o (record { t = t; enough = le_z_yes enough; least = lt_z_yes least })

-- ---- the stair: every voxel of its box is looked up
all_below : ℕ → (ℕ → Bool) → Bool
all_below zero f = true
all_below (suc n) f = f n && all_below n f

each_below : (n : ℕ) (f : ℕ → Bool) → T (all_below n f) → (k : ℕ) → k < n → T (f k)
unfolding all_below
each_below zero f h k l = absurd (omega arith)
each_below (suc n) f h k l = go (leb n k) refl (each_below n f (and_yes (f n) (all_below n f) h).1 k)
  where
    go : (b : Bool) → leb n k ≡ b → (k < n → T (f k)) → T (f k)
    go true e r = let same : n ≡ k = omega (arith, leb→le n k (rw e tt)) in subst (λ (j : ℕ). T (f j)) same (and_yes (f n) (all_below n f) h).0
    go false e r = r (nleb→lt n k (rw e tt))

same_bool : (a b : Bool) → T (beq a b) → a ≡ b
same_bool true true h = refl
same_bool true false h = absurd h
same_bool false true h = absurd h
same_bool false false h = refl

agrees : ℕ → ℕ → ℕ → Bool
agrees x y z = beq (voxel 9 9 stair_bytes x y z) (lt_z (dot (at 1) (vector (pos x) (pos y) (pos z))) (pos 12))

all-agree : T (all_below 9 (λ x. all_below 9 (λ y. all_below 9 (λ z. agrees x y z))))
unfolding all_below agrees voxel row_bytes stair_bytes slices rows row dot
all-agree = tt

natural : (x : ℤ) → Between 8 x → (k : ℕ) × (x ≡ pos k) × (k < 9)
natural (pos k) h = (k, refl, omega (arith, parts, h.high))
natural (negsuc k) h = absurd h.low.le

stair-below : (v : Vector) → T (in_box (box (IsStack stair)) v) → filled (IsStack stair) stair_bytes v ≡ lt_z (dot (at 1) v) (pos 12)
unfolding agrees filled_stack
stair-below v i =
    let c = in-cube 8 (box (IsStack stair)) v (record { of_x = le_z_yes tt; of_y = le_z_yes tt; of_z = le_z_yes tt }) i in
    let x = natural v.x c.of_x in let y = natural v.y c.of_y in let z = natural v.z c.of_z in
    subst (λ (u : Vector). filled_stack stair stair_bytes u ≡ lt_z (dot (at 1) u) (pos 12)) (vector-eq (sym x.1) (sym y.1) (sym z.1))
    (same_bool _ _ (each_below 9 (λ k. agrees x.0 y.0 k) (each_below 9 (λ j. all_below 9 (λ k. agrees x.0 j k)) (each_below 9 (λ l. all_below 9 (λ j. all_below 9 (λ k. agrees l j k))) all-agree x.0 x.2) y.0 y.2) z.0 z.2))

pub on-stair : OnSlope (at 1) (pos 12) (of_stack stair stair_bytes (at 3) (pos 0) (pos 3))
unfolding between permitted_stack stack_bytes slice_bytes row_bytes stair_bytes slices rows row dot lay signs sign size look in_box voxel filled_stack ◌⊕◌
on-stair = record {
  permitted = record { permitted_reach = tt; permitted_frame = tt; permitted_solid = tt };
  direction = record { signed = record { of_x = le_z_yes tt; of_y = le_z_yes tt; of_z = le_z_yes tt }; not_all_zero = λ e. absurd (not-all-zero (at 1) unit0 refl e); no_common_divisor = λ d u h e. no-divisor (at 1) unit0 refl d u (omega (arith, parts)) e; within_reach = le_z_yes tt };
  filled_below = stair-below;
  touched = record { start_filled = refl; apex_empty = refl };
}

pub not-empty : NotEmpty
unfolding outcome ◌⊕◌ ◌⊖◌ minus scale dot cross det sphere lay size between permitted_wedge filled_wedge in_box look row_bytes voxel filled_stack permitted_stack stack_bytes slice_bytes stair_bytes slices rows row after ◌>>=◌ ensure sign signs seen asked powers_from powers normal all_level keep only remaining takes_part levelled determinant inside any_inside first_free choice look_at falls_at facing is_level axes start falling round_of walk rounds found end is_inside placing judging check pick answer pick_of accepted-as accepts
not-empty = record {
  W1 = accepts (on_line (on-wedge (pos 1) unit0 tt tt tt tt tt tt refl tt tt refl refl refl) tt tt) refl;
  W2 = accepts (on_line (on-wedge (pos 1) unit0 tt tt tt tt tt tt refl tt tt refl refl refl) tt tt) refl;
  W8 = accepts (on_line (on-wedge (pos 1) (minus unit0) tt tt tt tt tt tt refl tt tt refl refl refl) tt tt) refl;
  twice_w1 = on-wedge (pos 2) unit0 tt tt tt tt tt tt refl tt tt refl refl refl;
  twice_w1_accepts = accepts (on_line (on-wedge (pos 2) unit0 tt tt tt tt tt tt refl tt tt refl refl refl) tt tt) refl;
  on_stack = accepts on-stair refl;
  W7 = refuses (on_line (on-wedge (pos 1) unit0 tt tt tt tt tt tt refl tt tt refl refl refl) tt tt) refl;
  all_three = accepts (on_line (on-wedge (pos 1) unit0 tt tt tt tt tt tt refl tt tt refl refl refl) tt tt) refl;
  all_two = accepts (on_line (on-wedge (pos 1) unit2 tt tt tt tt tt tt refl tt tt refl refl refl) tt tt) refl;
  all_one = accepts (on_line (on-wedge (pos 1) unit2 tt tt tt tt tt tt refl tt tt refl refl refl) tt tt) refl;
  allowed = (refl, refl, refl);
  W6 = accepts (on_line (on-wedge (pos 1) unit2 tt tt tt tt tt tt refl tt tt refl refl refl) tt tt) refl;
  W6Turned = accepts (on_line (on-wedge (pos 1) unit2 tt tt tt tt tt tt refl tt tt refl refl refl) tt tt) refl;
  triangles_differ = λ e. let z : pos 1 ≡ negsuc 0 = ap (λ (m : Triangle). m.m0.x) e in omega (arith, parts);
}

-- ---- as document 01 has it: the same slopes, whose normals have three non-zero components
module _ {n : Vector} {t : ℤ} {i : Inputs} (x : T (le_z (pos 1) (lay (signs_of i) n).x)) (y : T (le_z (pos 1) (lay (signs_of i) n).y)) (z : T (le_z (pos 1) (lay (signs_of i) n).z)) (reach : T (between (pos 3) i.reach (pos 256))) where
  base-slope : OnSlope n t i → Base.OnSlope n t i
  base-slope o = record {
    permitted = record { permitted_reach = reach; permitted_frame = o.permitted.permitted_frame; permitted_solid = o.permitted.permitted_solid };
    direction = record { signed = record { of_x = le_z_yes x; of_y = le_z_yes y; of_z = le_z_yes z }; no_common_divisor = o.direction.no_common_divisor; within_reach = o.direction.within_reach };
    filled_below = o.filled_below;
    touched = o.touched;
  }

  base-accepts : {steps looks : ℕ} → Accepts n t i steps looks → Base.Accepts n t i steps looks
  base-accepts a = record { on_slope = base-slope a.on_slope; answer = a.answer; is = a.is; is_normal = a.is_normal; steps_are = a.steps_are; looks_are = a.looks_are }

  base-refuses : Refuses n t i → Base.Refuses n t i
  base-refuses r = record { on_slope = base-slope r.on_slope; answer = r.answer; is = r.is; is_eight = r.is_eight }

pub base-not-empty : Base.NotEmpty
unfolding between lay signs sign size powers powers_from scale remaining only keep
base-not-empty = record {
  W1 = base-accepts tt tt tt tt not-empty.W1;
  W2 = base-accepts tt tt tt tt not-empty.W2;
  W8 = base-accepts tt tt tt tt not-empty.W8;
  twice_w1 = let o = base-slope tt tt tt tt not-empty.twice_w1_accepts.on_slope in record { permitted = o.permitted; direction = o.direction; at_least_once = le_z_yes tt; multiple = refl; touched = o.touched };
  twice_w1_accepts = base-accepts tt tt tt tt not-empty.twice_w1_accepts;
  on_stack = base-accepts tt tt tt tt not-empty.on_stack;
  W7 = base-refuses tt tt tt tt not-empty.W7;
  all_looks = base-accepts tt tt tt tt not-empty.all_three;
  allowed = refl;
}
