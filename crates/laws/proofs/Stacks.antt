-- On a stack no reach above 64 is accepted. A level axis, and the walk's end, looked both ways from q at every power, so at one of at least 128: in a box of
-- at most 256 a side a vector that stays inside both ways there is zero. No unit vector is, and a triangle with two equal vectors has determinant 0, not 1.
-- A walk from a ready start looked at no level axis: there it holds where a pair takes part.
use Rattle.std.specs.Prelude.{◌≡◌, refl, Bool, true, false, not, List, [], ◌∷◌, ℕ, zero, suc, ◌*◌, ◌≤◌, ◌<◌, T, leb, ℤ, pos, negsuc, neg_ℤ, nat_abs, ◌+ℤ◌, ◌-ℤ◌, ◌*ℤ◌, ◌≤ℤ◌}
use Rattle.std.proofs.Common.{sym, ap, subst, ◌∙◌, inl, inr, arith, leb→le}
use Rattle.std.proofs.Math.Nat as NatL
use Rattle.std.proofs.Math.Dec.{nleb→lt}
use Rattle.std.proofs.Math.Facts.{yes_and}
use Rattle.integers.specs.Reify.{byring, sides}
use Rattle.integers.specs.Order.{parts, linear, atom, fact}
use Rattle.integers.specs.Sizes.{Within, sizes, product-size}
use Rattle.rules.specs.declared.Vector.{Vector}
use Rattle.rules.specs.declared.Levels.{Levels}
use Rattle.rules.specs.declared.Stack.{Stack}
use Rattle.rules.specs.declared.Solid.TheVariants.{Stack as IsStack}
use Rattle.rules.specs.declared.Accepted.{Accepted as AcceptedPick}
use Rattle.std.specs.Prelude.{Ok as Accepted}
use Rattle.rules.specs.declared.Triangle.{Triangle}
use Rattle.rules.specs.declared.Pair.{Pair}
use Rattle.rules.specs.declared.Pair.TheVariants.{P01}
use Rattle.rules.specs.declared.ReadyStart.{ReadyStart}
use Rattle.rules.specs.Vectors.{◌⊖◌, minus, lay, dot, cross, det, origin}
use Rattle.rules.specs.declared.Axis.{Axis}
use Rattle.rules.specs.declared.Axis.TheVariants.{Axis0 as axis0, Axis1 as axis1, Axis2 as axis2}
use Rattle.rules.specs.Walk.{unit, with_vector, pairs, from, first, second, way, with, only, takes_part, Probe, Found}
use Rattle.rules.specs.Solids.{between, permitted_stack, look}
use Rattle.rules.specs.Pick.{is_inside, probe_from, pick_of}
use Rattle.rules.specs.TwoCalls.{walk_of}
use Rattle.range.specs.Ranges.{between-naturals}
use Rattle.laws.specs.Only.{each_member, taking-in}
use Rattle.laws.specs.Parts.{part, part_of, part-sum, part-scale, part-minus, part-lay, part-origin, vector-by-parts, difference-turned}
use Rattle.laws.specs.Triples.{det_of, of9, step-det}
use Rattle.laws.specs.Tame.{turned}
use Rattle.laws.specs.Frames.{IsSign, Signs, signs-are, sign-size}
use Rattle.laws.specs.Looks.{along, FellAt, Fell}
use Rattle.laws.specs.Powers.{Reaches, powers-128}
use Rattle.laws.specs.Ranges.{Between, InCube}
use Rattle.laws.specs.Boxes.{stack-cube}
use Rattle.laws.specs.Axes.{FellAlong, AxesOf}
use Rattle.laws.specs.Rounds.{End, WalkFound}
use Rattle.laws.specs.Answers.{found_of}
use Rattle.laws.proofs.Answers.{accepted-tells}
use Rattle.laws.proofs.Handed.{walk-accepted}
use Rattle.laws.specs.BothWays.{turned-takes, turned-way}

-- two ways that did not fall were looked at, at one power of at least M, inside the box
both-in : (c : Probe) (u v : Vector) (M : ℕ) (ls : List ℕ) → Reaches M ls → FellAt c u ls false → FellAt c v ls false
    → (l : ℕ) × (M ≤ l) × T (is_inside (c.look (along c u l))) × T (is_inside (c.look (along c v l)))
unfolding is_inside
both-in c u v M [] r f g = absurd r
both-in c u v M (l ∷ ls) (inl h) f g = (l, h, rw f.0 tt, rw g.0 tt)
both-in c u v M (l ∷ ls) (inr r) f g = both-in c u v M ls r f.1 g.1

-- ---- a number that stays in 0 to 255 both ways at such a power is zero
none_left : (l y : ℕ) → 128 ≤ l → l * y ≤ 127 → y ≡ 0
none_left l zero h k = refl
none_left l (suc y) h k = absurd (omega (arith, NatL.mul-suc l y))

no_size : (z : ℤ) → nat_abs z ≡ 0 → z ≡ pos 0
no_size (pos k) e = ap pos e
no_size (negsuc k) e = absurd (omega arith)

backward : (l q s z : ℤ) → q +ℤ l *ℤ (s *ℤ neg_ℤ z) ≡ q -ℤ l *ℤ (s *ℤ z)
backward l q s z = byring (l ∷ q ∷ s ∷ z ∷ []) (search sides depth 40 fits 5000) tt

half : (q d : ℤ) → Between 255 (q +ℤ d) → Between 255 (q -ℤ d) → Within 127 d
half q d h k =
    let x = atom q in let y = atom d in
    omega (arith, sizes, fact (search linear) h.low, fact (search linear) h.high, fact (search linear) k.low, fact (search linear) k.high)

zero-part : (q s z : ℤ) (l : ℕ) → IsSign s → 128 ≤ l → Between 255 (q +ℤ pos l *ℤ (s *ℤ z)) → Between 255 (q +ℤ pos l *ℤ (s *ℤ neg_ℤ z)) → z ≡ pos 0
zero-part q s z l g h j k =
    let w = half q (pos l *ℤ (s *ℤ z)) j (rw (backward (pos l) q s z) at k) in
    no_size z (none_left l (nat_abs z) h (rw (← far) w.size))
  where
    far : nat_abs (pos l *ℤ (s *ℤ z)) ≡ l * nat_abs z
    far = product-size (pos l) (s *ℤ z) ∙ ap (λ (y : ℕ). l * y) (sign-size s z g)

-- ---- no unit vector is zero, and two equal vectors have no volume
unit-one : (k : Axis) → part k (unit k) ≡ pos 1
unit-one axis0 = refl
unit-one axis1 = refl
unit-one axis2 = refl

zero-flat : (m : Triangle) (k : Axis) → det_of (with_vector m k origin) ≡ pos 0
unfolding det dot cross
zero-flat m axis0 = byring (of9 m) (search sides depth 40 fits 5000) tt
zero-flat m axis1 = byring (of9 m) (search sides depth 40 fits 5000) tt
zero-flat m axis2 = byring (of9 m) (search sides depth 40 fits 5000) tt

-- m_k less m_l is put in by a step, which keeps the determinant
equal-flat : (m : Triangle) (x : Pair) → ((k : Axis) → part k (way m x) ≡ pos 0) → det_of m ≡ pos 0
equal-flat m x h = sym (step-det m x) ∙ ap (λ a. det_of (with m x a)) gone ∙ zero-flat m (from x)
  where
    gone : first m x ⊖ second m x ≡ origin
    gone = difference-turned (first m x) (second m x) ∙ vector-by-parts (λ k. part-minus k (way m x) ∙ ap neg_ℤ (h k) ∙ sym (part-origin k))

module _ (c : Probe) (box : (p : Vector) → T (is_inside (c.look p)) → InCube 255 p) (signed : Signs c.signs) (far : Reaches 128 c.powers) where
  abbrev q : Vector
  q = c.apex

  abbrev s : Vector
  s = c.signs

  -- a vector that fell neither way
  still : (u : Vector) → Fell c u false → Fell c (minus u) false → (k : Axis) → part k u ≡ pos 0
  still u f g k =
      let b = both-in c (lay s u) (lay s (minus u)) 128 c.powers far f g in
      zero-part (part k q) (part k s) (part k u) b.0 (part_of signed k) b.1 (subst (Between 255) (part-along u b.0) (part_of (box _ b.2) k)) (subst (Between 255) (part-along (minus u) b.0 ∙ opposite b.0) (part_of (box _ b.3) k))
    where
      part-along : (u : Vector) (l : ℕ) → part k (along c (lay s u) l) ≡ part k q +ℤ pos l *ℤ (part k s *ℤ part k u)
      part-along u l = simp (part-sum, part-scale, part-lay) refl

      opposite : (l : ℕ) → part k q +ℤ pos l *ℤ (part k s *ℤ part k (minus u)) ≡ part k q +ℤ pos l *ℤ (part k s *ℤ neg_ℤ (part k u))
      opposite l = ap (λ z. part k q +ℤ pos l *ℤ (part k s *ℤ z)) (part-minus k u)

  no-level : (k : Axis) (b : Bool) → FellAlong c (unit k) b → T (not b)
  no-level k false f = tt
  no-level k true f = let o : pos 1 ≡ pos 0 = sym (unit-one k) ∙ still (unit k) f.1 f.0 k in absurd (omega (arith, parts))

  -- the ways of a pair that takes part and of the pair turned round
  too_far : (R : ℕ) (v : Levels) (e : Triangle × ℕ) → End c R v e → (x : Pair) → T (takes_part v x) → ⊥
  too_far R v e h x t =
      let m = e.0 in
      let stood : (x : Pair) → T (takes_part v x) → Fell c (way m x) false = λ x t. each_member (λ x. Fell c (way m x) false) x (only (takes_part v) pairs) h.stood (taking-in v x t) in
      let back = subst (λ u. Fell c u false) (turned-way m x) (stood (turned x) (turned-takes v x t)) in
      let o : pos 1 ≡ pos 0 = sym h.tame.unimodular ∙ equal-flat m x (still (way m x) (stood x t) back) in
      omega (arith, parts)

  none-level : (v : Levels) → AxesOf c v → T (takes_part v P01)
  unfolding takes_part
  none-level v a = yes_and (not v.x) (not v.y) (no-level axis0 v.x (a.axis axis0).fell) (no-level axis1 v.y (a.axis axis1).fell)

-- so a walk that found something, of which a pair takes part if the reach is above 64, has none above
module _ (stack : Stack) (bytes : List ℕ) (q : Vector) (frame reach : ℤ) (ok : T (permitted_stack stack bytes)) (range : T (between (pos 1) reach (pos 256))) where
  abbrev c : Probe
  c = probe_from (look (IsStack stack) bytes) q frame reach

  at-most-64 : (v : Levels) (f : Found) → WalkFound c (nat_abs reach) v f → (64 < nat_abs reach → (x : Pair) × T (takes_part v x)) → reach ≤ℤ pos 64
  at-most-64 v f w pair =
      let R = between-naturals 1 256 reach range in
      let small = go (leb (nat_abs reach) 64) refl in
      omega (arith, parts, R.2)
    where
      go : (b : Bool) → leb (nat_abs reach) 64 ≡ b → nat_abs reach ≤ 64
      go true k = leb→le (nat_abs reach) 64 (rw k tt)
      go false k =
          let far = nleb→lt (nat_abs reach) 64 (rw k tt) in
          let x = pair far in
          absurd (too_far c (stack-cube stack bytes ok) (signs-are (nat_abs frame)) (powers-128 (nat_abs reach) far) _ v w.at w.end x.0 x.1)

-- of a pick no axis would be level
pub stack-reach : (stack : Stack) (bytes : List ℕ) (p : Vector) (frame reach : ℤ) (a : AcceptedPick) → pick_of (IsStack stack) bytes p frame reach ≡ Accepted a → reach ≤ℤ pos 64
stack-reach stack bytes p frame reach a is =
    let h = accepted-tells (IsStack stack) bytes p frame reach a is in
    let o = h.accepting in
    at-most-64 stack bytes _ frame reach h.passed.permitted_solid h.passed.permitted_reach o.level (found_of a) o.walked
    (λ far. (P01, none-level _ (stack-cube stack bytes h.passed.permitted_solid) (signs-are (nat_abs frame)) (powers-128 (nat_abs reach) far) o.level o.asked))

-- a walk from a ready start of which a pair takes part
pub walk-stack-reach : (stack : Stack) (bytes : List ℕ) (d : ReadyStart) (frame reach : ℤ) (a : AcceptedPick) → walk_of (IsStack stack) bytes d frame reach ≡ Accepted a → (x : Pair) → T (takes_part d.level x) → reach ≤ℤ pos 64
walk-stack-reach stack bytes d frame reach a is x takes =
    let h = walk-accepted (IsStack stack) bytes d frame reach a is in
    at-most-64 stack bytes d.apex frame reach h.0.permitted_solid h.0.permitted_reach d.level (found_of a) h.1 (λ _. (x, takes))
