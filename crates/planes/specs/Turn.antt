-- How far a vector ν turns from the normal n of a triangle m: |ν×n|² is made of ν's products with the sides and the level vectors. If each of these is within e it is at most S·e², S the spread.
-- With three remaining corners that is so since two of the products are alike in sign; with a level axis, whose vector is at right angles to the side, it is plain.
use Rattle.std.specs.Prelude.{◌≡◌, ◌⊎◌, Bool, not, List, [], ◌∷◌, ℕ, ◌+◌, ◌≤◌, T, ℤ, neg_ℤ, ◌+ℤ◌, ◌-ℤ◌, ◌*ℤ◌, length, ◌≤ℤ◌, ◌<ℤ◌}
use Rattle.std.proofs.Math.Path.{refl, sym, ap}
use Rattle.std.proofs.Common.{◌∙◌, inl, inr, arith}
use Rattle.std.proofs.Math.Bool.{true, false}
use Rattle.std.proofs.Math.IntN.{pos}
use Rattle.integers.specs.Reify.{byring, sides}
use Rattle.integers.specs.Order.{parts, linear, atom, goal, fact, square-from-zero}
use Rattle.rules.specs.declared.Vector.{Vector}
use Rattle.rules.specs.declared.Levels.{Levels}
use Rattle.rules.specs.declared.Triangle.{Triangle}
use Rattle.rules.specs.declared.Pair.{Pair}
use Rattle.rules.specs.declared.Pair.TheVariants.{P01, P02, P12}
use Rattle.rules.specs.Vectors.{◌⊕◌, ◌⊖◌, scale, dot, cross, det, lay}
use Rattle.rules.specs.declared.Axis.{Axis}
use Rattle.rules.specs.declared.Axis.TheVariants.{Axis0 as axis0, Axis1 as axis1, Axis2 as axis2}
use Rattle.rules.specs.Walk.{all_axes, unit, vector_of, from, to, first, second, way, levels, level, none_level, all_level, keep, only, takes_part}
use Rattle.rules.specs.Lean.{squared, sides as side_pairs, longest, spread}
use Rattle.rules.specs.declared.Way.{Way}
use Rattle.rules.specs.declared.Way.TheVariants.{Sideways as sideways, Along as along, Against as against}
use Rattle.rules.specs.Firm.{belongs, way_of}
use Rattle.laws.specs.Tests.{In, is-not, compared}
use Rattle.laws.specs.Only.{in-only}
use Rattle.laws.specs.Levels.{lowest}
use Rattle.laws.specs.Parts.{part, of2, of3, dot-difference, dot-minus}
use Rattle.laws.specs.Triples.{det_of, of9, combined, expand}
use Rattle.laws.specs.Flat.{product}
use Rattle.laws.specs.Generators.{Products}
use Rattle.laws.specs.Tame.{turned}
use Rattle.laws.specs.BothWays.{turned-takes, turned-way}
use Rattle.laws.specs.Frames.{natural, lay-minus}
use Rattle.planes.specs.Orders.{at_most, rest, rest-less, ◌and◌, ◌by◌, Small, small_is, bounded}

-- ---- squared lengths
abbrev pub square : Vector → ℤ
square a = dot a a

pub square-up : (a : Vector) → pos 0 ≤ℤ square a
unfolding dot
square-up a = square-from-zero a.x and square-from-zero a.y and square-from-zero a.z

pub squared-is : (a : Vector) → pos (squared a) ≡ square a
unfolding squared
squared-is a = sym (natural (square a) (square-up a))

pub lagrange : (a b : Vector) → square (cross a b) ≡ square a *ℤ square b -ℤ dot a b *ℤ dot a b
unfolding dot cross
lagrange a b = byring (of2 a b) (search sides depth 40 fits 5000) tt

-- ---- the spread is at least each side's square and 1 for each level axis
longest-holds : (m : Triangle) (x : Pair) (xs : List Pair) → In x xs → squared (way m x) ≤ longest m xs
unfolding longest
longest-holds m x [] i = absurd i
longest-holds m x (y ∷ ys) (inl e) = rw e (omega arith)
longest-holds m x (y ∷ ys) (inr i) = omega (arith, longest-holds m x ys i)

abbrev level_count : Levels → ℕ
level_count v = length (only (level v) all_axes)

spread-side : (v : Levels) (m : Triangle) (x : Pair) → In x side_pairs → T (takes_part v x) → squared (way m x) + level_count v ≤ spread v m
unfolding spread
spread-side v m x i t = omega (arith, longest-holds m x (only (takes_part v) side_pairs) (in-only (takes_part v) x side_pairs i t))

spread-levels : (v : Levels) (m : Triangle) → level_count v ≤ spread v m
unfolding spread
spread-levels v m = omega arith

-- ---- what the triangle of an accepted answer is, laid in, with its level axes v and its normal n
pub record Face (s : Vector) (v : Levels) (n : Vector) (m : Triangle) : Type 0 where
  pub unimodular : det_of m *ℤ det_of m ≡ pos 1
  pub products : Products v n m
  pub stays : (k : Axis) → T (level v k) → vector_of m k ≡ lay s (unit k)
  -- a level vector has length 1 and is at right angles to the others
  pub straight : (k : Axis) → T (level v k) → (j : Axis) → dot (vector_of m j) (vector_of m k) ≡ part k (unit j)
  pub some : T (not (all_level v))

-- ---- the cross product, expanded by the triangle
crossed : (a b c d : Vector) → dot (cross a b) (cross c d) ≡ dot c a *ℤ dot d b -ℤ dot c b *ℤ dot d a
unfolding dot cross
crossed a b c d = byring (a.x ∷ a.y ∷ a.z ∷ b.x ∷ b.y ∷ b.z ∷ of2 c d) (search sides depth 40 fits 5000) tt

square-scale : (l : ℤ) (a : Vector) → square (scale l a) ≡ l *ℤ l *ℤ square a
unfolding dot scale
square-scale l a = byring (l ∷ a.x ∷ a.y ∷ a.z ∷ []) (search sides depth 40 fits 5000) tt

one-times : (z : ℤ) → pos 1 *ℤ z ≡ z
one-times z = byring (z ∷ []) (search sides depth 40 fits 5000) tt

-- with h the products of ν and p those of n
turn_by : Triangle → (h p : Axis → ℤ) → Vector
turn_by m h p = combined m (h axis1 *ℤ p axis2 -ℤ h axis2 *ℤ p axis1) (h axis2 *ℤ p axis0 -ℤ h axis0 *ℤ p axis2) (h axis0 *ℤ p axis1 -ℤ h axis1 *ℤ p axis0)

module _ {s : Vector} {v : Levels} {n : Vector} {m : Triangle} (f : Face s v n m) (ν : Vector) where
  abbrev h : Axis → ℤ
  h k = dot ν (vector_of m k)

  turn-expanded : square (cross ν n) ≡ square (turn_by m h (λ k. dot n (vector_of m k)))
  unfolding turn_by
  turn-expanded =
      sym (one-times (square (cross ν n))) ∙ ap (λ z. z *ℤ square (cross ν n)) (sym f.unimodular) ∙ sym (square-scale (det_of m) (cross ν n)) ∙ ap square (expand m (cross ν n))
      ∙ rw (crossed m.m1 m.m2 ν n, crossed m.m2 m.m0 ν n, crossed m.m0 m.m1 ν n) refl

  turn_is : square (cross ν n) ≡ square (turn_by m h (λ k. product (level v k)))
  unfolding turn_by
  turn_is = turn-expanded ∙ rw (f.products axis0, f.products axis1, f.products axis2) refl

-- ---- that square, by the level axes
-- of two vectors a and b, with the products x and y of ν with them
abbrev quadratic : Vector → Vector → ℤ → ℤ → ℤ
quadratic a b x y = square a *ℤ (y *ℤ y) +ℤ square b *ℤ (x *ℤ x) -ℤ (dot a b +ℤ dot a b) *ℤ (x *ℤ y)

-- the side between the two other axes; k alone level, and k alone remaining
abbrev beside : Axis → Pair
beside axis0 = P12
beside axis1 = P02
beside axis2 = P01

abbrev only_level : Axis → Levels
only_level axis0 = levels true false false
only_level axis1 = levels false true false
only_level axis2 = levels false false true

abbrev all_but : Axis → Levels
all_but axis0 = levels false true true
all_but axis1 = levels true false true
all_but axis2 = levels true true false

module _ (m : Triangle) (h : Axis → ℤ) where
  abbrev atoms : List ℤ
  atoms = h axis0 ∷ h axis1 ∷ h axis2 ∷ of9 m

  three-remain : square (turn_by m h (λ j. product (level none_level j)))
      ≡ square (way m P01) *ℤ ((h axis2 -ℤ h axis0) *ℤ ((h axis2 -ℤ h axis0) -ℤ (h axis1 -ℤ h axis0)))
      +ℤ square (way m P02) *ℤ ((h axis1 -ℤ h axis0) *ℤ ((h axis1 -ℤ h axis0) -ℤ (h axis2 -ℤ h axis0)))
      +ℤ square (way m P12) *ℤ ((h axis1 -ℤ h axis0) *ℤ (h axis2 -ℤ h axis0))
  unfolding turn_by dot scale ◌⊕◌ ◌⊖◌
  three-remain = byring atoms (search sides depth 40 fits 5000) tt

  -- k alone is level: the side between the others and k's vector
  one-level : (k : Axis) → square (turn_by m h (λ j. product (level (only_level k) j))) ≡ quadratic (way m (beside k)) (vector_of m k) (h (to (beside k)) -ℤ h (from (beside k))) (h k)
  unfolding turn_by dot scale ◌⊕◌ ◌⊖◌
  one-level axis0 = byring atoms (search sides depth 40 fits 5000) tt
  one-level axis1 = byring atoms (search sides depth 40 fits 5000) tt
  one-level axis2 = byring atoms (search sides depth 40 fits 5000) tt

  -- k alone remains: the vectors of the others
  two-level : (k : Axis) → square (turn_by m h (λ j. product (level (all_but k) j))) ≡ quadratic (first m (beside k)) (second m (beside k)) (h (from (beside k))) (h (to (beside k)))
  unfolding turn_by dot scale ◌⊕◌ ◌⊖◌
  two-level axis0 = byring atoms (search sides depth 40 fits 5000) tt
  two-level axis1 = byring atoms (search sides depth 40 fits 5000) tt
  two-level axis2 = byring atoms (search sides depth 40 fits 5000) tt

-- what is level there
is-level : (k : Axis) → T (level (only_level k) k)
is-level axis0 = tt
is-level axis1 = tt
is-level axis2 = tt

beside-takes : (k : Axis) → T (takes_part (only_level k) (beside k))
unfolding takes_part
beside-takes axis0 = tt
beside-takes axis1 = tt
beside-takes axis2 = tt

from-level : (k : Axis) → T (level (all_but k) (from (beside k)))
from-level axis0 = tt
from-level axis1 = tt
from-level axis2 = tt

to_level : (k : Axis) → T (level (all_but k) (to (beside k)))
to_level axis0 = tt
to_level axis1 = tt
to_level axis2 = tt

beside-in : (k : Axis) → In (beside k) side_pairs
beside-in axis0 = inr (inr (inl refl))
beside-in axis1 = inr (inl refl)
beside-in axis2 = inl refl

one-count : (k : Axis) → level_count (only_level k) ≡ 1
unfolding only keep
one-count axis0 = refl
one-count axis1 = refl
one-count axis2 = refl

two-count : (k : Axis) → level_count (all_but k) ≡ 2
unfolding only keep
two-count axis0 = refl
two-count axis1 = refl
two-count axis2 = refl

own-part : (k : Axis) → part k (unit k) ≡ pos 1
own-part axis0 = refl
own-part axis1 = refl
own-part axis2 = refl

not-along : (k : Axis) → part k (unit (to (beside k))) -ℤ part k (unit (from (beside k))) ≡ pos 0
not-along axis0 = refl
not-along axis1 = refl
not-along axis2 = refl

from-part : (k : Axis) → part (to (beside k)) (unit (from (beside k))) ≡ pos 0
from-part axis0 = refl
from-part axis1 = refl
from-part axis2 = refl

difference-dot : (a b c : Vector) → dot (a ⊖ b) c ≡ dot a c -ℤ dot b c
unfolding dot ◌⊖◌
difference-dot a b c = byring (of3 a b c) (search sides depth 40 fits 5000) tt

-- ---- vectors at right angles
right-close : (a b : Vector) (e x y : ℤ) → dot a b ≡ pos 0 → Small e x → Small e y → quadratic a b x y ≤ℤ ((square a +ℤ square b) *ℤ (e *ℤ e))
right-close a b e x y right p q =
    let A = square a in let B = square b in
    at_most (A *ℤ ((e -ℤ y) *ℤ (e +ℤ y)) +ℤ B *ℤ ((e -ℤ x) *ℤ (e +ℤ x)))
    (square-up a by (q.up by q.down) and square-up b by (p.up by p.down))
    (rw right (byring (e ∷ x ∷ y ∷ A ∷ B ∷ []) (search sides depth 40 fits 5000) tt))

-- ---- the products of ν with the footing's ways are within e, for with each way its opposite is one
abbrev pub WaysWithin : Vector → ℤ → Vector → Levels → Triangle → Type 0
WaysWithin ν e s v m = (w : Way) → T (belongs v w) → dot ν (way_of s m w) ≤ℤ e

within : {e z : ℤ} → z ≤ℤ e → neg_ℤ z ≤ℤ e → Small e z
within {e} {z} h k = let a = atom e in let b = atom z in record { up = rest h; down = goal (search linear) (omega (arith, parts, fact (search linear) k)) }

module _ {s : Vector} {v : Levels} {n : Vector} {m : Triangle} (f : Face s v n m) (ν : Vector) (e : ℤ) (held : WaysWithin ν e s v m) where
  side-small : (x : Pair) → T (takes_part v x) → Small e (dot ν (way m x))
  side-small x t = within (held (sideways x) t) (rw (turned-way m x, dot-minus ν (way m x)) at (held (sideways (turned x)) (turned-takes v x t)))

  level-small : (k : Axis) → T (level v k) → Small e (dot ν (vector_of m k))
  level-small k t = rw (f.stays k t) (within (held (along k) t) (rw (lay-minus s (unit k), dot-minus ν (lay s (unit k))) at (held (against k) t)))

-- ---- so |ν×n|² is at most S·e²
further : (S A w : ℤ) → A ≤ℤ S → pos 0 ≤ℤ w → (A *ℤ w) ≤ℤ (S *ℤ w)
further S A w h k = at_most ((S -ℤ A) *ℤ w) (rest h by k) (byring (S ∷ A ∷ w ∷ []) (search sides depth 40 fits 5000) tt)

trans : {x y z : ℤ} → x ≤ℤ y → y ≤ℤ z → x ≤ℤ z
trans {x} {y} {z} h k = omega (arith, parts)

-- a side's square
side-high : (v : Levels) (m : Triangle) (x : Pair) → In x side_pairs → T (takes_part v x) → (square (way m x) +ℤ pos (level_count v)) ≤ℤ pos (spread v m)
side-high v m x i t =
    let k = spread-side v m x i t in
    rw (← squared-is (way m x)) (let a = atom (pos (squared (way m x))) in let b = atom (pos (level_count v)) in goal (search linear) (omega (arith, parts)))

module _ (s n : Vector) (m : Triangle) (ν : Vector) (e : ℤ) where
  abbrev Closely : Levels → Type 0
  Closely v = square (cross ν n) ≤ℤ (pos (spread v m) *ℤ (e *ℤ e))

  close-three : Face s none_level n m → WaysWithin ν e s none_level m → Closely none_level
  unfolding takes_part only keep
  close-three f held =
      let S = pos (spread none_level m) in
      let x = side-small f ν e held P01 tt in let y = side-small f ν e held P02 tt in let z = side-small f ν e held P12 tt in
      rw (turn_is f ν ∙ three-remain m (λ k. dot ν (vector_of m k)))
      (bounded S _ _ _ e _ _ (high P01 (inl refl) tt) (high P02 (inr (inl refl)) tt) (high P12 (inr (inr (inl refl))) tt) (square-up _) (square-up _) (square-up _)
      (small_is (dot-difference ν m.m1 m.m0) x) (small_is (dot-difference ν m.m2 m.m0) y)
      (small_is (dot-difference ν m.m2 m.m1 ∙ apart (dot ν m.m0) (dot ν m.m1) (dot ν m.m2)) z))
    where
      apart : (x y z : ℤ) → z -ℤ y ≡ (z -ℤ x) -ℤ (y -ℤ x)
      apart x y z = byring (x ∷ y ∷ z ∷ []) (search sides depth 40 fits 5000) tt

      high : (x : Pair) → In x side_pairs → T (takes_part none_level x) → square (way m x) ≤ℤ pos (spread none_level m)
      high x i t = let a = atom (square (way m x)) in omega (arith, parts, fact (search linear) (side-high none_level m x i t))

  -- k alone is level
  close-one : (k : Axis) → Face s (only_level k) n m → WaysWithin ν e s (only_level k) m → Closely (only_level k)
  close-one k f held =
      let a = way m (beside k) in let b = vector_of m k in
      let right : dot a b ≡ pos 0 = difference-dot (second m (beside k)) (first m (beside k)) b ∙ rw (f.straight k (is-level k) (to (beside k)), f.straight k (is-level k) (from (beside k))) (not-along k) in
      let high : (square a +ℤ square b) ≤ℤ pos (spread (only_level k) m) = rw (f.straight k (is-level k) k ∙ own-part k ∙ ap pos (sym (one-count k))) (side-high (only_level k) m (beside k) (beside-in k) (beside-takes k)) in
      rw (turn_is f ν ∙ one-level m (λ j. dot ν (vector_of m j)) k)
      (trans (right-close a b e _ _ right (small_is (dot-difference ν (second m (beside k)) (first m (beside k))) (side-small f ν e held (beside k) (beside-takes k))) (level-small f ν e held k (is-level k)))
      (further _ _ (e *ℤ e) high (square-from-zero e)))

  -- k alone remains
  close-two : (k : Axis) → Face s (all_but k) n m → WaysWithin ν e s (all_but k) m → Closely (all_but k)
  close-two k f held =
      let i = from (beside k) in let j = to (beside k) in
      let a = vector_of m i in let b = vector_of m j in
      let right : dot a b ≡ pos 0 = f.straight j (to_level k) i ∙ from-part k in
      let high : (square a +ℤ square b) ≤ℤ pos (spread (all_but k) m) = rw (f.straight i (from-level k) i ∙ own-part i, f.straight j (to_level k) j ∙ own-part j) (omega (arith, parts, spread-levels (all_but k) m, two-count k)) in
      rw (turn_is f ν ∙ two-level m (λ j. dot ν (vector_of m j)) k)
      (trans (right-close a b e _ _ right (level-small f ν e held i (from-level k)) (level-small f ν e held j (to_level k)))
      (further _ _ (e *ℤ e) high (square-from-zero e)))

  pub turn-close : (a b c : Bool) → Face s (levels a b c) n m → WaysWithin ν e s (levels a b c) m → Closely (levels a b c)
  unfolding all_level
  turn-close false false false f held = close-three f held
  turn-close true false false f held = close-one axis0 f held
  turn-close false true false f held = close-one axis1 f held
  turn-close false false true f held = close-one axis2 f held
  turn-close false true true f held = close-two axis0 f held
  turn-close true false true f held = close-two axis1 f held
  turn-close true true false f held = close-two axis2 f held
  turn-close true true true f held = absurd f.some

-- ---- the spread is at least 1: a side of no length would make the determinant 0
height-of : (m : Triangle) → det_of m ≡ dot m.m0 (cross (way m P01) (way m P02))
unfolding det dot cross ◌⊖◌
height-of m = byring (of9 m) (search sides depth 40 fits 5000) tt

side-long : (m : Triangle) → det_of m *ℤ det_of m ≡ pos 1 → pos 1 ≤ℤ square (way m P01)
side-long m d = go (compared (square a) (pos 1))
  where
    a : Vector
    a = way m P01

    b : Vector
    b = way m P02

    flat : (A B C M D : ℤ) → A <ℤ pos 1 → pos 0 ≤ℤ B → pos 0 ≤ℤ M → pos 0 ≤ℤ (M *ℤ (A *ℤ B -ℤ C *ℤ C) -ℤ D *ℤ D) → (D *ℤ D) ≤ℤ pos 0
    flat A B C M D h k l r =
        at_most (M *ℤ (A *ℤ B -ℤ C *ℤ C) -ℤ D *ℤ D +ℤ M *ℤ (C *ℤ C) +ℤ M *ℤ B *ℤ (pos 1 -ℤ A -ℤ pos 1))
        (r and l by square-from-zero C and l by k by rest-less h)
        (byring (A ∷ B ∷ C ∷ M ∷ D ∷ []) (search sides depth 40 fits 5000) tt)

    go : (square a <ℤ pos 1) ⊎ (pos 1 ≤ℤ square a) → pos 1 ≤ℤ square a
    go (inr h) = h
    go (inl h) =
        let r : pos 0 ≤ℤ (square m.m0 *ℤ (square a *ℤ square b -ℤ dot a b *ℤ dot a b) -ℤ det_of m *ℤ det_of m) = rw (height-of m, ← lagrange a b, ← lagrange m.m0 (cross a b)) (square-up (cross m.m0 (cross a b))) in
        absurd (omega (arith, parts, flat (square a) (square b) (dot a b) (square m.m0) (det_of m) h (square-up b) (square-up m.m0) r, d))

pub spread-high : {s n : Vector} {m : Triangle} (a b c : Bool) → Face s (levels a b c) n m → pos 1 ≤ℤ pos (spread (levels a b c) m)
unfolding takes_part only keep
spread-high {m = m} true b c f = omega (arith, parts, spread-levels (levels true b c) m)
spread-high {m = m} false true c f = omega (arith, parts, spread-levels (levels false true c) m)
spread-high {m = m} false false true f = omega (arith, parts, spread-levels (levels false false true) m)
spread-high {m = m} false false false f =
    let z = atom (square (way m P01)) in
    omega (arith, parts, fact (search linear) (side-high none_level m P01 (inl refl) tt), side-long m f.unimodular)

-- ---- a vector that has product 1 with another is not zero, so the normal is not
pub long : (n a : Vector) → dot n a ≡ pos 1 → pos 1 ≤ℤ square n
long n a is_one = go (compared (square n) (pos 1))
  where
    none : (N M : ℤ) → N <ℤ pos 1 → pos 0 ≤ℤ M → pos 0 ≤ℤ (N *ℤ M -ℤ pos 1 *ℤ pos 1) → pos 1 ≤ℤ pos 0
    none N M h j r = at_most (N *ℤ M -ℤ pos 1 *ℤ pos 1 +ℤ M *ℤ (pos 1 -ℤ N -ℤ pos 1)) (r and j by rest-less h) (byring (N ∷ M ∷ []) (search sides depth 40 fits 5000) tt)

    go : (square n <ℤ pos 1) ⊎ (pos 1 ≤ℤ square n) → pos 1 ≤ℤ square n
    go (inr h) = h
    go (inl h) = absurd (omega (arith, parts, none (square n) (square a) h (square-up a) (rw is_one at (rw (lagrange n a) at (square-up (cross n a))))))

pub normal-long : {s : Vector} {v : Levels} {n : Vector} {m : Triangle} → Face s v n m → pos 1 ≤ℤ square n
normal-long {v = v} {n} {m} f = let k = lowest v f.some in long n (vector_of m k.0) (f.products k.0 ∙ ap product (is-not (level v k.0) k.1))
