-- A firm footing's lean is less than a right angle where F is at least 2 and the sum of the normal's sizes. In the frame, with the cross products b of the triangle, ν is Σ h_k b_k, h_k its height at
-- corner k; were a remaining height not above zero, all heights would be too small for ν·(1, 1, 1). So each is at least 1, and so is ν·n.
use Rattle.std.specs.Prelude.{◌≡◌, refl, ◌⊎◌, Bool, true, false, not, [], ◌∷◌, ℕ, ◌≤◌, T, ℤ, ◌+ℤ◌, ◌*ℤ◌, ◌≤ℤ◌, ◌<ℤ◌}
use Rattle.std.proofs.Common.{sym, ◌∙◌, inl, inr, arith}
use Rattle.std.proofs.Math.Path.{ap, ap₂, subst}
use Rattle.std.proofs.Math.IntN.{pos, ◌-ℤ◌}
use Rattle.std.proofs.Math.Facts.{yes_and}
use Rattle.integers.specs.Laws.{*ℤ-idr}
use Rattle.integers.specs.Reify.{byring, sides}
use Rattle.integers.specs.Order.{parts, linear, atom, goal, fact}
use Rattle.rules.specs.declared.Vector.{Vector}
use Rattle.rules.specs.declared.Levels.{Levels}
use Rattle.rules.specs.declared.Triangle.{Triangle}
use Rattle.rules.specs.declared.Pair.{Pair}
use Rattle.rules.specs.declared.Pair.TheVariants.{P01, P02, P10, P12, P20, P21}
use Rattle.rules.specs.Vectors.{vector, ◌⊕◌, scale, dot, cross, det, lay, size}
use Rattle.rules.specs.declared.Axis.{Axis}
use Rattle.rules.specs.declared.Axis.TheVariants.{Axis0 as axis0, Axis1 as axis1, Axis2 as axis2}
use Rattle.rules.specs.Walk.{unit, vector_of, from, to, first, second, way, level, all_level, takes_part, levelled, normal, Probe, Found, found}
use Rattle.rules.specs.Lean.{levels_of}
use Rattle.rules.specs.declared.Way.TheVariants.{Sideways as sideways, Along as along}
use Rattle.laws.specs.Tests.{compared}
use Rattle.laws.specs.Parts.{NonNegative, part, part-sum, part-scale, vector-eq, of2, dot-difference, scale-dot, scale_one}
use Rattle.laws.specs.Triples.{all_of, of9, of12, crosses, combined, expand, expand-crosses}
use Rattle.laws.specs.Levels.{part-levelled}
use Rattle.laws.specs.Flat.{Flat, product}
use Rattle.laws.proofs.Flat.{levelled-dot}
use Rattle.laws.specs.Tame.{Tame}
use Rattle.laws.specs.Frames.{Signs, lay-lay, lay-dot, lay-size, sum-size}
use Rattle.laws.specs.Rounds.{WalkFound}
use Rattle.laws.specs.Answers.{found-signs, found-levels, found-stays}
use Rattle.planes.specs.Orders.{at_most, rest, rest-less, ◌and◌, ◌by◌}
use Rattle.planes.specs.Turn.{WaysWithin, long}
use Rattle.planes.specs.Faces.{found-vector}
use Rattle.planes.specs.Upward.{part-high, sum-high}

abbrev pub ones : Vector
ones = vector (pos 1) (pos 1) (pos 1)

-- ---- a height that is not above zero leaves too little
pub height-up : (F e h i j w x y : ℤ) → pos 1 ≤ℤ F → pos 0 ≤ℤ e → pos 0 ≤ℤ w → pos 0 ≤ℤ x → pos 0 ≤ℤ y → (x +ℤ y) ≤ℤ F → e <ℤ (h *ℤ w +ℤ i *ℤ x +ℤ j *ℤ y)
    → (h ≤ℤ pos 0 → (F *ℤ i) ≤ℤ e) → (h ≤ℤ pos 0 → (F *ℤ j) ≤ℤ e) → pos 1 ≤ℤ h
height-up F e h i j w x y one up p q r few low left right = go (compared h (pos 1))
  where
    go : (h <ℤ pos 1) ⊎ (pos 1 ≤ℤ h) → pos 1 ≤ℤ h
    go (inr k) = k
    go (inl k) =
        let down : h ≤ℤ pos 0 = omega (arith, parts) in
        let high : pos 0 ≤ℤ F = omega (arith, parts) in
        let none : F ≤ℤ pos 0 = at_most
        (F *ℤ (h *ℤ w +ℤ i *ℤ x +ℤ j *ℤ y -ℤ e -ℤ pos 1) +ℤ F *ℤ (pos 0 -ℤ h) *ℤ w +ℤ (e -ℤ F *ℤ i) *ℤ x +ℤ (e -ℤ F *ℤ j) *ℤ y +ℤ e *ℤ (F -ℤ (x +ℤ y)))
        (high by rest-less low and high by rest down by p and rest (left down) by q and rest (right down) by r and up by rest few)
        (byring (F ∷ e ∷ h ∷ i ∷ j ∷ w ∷ x ∷ y ∷ []) (search sides depth 40 fits 5000) tt) in
        absurd (omega (arith, parts))

-- ---- by the cross products
dot-combined : (b : Triangle) (x y z : ℤ) (v : Vector) → dot (combined b x y z) v ≡ x *ℤ dot b.m0 v +ℤ y *ℤ dot b.m1 v +ℤ z *ℤ dot b.m2 v
unfolding dot scale ◌⊕◌
dot-combined b x y z v = byring (x ∷ y ∷ z ∷ of12 b v) (search sides depth 40 fits 5000) tt

-- one of three that are not negative
sum-up : (f : Axis → ℤ) → ((j : Axis) → pos 0 ≤ℤ f j) → (k : Axis) → pos 1 ≤ℤ f k → pos 1 ≤ℤ (f axis0 +ℤ f axis1 +ℤ f axis2)
sum-up f h axis0 l = let x = atom (f axis0) in let y = atom (f axis1) in let z = atom (f axis2) in goal (search linear) (omega (arith, parts, h axis1, h axis2))
sum-up f h axis1 l = let x = atom (f axis0) in let y = atom (f axis1) in let z = atom (f axis2) in goal (search linear) (omega (arith, parts, h axis0, h axis2))
sum-up f h axis2 l = let x = atom (f axis0) in let y = atom (f axis1) in let z = atom (f axis2) in goal (search linear) (omega (arith, parts, h axis0, h axis1))

-- the same in another order
swapped : (f : Axis → ℤ) → f axis0 +ℤ f axis1 +ℤ f axis2 ≡ f axis1 +ℤ f axis0 +ℤ f axis2
swapped f = byring (f axis0 ∷ f axis1 ∷ f axis2 ∷ []) (search sides depth 40 fits 5000) tt

turned : (f : Axis → ℤ) → f axis0 +ℤ f axis1 +ℤ f axis2 ≡ f axis2 +ℤ f axis0 +ℤ f axis1
turned f = byring (f axis0 ∷ f axis1 ∷ f axis2 ∷ []) (search sides depth 40 fits 5000) tt

-- where the vectors have the parts of the unit vectors along k
level-part : (k : Axis) (m : Triangle) (x y z : ℤ) → part k m.m0 ≡ part k (unit axis0) → part k m.m1 ≡ part k (unit axis1) → part k m.m2 ≡ part k (unit axis2)
    → part k (combined m x y z) ≡ part k (vector x y z)
level-part axis0 m x y z p q r = simp (part-sum, part-scale) (rw (p, q, r) (byring (x ∷ y ∷ z ∷ []) (search sides depth 40 fits 5000) tt))
level-part axis1 m x y z p q r = simp (part-sum, part-scale) (rw (p, q, r) (byring (x ∷ y ∷ z ∷ []) (search sides depth 40 fits 5000) tt))
level-part axis2 m x y z p q r = simp (part-sum, part-scale) (rw (p, q, r) (byring (x ∷ y ∷ z ∷ []) (search sides depth 40 fits 5000) tt))

-- ---- vectors with no negative part
both-up : {a c : Vector} → NonNegative a → NonNegative c → pos 0 ≤ℤ dot a c
unfolding dot
both-up h k = h.of_x by k.of_x and h.of_y by k.of_y and h.of_z by k.of_z

-- one that is not zero has a sum of at least 1
some_up : (a x : Vector) → NonNegative a → dot a x ≡ pos 1 → pos 1 ≤ℤ dot a ones
unfolding dot
some_up a x h e = go (compared (a.x *ℤ pos 1 +ℤ a.y *ℤ pos 1 +ℤ a.z *ℤ pos 1) (pos 1))
  where
    none : (x y z : ℤ) → pos 0 *ℤ x +ℤ pos 0 *ℤ y +ℤ pos 0 *ℤ z ≡ pos 0
    none x y z = byring (x ∷ y ∷ z ∷ []) (search sides depth 40 fits 5000) tt

    go : ((a.x *ℤ pos 1 +ℤ a.y *ℤ pos 1 +ℤ a.z *ℤ pos 1) <ℤ pos 1) ⊎ (pos 1 ≤ℤ (a.x *ℤ pos 1 +ℤ a.y *ℤ pos 1 +ℤ a.z *ℤ pos 1)) → pos 1 ≤ℤ (a.x *ℤ pos 1 +ℤ a.y *ℤ pos 1 +ℤ a.z *ℤ pos 1)
    go (inr k) = k
    go (inl k) =
        let u = atom a.x in let v = atom a.y in let w = atom a.z in
        let f = fact (search linear) k in
        let a0 : a.x ≡ pos 0 = omega (arith, parts, h.of_x, h.of_y, h.of_z) in
        let b0 : a.y ≡ pos 0 = omega (arith, parts, h.of_x, h.of_y, h.of_z) in
        let c0 : a.z ≡ pos 0 = omega (arith, parts, h.of_x, h.of_y, h.of_z) in
        absurd (omega (arith, parts, sym (none x.x x.y x.z) ∙ (rw (a0, b0, c0) at e)))

module _ (v : Levels) (m : Triangle) (tame : Tame m) (flat : Flat v m) where
  abbrev b : Triangle
  b = crosses m

  abbrev n : Vector
  n = levelled v (normal m)

  -- a product with any vector, by its products with the triangle's vectors
  by-heights : (N x : Vector) → dot N x ≡ dot N m.m0 *ℤ dot b.m0 x +ℤ dot N m.m1 *ℤ dot b.m1 x +ℤ dot N m.m2 *ℤ dot b.m2 x
  by-heights N x = ap (λ a. dot a x) (sym (scale_one N) ∙ (rw tame.unimodular at (expand-crosses m N))) ∙ dot-combined b (dot N m.m0) (dot N m.m1) (dot N m.m2) x

  normal-by : (x : Vector) → dot n x ≡ product v.x *ℤ dot b.m0 x +ℤ product v.y *ℤ dot b.m1 x +ℤ product v.z *ℤ dot b.m2 x
  normal-by x = by-heights n x ∙ rw (levelled-dot v m flat tame.unimodular axis0, levelled-dot v m flat tame.unimodular axis1, levelled-dot v m flat tame.unimodular axis2) refl

  -- along a level axis the cross product is the unit vector
  level-cross : (k : Axis) → T (level v k) → (x : Vector) → dot (vector_of b k) x ≡ part k x
  level-cross k t x =
      same k ∙ sym (level-part k m _ _ _ (flat k t axis0).part-is (flat k t axis1).part-is (flat k t axis2).part-is) ∙ sym (ap (part k) (sym (scale_one x) ∙ (rw tame.unimodular at (expand m x))))
    where
      same : (k : Axis) → dot (vector_of b k) x ≡ part k (vector (dot b.m0 x) (dot b.m1 x) (dot b.m2 x))
      same axis0 = refl
      same axis1 = refl
      same axis2 = refl

  own-cross : (k : Axis) → dot (vector_of b k) (vector_of m k) ≡ pos 1
  unfolding det dot cross
  own-cross axis0 = byring (of9 m) (search sides depth 40 fits 5000) tt ∙ tame.unimodular
  own-cross axis1 = byring (of9 m) (search sides depth 40 fits 5000) tt ∙ tame.unimodular
  own-cross axis2 = byring (of9 m) (search sides depth 40 fits 5000) tt ∙ tame.unimodular

  cross-up : (k : Axis) → NonNegative (vector_of b k)
  cross-up k = all_of tame.upward k

  -- with the sum of the unit vectors
  weight : Axis → ℤ
  weight k = dot (vector_of b k) ones

  weight-up : (k : Axis) → pos 1 ≤ℤ weight k
  unfolding weight
  weight-up k = some_up (vector_of b k) (vector_of m k) (cross-up k) (own-cross k)

  own-one : (k : Axis) → part k ones ≡ pos 1
  own-one axis0 = refl
  own-one axis1 = refl
  own-one axis2 = refl

  level-weight : (k : Axis) → level v k ≡ true → weight k ≡ pos 1
  unfolding weight
  level-weight k e = level-cross k (rw e tt) ones ∙ own-one k

  -- with the normal: 0 along a level axis, else at least 1
  swap : (a c : Vector) → dot a c ≡ dot c a
  unfolding dot
  swap a c = byring (of2 a c) (search sides depth 40 fits 5000) tt

  level-normal : (k : Axis) → level v k ≡ true → dot (vector_of b k) n ≡ pos 0
  level-normal k e = level-cross k (rw e tt) n ∙ part-levelled v (normal m) k ∙ rw e refl

  flag_up : (b : Bool) → pos 0 ≤ℤ product b
  flag_up true = omega (arith, parts)
  flag_up false = omega (arith, parts)

  term_up : (j k : Axis) → pos 0 ≤ℤ (product (level v j) *ℤ dot (vector_of b j) (vector_of b k))
  term_up j k = flag_up (level v j) by both-up (cross-up j) (cross-up k)

  own-term : (k : Axis) → level v k ≡ false → pos 1 ≤ℤ (product (level v k) *ℤ dot (vector_of b k) (vector_of b k))
  own-term k e = rw e (let z = atom (dot (vector_of b k) (vector_of b k)) in goal (search linear) (omega (arith, parts, long (vector_of b k) (vector_of m k) (own-cross k))))

  normal-up : (k : Axis) → level v k ≡ false → pos 1 ≤ℤ dot (vector_of b k) n
  normal-up k e = rw (swap (vector_of b k) n, normal-by (vector_of b k)) (sum-up (λ j. product (level v j) *ℤ dot (vector_of b j) (vector_of b k)) (λ j. term_up j k) k (own-term k e))

  -- ---- the heights of N, each way F times within e
  module _ (N : Vector) (F e : ℤ) (two : pos 2 ≤ℤ F) (up : pos 0 ≤ℤ e) (low : e <ℤ dot N ones) (sizes : dot n ones ≤ℤ F)
      (side : (j k : Axis) → level v j ≡ false → level v k ≡ false → (F *ℤ (dot N (vector_of m j) -ℤ dot N (vector_of m k))) ≤ℤ e) (flatly : (j : Axis) → level v j ≡ true → (F *ℤ dot N (vector_of m j)) ≤ℤ e) where
    abbrev height : Axis → ℤ
    height k = dot N (vector_of m k)

    long-way : pos 1 ≤ℤ F
    long-way = omega (arith, parts)

    -- with a remaining height that is not above zero every other is small
    other-small : (j k : Axis) → level v k ≡ false → height k ≤ℤ pos 0 → (F *ℤ height j) ≤ℤ e
    other-small j k r down = go (level v j) refl
      where
        go : (b : Bool) → level v j ≡ b → (F *ℤ height j) ≤ℤ e
        go true l = flatly j l
        go false l =
            let high : pos 0 ≤ℤ F = omega (arith, parts) in
            at_most ((e -ℤ F *ℤ (height j -ℤ height k)) +ℤ F *ℤ (pos 0 -ℤ height k)) (rest (side j k l r) and high by rest down) (byring (F ∷ e ∷ height j ∷ height k ∷ []) (search sides depth 40 fits 5000) tt)

    -- the weights of the two others add up to at most F
    few : (a c : Bool) (w x y : ℤ) → pos 1 ≤ℤ w → (a ≡ true → x ≡ pos 1) → (c ≡ true → y ≡ pos 1) → (w +ℤ product a *ℤ x +ℤ product c *ℤ y) ≤ℤ F → (x +ℤ y) ≤ℤ F
    few true true w x y h p q s = rw (p refl, q refl) two
    few true false w x y h p q s = let f = atom F in let u = atom w in let k = atom y in rw (p refl) (goal (search linear) (omega (arith, parts, fact (search linear) (rw (p refl) at s))))
    few false true w x y h p q s = let f = atom F in let u = atom w in let k = atom x in rw (q refl) (goal (search linear) (omega (arith, parts, fact (search linear) (rw (q refl) at s))))
    few false false w x y h p q s = let f = atom F in let u = atom w in let k = atom x in let l = atom y in goal (search linear) (omega (arith, parts, fact (search linear) s))

    weighed : dot n ones ≡ product v.x *ℤ weight axis0 +ℤ product v.y *ℤ weight axis1 +ℤ product v.z *ℤ weight axis2
    unfolding weight
    weighed = normal-by ones

    raised : dot N ones ≡ height axis0 *ℤ weight axis0 +ℤ height axis1 *ℤ weight axis1 +ℤ height axis2 *ℤ weight axis2
    unfolding weight
    raised = by-heights N ones

    at_least_0 : (k : Axis) → pos 0 ≤ℤ weight k
    at_least_0 k = let h = weight-up k in omega (arith, parts)

    -- k, and i and j the others
    corner-up : (k i j : Axis) → level v k ≡ false → dot n ones ≡ product (level v k) *ℤ weight k +ℤ product (level v i) *ℤ weight i +ℤ product (level v j) *ℤ weight j
        → dot N ones ≡ height k *ℤ weight k +ℤ height i *ℤ weight i +ℤ height j *ℤ weight j → pos 1 ≤ℤ height k
    corner-up k i j r p q =
        height-up F e (height k) (height i) (height j) (weight k) (weight i) (weight j) long-way up (at_least_0 k) (at_least_0 i) (at_least_0 j)
        (few (level v i) (level v j) (weight k) (weight i) (weight j) (weight-up k) (level-weight i) (level-weight j) (subst (λ z. z ≤ℤ F) (p ∙ rw r (first-whole (weight k) _ _)) sizes))
        (subst (λ z. e <ℤ z) q low) (other-small i k r) (other-small j k r)
      where
        first-whole : (w x y : ℤ) → pos 1 *ℤ w +ℤ x +ℤ y ≡ w +ℤ x +ℤ y
        first-whole w x y = byring (w ∷ x ∷ y ∷ []) (search sides depth 40 fits 5000) tt

    heights-up : (k : Axis) → level v k ≡ false → pos 1 ≤ℤ height k
    heights-up axis0 r = corner-up axis0 axis1 axis2 r weighed raised
    heights-up axis1 r = corner-up axis1 axis0 axis2 r (weighed ∙ swapped (λ k. product (level v k) *ℤ weight k)) (raised ∙ swapped (λ k. height k *ℤ weight k))
    heights-up axis2 r = corner-up axis2 axis0 axis1 r (weighed ∙ turned (λ k. product (level v k) *ℤ weight k)) (raised ∙ turned (λ k. height k *ℤ weight k))

    pub heights-upward : T (not (all_level v)) → pos 0 <ℤ dot N (levelled v (normal m))
    heights-upward t =
        subst (λ z. pos 0 <ℤ z) (sym (by-heights N n))
        (sum-high v t (λ k. height k *ℤ dot (vector_of b k) n) (λ k. part-high (level v k) (height k) (dot (vector_of b k) n) (heights-up k) (level-normal k) (normal-up k)))

-- ---- of what a walk found, laid in
lay-ones : (s : Vector) → lay s ones ≡ s
unfolding lay
lay-ones s = vector-eq (*ℤ-idr s.x) (*ℤ-idr s.y) (*ℤ-idr s.z)

dot-ones : (a : Vector) → dot a ones ≡ a.x +ℤ a.y +ℤ a.z
unfolding dot
dot-ones a = byring (a.x ∷ a.y ∷ a.z ∷ []) (search sides depth 40 fits 5000) tt

module _ {c : Probe} {R : ℕ} {v : Levels} {f : Found} (h : WalkFound c R v f) (g : Signs c.signs) (ν : Vector) (F : ℕ) (e : ℤ) (up : pos 0 ≤ℤ e) (low : e <ℤ dot ν c.signs)
    (held : WaysWithin (scale (pos F) ν) e c.signs (levels_of f.normal) f.triangle) where
  abbrev s : Vector
  s = c.signs

  abbrev m : Triangle
  m = h.at.0

  abbrev N : Vector
  N = lay c.signs ν

  -- ν's product with a vector of the answer is its height in the frame
  laid-height : (k : Axis) → dot ν (vector_of f.triangle k) ≡ dot N (vector_of m k)
  laid-height k = ap (dot ν) (found-vector h g k) ∙ sym (lay-dot s ν (vector_of m k))

  held-here : WaysWithin (scale (pos F) ν) e s v f.triangle
  held-here = subst (λ (v : Levels). WaysWithin (scale (pos F) ν) e s v f.triangle) (sym (found-levels h g)) held

  pair_held : (x : Pair) → level v (from x) ≡ false → level v (to x) ≡ false → (pos F *ℤ (dot N (second m x) -ℤ dot N (first m x))) ≤ℤ e
  unfolding takes_part
  pair_held x p q =
      subst (λ z. z ≤ℤ e) (scale-dot ν (way f.triangle x) (pos F) ∙ ap (λ z. pos F *ℤ z) (dot-difference ν (second f.triangle x) (first f.triangle x) ∙ ap₂ ◌-ℤ◌ (laid-height (to x)) (laid-height (from x))))
      (held-here (sideways x) (yes_and (not (level v (from x))) (not (level v (to x))) (rw p tt) (rw q tt)))

  same-corner : (k : Axis) → (pos F *ℤ (dot N (vector_of m k) -ℤ dot N (vector_of m k))) ≤ℤ e
  same-corner k = subst (λ z. z ≤ℤ e) (byring (pos F ∷ dot N (vector_of m k) ∷ []) (search sides depth 40 fits 5000) tt) up

  side : (j k : Axis) → level v j ≡ false → level v k ≡ false → (pos F *ℤ (dot N (vector_of m j) -ℤ dot N (vector_of m k))) ≤ℤ e
  side axis0 axis0 p q = same-corner axis0
  side axis0 axis1 p q = pair_held P10 q p
  side axis0 axis2 p q = pair_held P20 q p
  side axis1 axis0 p q = pair_held P01 q p
  side axis1 axis1 p q = same-corner axis1
  side axis1 axis2 p q = pair_held P21 q p
  side axis2 axis0 p q = pair_held P02 q p
  side axis2 axis1 p q = pair_held P12 q p
  side axis2 axis2 p q = same-corner axis2

  flatly : (j : Axis) → level v j ≡ true → (pos F *ℤ dot N (vector_of m j)) ≤ℤ e
  flatly j l =
      let t : T (level v j) = rw l tt in
      let stays = found-stays h g j (subst (λ (v : Levels). T (level v j)) (found-levels h g) t) in
      subst (λ z. z ≤ℤ e) (scale-dot ν (lay s (unit j)) (pos F) ∙ ap (λ z. pos F *ℤ z) (ap (dot ν) (sym stays) ∙ laid-height j)) (held-here (along j) t)

  frame-normal : lay s f.normal ≡ levelled v (normal m)
  unfolding found
  frame-normal = ap (λ (f : Found). lay s f.normal) h.is ∙ lay-lay s (levelled v (normal m)) g

  sizes : size f.normal ≤ F → dot (levelled v (normal m)) ones ≤ℤ pos F
  sizes k = rw (← frame-normal, dot-ones (lay s f.normal), sum-size (lay s f.normal) (found-signs h g), lay-size s f.normal g) (omega (arith, parts))

  pub found-upward : T (not (all_level v)) → 2 ≤ F → size f.normal ≤ F → pos 0 <ℤ dot ν f.normal
  found-upward some two few =
      subst (λ z. pos 0 <ℤ z) (ap (dot N) (sym frame-normal) ∙ lay-dot s ν (lay s f.normal) ∙ ap (dot ν) (lay-lay s f.normal g))
      (heights-upward v m h.end.tame h.end.flat N (pos F) e (omega (arith, parts)) up (rw (lay-dot s ν ones, lay-ones s) low) (sizes few) side flatly some)
