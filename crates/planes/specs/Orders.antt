-- Orders with products. An order is proved by its rest, a sum of products of numbers that are not negative; the ring solver shows that it is the rest.
use Rattle.std.specs.Prelude.{◌≡◌, ◌⊎◌, List, [], ◌∷◌, ℤ, pos, neg_ℤ, ◌+ℤ◌, ◌-ℤ◌, ◌*ℤ◌, ◌≤ℤ◌, ◌<ℤ◌}
use Rattle.std.proofs.Common.{subst, inl, inr, arith}
use Rattle.integers.specs.Reify.{byring, sides}
use Rattle.integers.specs.Order.{parts, linear, atom, goal, fact, *ℤ-mono, square-from-zero}
use Rattle.laws.specs.Tests.{compared}

pub at_most : {x y : ℤ} (d : ℤ) → pos 0 ≤ℤ d → y ≡ x +ℤ d → x ≤ℤ y
at_most {x} {y} d h e = let a = atom x in let b = atom y in let c = atom d in omega (arith, parts, fact (search linear) e)

pub less_by : {x y : ℤ} (d : ℤ) → pos 0 ≤ℤ d → y ≡ x +ℤ pos 1 +ℤ d → x <ℤ y
less_by {x} {y} d h e = let a = atom x in let b = atom y in let c = atom d in omega (arith, parts, fact (search linear) e)

pub rest : {x y : ℤ} → x ≤ℤ y → pos 0 ≤ℤ (y -ℤ x)
rest {x} {y} h = let a = atom x in let b = atom y in goal (search linear) (omega (arith, parts))

pub rest-less : {x y : ℤ} → x <ℤ y → pos 0 ≤ℤ (y -ℤ x -ℤ pos 1)
rest-less {x} {y} h = let a = atom x in let b = atom y in goal (search linear) (omega (arith, parts))

pub same_rest : {x y : ℤ} → x ≡ y → pos 0 ≤ℤ x → pos 0 ≤ℤ y
same_rest h k = rw (← h) k

infixl 6 ◌and◌
pub ◌and◌ : {a b : ℤ} → pos 0 ≤ℤ a → pos 0 ≤ℤ b → pos 0 ≤ℤ (a +ℤ b)
◌and◌ {a} {b} h k = let x = atom a in let y = atom b in goal (search linear) (omega (arith, parts))

infixl 7 ◌by◌
pub ◌by◌ : {a b : ℤ} → pos 0 ≤ℤ a → pos 0 ≤ℤ b → pos 0 ≤ℤ (a *ℤ b)
◌by◌ {a} {b} h k = let x = atom a in let p = atom (a *ℤ b) in omega (arith, parts, fact (search linear) (*ℤ-mono h k))

-- ---- u and v alike in sign, their sum z within e: of these three numbers A, B, D none is negative and A and D are at most S
opposite-up : {z : ℤ} → z <ℤ pos 0 → pos 0 ≤ℤ neg_ℤ z
opposite-up {z} h = let a = atom z in goal (search linear) (omega (arith, parts))

module _ (S A B D e : ℤ) (high : pos 0 ≤ℤ S) (a : A ≤ℤ S) (b : pos 0 ≤ℤ B) (d : D ≤ℤ S) where
  alike : (u v : ℤ) → pos 0 ≤ℤ (u *ℤ v) → pos 0 ≤ℤ (e -ℤ (u +ℤ v)) → pos 0 ≤ℤ (e +ℤ (u +ℤ v))
      → (A *ℤ (v *ℤ (u +ℤ v)) +ℤ D *ℤ (u *ℤ (u +ℤ v)) -ℤ B *ℤ (u *ℤ v)) ≤ℤ (S *ℤ (e *ℤ e))
  alike u v h up down =
      at_most
      ((S -ℤ A) *ℤ (u *ℤ v +ℤ v *ℤ v) +ℤ (S -ℤ D) *ℤ (u *ℤ v +ℤ u *ℤ u) +ℤ B *ℤ (u *ℤ v) +ℤ S *ℤ ((e -ℤ (u +ℤ v)) *ℤ (e +ℤ (u +ℤ v))))
      (rest a by (h and square-from-zero v) and rest d by (h and square-from-zero u) and b by h and high by (up by down))
      (byring (S ∷ A ∷ B ∷ D ∷ e ∷ u ∷ v ∷ []) (search sides depth 40 fits 5000) tt)

-- z is between -e and e
pub record Small (e z : ℤ) : Type 0 where
  pub up : pos 0 ≤ℤ (e -ℤ z)
  pub down : pos 0 ≤ℤ (e +ℤ z)

pub small_is : {e x y : ℤ} → x ≡ y → Small e x → Small e y
small_is {e} h k = subst (Small e) h k

-- ---- X, Y and Y - X are all between -e and e: two of X, Y - X and -Y are alike, for their sum is zero
module _ (S A B D e X Y : ℤ) (a : A ≤ℤ S) (b : B ≤ℤ S) (d : D ≤ℤ S) (a0 : pos 0 ≤ℤ A) (b0 : pos 0 ≤ℤ B) (d0 : pos 0 ≤ℤ D) (x : Small e X) (y : Small e Y) (z : Small e (Y -ℤ X)) where
  abbrev whole : ℤ
  whole = A *ℤ (Y *ℤ (Y -ℤ X)) +ℤ B *ℤ (X *ℤ (X -ℤ Y)) +ℤ D *ℤ (X *ℤ Y)

  abbrev atoms : List ℤ
  atoms = S ∷ A ∷ B ∷ D ∷ e ∷ X ∷ Y ∷ []

  high : pos 0 ≤ℤ S
  high = omega (arith, parts)

  same : {x y z : ℤ} → x ≡ y → y ≤ℤ z → x ≤ℤ z
  same h k = rw h k

  first_two : pos 0 ≤ℤ (X *ℤ (Y -ℤ X)) → whole ≤ℤ (S *ℤ (e *ℤ e))
  first_two h =
      same (byring atoms (search sides depth 40 fits 5000) tt)
      (alike S A B D e high a b0 d X (Y -ℤ X) h (same_rest (byring atoms (search sides depth 40 fits 5000) tt) y.up) (same_rest (byring atoms (search sides depth 40 fits 5000) tt) y.down))

  outer-two : pos 0 ≤ℤ (X *ℤ neg_ℤ Y) → whole ≤ℤ (S *ℤ (e *ℤ e))
  outer-two h =
      same (byring atoms (search sides depth 40 fits 5000) tt)
      (alike S A D B e high a d0 b X (neg_ℤ Y) h (same_rest (byring atoms (search sides depth 40 fits 5000) tt) z.down) (same_rest (byring atoms (search sides depth 40 fits 5000) tt) z.up))

  last-two : pos 0 ≤ℤ ((Y -ℤ X) *ℤ neg_ℤ Y) → whole ≤ℤ (S *ℤ (e *ℤ e))
  last-two h =
      same (byring atoms (search sides depth 40 fits 5000) tt)
      (alike S D A B e high d a0 b (Y -ℤ X) (neg_ℤ Y) h (same_rest (byring atoms (search sides depth 40 fits 5000) tt) x.down) (same_rest (byring atoms (search sides depth 40 fits 5000) tt) x.up))

  -- a product of two that are not above zero
  both-down : {u v : ℤ} → u ≤ℤ pos 0 → v ≤ℤ pos 0 → pos 0 ≤ℤ (u *ℤ v)
  both-down {u} {v} h k = same_rest (byring (u ∷ v ∷ []) (search sides depth 40 fits 5000) tt) (rest h by rest k)

  rest-down : {u v : ℤ} → v <ℤ u → (v -ℤ u) ≤ℤ pos 0
  rest-down {u} {v} h = let p = atom u in let q = atom v in goal (search linear) (omega (arith, parts))

  opposite-down : {v : ℤ} → pos 0 ≤ℤ v → neg_ℤ v ≤ℤ pos 0
  opposite-down {v} h = let p = atom v in goal (search linear) (omega (arith, parts))

  down : {v : ℤ} → v <ℤ pos 0 → v ≤ℤ pos 0
  down {v} h = omega (arith, parts)

  pub bounded : whole ≤ℤ (S *ℤ (e *ℤ e))
  bounded = go (compared X (pos 0)) (compared Y (pos 0)) (compared Y X)
    where
      go : (X <ℤ pos 0) ⊎ (pos 0 ≤ℤ X) → (Y <ℤ pos 0) ⊎ (pos 0 ≤ℤ Y) → (Y <ℤ X) ⊎ (X ≤ℤ Y) → whole ≤ℤ (S *ℤ (e *ℤ e))
      go (inr p) (inr q) (inr o) = first_two (p by rest o)
      go (inr p) (inr q) (inl o) = last-two (both-down (rest-down o) (opposite-down q))
      go (inr p) (inl q) o = outer-two (p by opposite-up q)
      go (inl p) (inr q) o = outer-two (both-down (down p) (opposite-down q))
      go (inl p) (inl q) (inr o) = last-two (rest o by opposite-up q)
      go (inl p) (inl q) (inl o) = first_two (both-down (down p) (rest-down o))

-- ---- 1 more than e², for 0 ≤ e < g
pub square-less : (e g : ℤ) → pos 0 ≤ℤ e → e <ℤ g → (e *ℤ e +ℤ pos 1) ≤ℤ (g *ℤ g)
square-less e g h k =
    let r = rest-less k in
    at_most ((g -ℤ e -ℤ pos 1) *ℤ (g -ℤ e -ℤ pos 1) +ℤ (g -ℤ e -ℤ pos 1) *ℤ (e +ℤ e) +ℤ (g -ℤ e -ℤ pos 1) +ℤ (g -ℤ e -ℤ pos 1) +ℤ (e +ℤ e))
    (r by r and r by (h and h) and r and r and (h and h))
    (byring (e ∷ g ∷ []) (search sides depth 40 fits 5000) tt)

-- T at most S·e² is less than 3·S·w, if e² is less than 3·w
pub below-three : (T S e w : ℤ) → T ≤ℤ (S *ℤ (e *ℤ e)) → pos 1 ≤ℤ S → (e *ℤ e +ℤ pos 1) ≤ℤ (pos 3 *ℤ w) → T <ℤ (pos 3 *ℤ S *ℤ w)
below-three T S e w h k l =
    let up : pos 0 ≤ℤ S = omega (arith, parts) in
    less_by ((S *ℤ (e *ℤ e) -ℤ T) +ℤ S *ℤ (pos 3 *ℤ w -ℤ (e *ℤ e +ℤ pos 1)) +ℤ (S -ℤ pos 1))
    (rest h and up by rest l and rest k)
    (byring (T ∷ S ∷ e ∷ w ∷ []) (search sides depth 40 fits 5000) tt)
