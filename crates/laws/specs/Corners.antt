-- The corners of a quick touch: each lies in the box where p and q do, since each of its parts is p's or q's; they are looked at in their order, until one is empty.
use Rattle.std.specs.Prelude.{◌≡◌, refl, ◌⊎◌, Bool, not, ℕ, zero, suc, ◌≤◌, length, ℤ, pos, neg_ℤ, ◌+ℤ◌, ◌*ℤ◌}
use Rattle.std.proofs.Common.{inl, arith}
use Rattle.std.proofs.Math.Logic.{inr}
use Rattle.std.proofs.Math.Bool.{true, false}
use mathlib.Core.List.{List, [], ◌∷◌}
use Rattle.std.proofs.Math.Dec.{T}
use Rattle.std.proofs.Math.Facts.{and_yes, yes_and}
use Rattle.integers.specs.Reify.{byring, sides}
use Rattle.rules.specs.declared.Vector.{Vector}
use Rattle.rules.specs.declared.Solid.{Solid}
use Rattle.rules.specs.declared.Look.TheVariants.{Filled, Empty}
use Rattle.rules.specs.Vectors.{◌⊕◌, minus, lay}
use Rattle.rules.specs.Solids.{in_side, box, in_box, look}
use Rattle.rules.specs.declared.Axis.{Axis}
use Rattle.rules.specs.declared.Axis.TheVariants.{Axis0 as axis0, Axis1 as axis1, Axis2 as axis2}
use Rattle.rules.specs.Walk.{Stop, stop, unit, Probe, corner, corners_filled}
use Rattle.rules.specs.Pick.{is_inside}
use Rattle.laws.specs.Tests.{Each}
use Rattle.laws.specs.Parts.{part, part-sum, part-minus, part-lay}
use Rattle.laws.specs.Says.{Says, says-answer, says-weaker, says-bind, says-ensure}
use Rattle.laws.specs.Looks.{As}
use Rattle.laws.specs.Next.{earlier}
use Rattle.laws.specs.Boxes.{look-inside}
use Rattle.laws.specs.PickRule.{looked-inside}

-- ---- in the box
box-part : (sides v : Vector) → T (in_box sides v) → (j : Axis) → T (in_side (part j sides) (part j v))
unfolding in_box
box-part sides v t axis0 = (and_yes (in_side sides.x v.x) _ t).0
box-part sides v t axis1 = (and_yes (in_side sides.y v.y) (in_side sides.z v.z) (and_yes (in_side sides.x v.x) _ t).1).0
box-part sides v t axis2 = (and_yes (in_side sides.y v.y) (in_side sides.z v.z) (and_yes (in_side sides.x v.x) _ t).1).1

in-box-by : (sides v : Vector) → ((j : Axis) → T (in_side (part j sides) (part j v))) → T (in_box sides v)
unfolding in_box
in-box-by sides v h = yes_and (in_side sides.x v.x) _ (h axis0) (yes_and (in_side sides.y v.y) (in_side sides.z v.z) (h axis1) (h axis2))

unit-part : (j k : Axis) → (part j (unit k) ≡ pos 1) ⊎ (part j (unit k) ≡ pos 0)
unit-part axis0 axis0 = inl refl
unit-part axis0 axis1 = inr refl
unit-part axis0 axis2 = inr refl
unit-part axis1 axis0 = inr refl
unit-part axis1 axis1 = inl refl
unit-part axis1 axis2 = inr refl
unit-part axis2 axis0 = inr refl
unit-part axis2 axis1 = inr refl
unit-part axis2 axis2 = inl refl

back : (p s : ℤ) → p +ℤ s +ℤ s *ℤ neg_ℤ (pos 1) ≡ p
back p s = byring (p ∷ s ∷ []) (search sides depth 40 fits 5000) tt

stays : (q s : ℤ) → q +ℤ s *ℤ neg_ℤ (pos 0) ≡ q
stays q s = byring (q ∷ s ∷ []) (search sides depth 40 fits 5000) tt

module _ (p s : Vector) where
  -- q less a unit vector, laid in
  abbrev beside : Axis → Vector
  beside k = p ⊕ s ⊕ lay s (minus (unit k))

  beside-part : (k j : Axis) → (part j (beside k) ≡ part j p) ⊎ (part j (beside k) ≡ part j (p ⊕ s))
  beside-part k j = go (unit-part j k)
    where
      parts_are : part j (beside k) ≡ part j (p ⊕ s) +ℤ part j s *ℤ neg_ℤ (part j (unit k))
      parts_are = simp (part-sum, part-lay, part-minus) refl

      go : (part j (unit k) ≡ pos 1) ⊎ (part j (unit k) ≡ pos 0) → (part j (beside k) ≡ part j p) ⊎ (part j (beside k) ≡ part j (p ⊕ s))
      go (inl e) = inl (rw (parts_are, e, part-sum j p s) (back (part j p) (part j s)))
      go (inr e) = inr (rw (parts_are, e) (stays (part j (p ⊕ s)) (part j s)))

  beside-in : (sides : Vector) → T (in_box sides p) → T (in_box sides (p ⊕ s)) → (k : Axis) → T (in_box sides (beside k))
  beside-in sides h i k = in-box-by sides (beside k) (λ j. go j (beside-part k j))
    where
      go : (j : Axis) → (part j (beside k) ≡ part j p) ⊎ (part j (beside k) ≡ part j (p ⊕ s)) → T (in_side (part j sides) (part j (beside k)))
      go j (inl e) = rw e (box-part sides p h j)
      go j (inr e) = rw e (box-part sides (p ⊕ s) i j)

pub corner-inside : (solid : Solid) (bytes : List ℕ) (p s : Vector) → T (is_inside (look solid bytes p)) → T (is_inside (look solid bytes (p ⊕ s))) → (k : Axis) → T (is_inside (look solid bytes (p ⊕ s ⊕ lay s (minus (unit k)))))
corner-inside solid bytes p s h i k =
    rw (look-inside solid bytes (beside p s k)) (beside-in p s (box solid) (rw (look-inside solid bytes p) at h) (rw (look-inside solid bytes (p ⊕ s)) at i) k)

-- ---- in their order
-- how many of the three are looked at, that one too
abbrev pub nth : Axis → ℕ
nth axis0 = 1
nth axis1 = 2
nth axis2 = 3

pub nth-most : (k : Axis) → nth k ≤ 3
nth-most axis0 = omega arith
nth-most axis1 = omega arith
nth-most axis2 = omega arith

module _ (c : Probe) where
  -- r is refusal 11 at the first empty corner, the one looked at last of n
  abbrev pub FirstEmpty : List Vector → Stop → ℕ → Type 0
  FirstEmpty [] r n = ⊥
  FirstEmpty (e ∷ es) r zero = ⊥
  FirstEmpty (e ∷ es) r (suc n) = ((c.look (corner c e) ≡ Empty) × (r ≡ stop 11 (corner c e) 0) × (n ≡ 0)) ⊎ ((c.look (corner c e) ≡ Filled) × FirstEmpty es r n)

  pub corners-say : (es : List Vector) → Each (λ e. T (is_inside (c.look (corner c e)))) es
      → Says (λ _ t. Each (λ e. c.look (corner c e) ≡ Filled) es × (length t ≡ length es)) (λ r t. FirstEmpty es r (length t)) (corners_filled c es)
  unfolding corners_filled
  corners-say [] i = says-answer (tt, refl)
  corners-say (e ∷ es) i =
      says-bind {G = λ r t. FirstEmpty (e ∷ es) r (length t)} _ _ (looked-inside c (corner c e) i.0) (λ r t k. k) (λ f t a. rw a.1
      (says-ensure f _ _ (not-filled f a.0) (λ filled. says-weaker _ (λ _ s k. ((is-filled f a.0 filled, k.0), rw k.1)) (λ r s k. inr (is-filled f a.0 filled, k)) (corners-say es i.1))))
    where
      is-filled : (b : Bool) → c.look (corner c e) ≡ As b → T b → c.look (corner c e) ≡ Filled
      is-filled true h t = h
      is-filled false h t = absurd t

      not-filled : (b : Bool) → c.look (corner c e) ≡ As b → T (not b) → FirstEmpty (e ∷ es) (stop 11 (corner c e) 0) 1
      not-filled true h t = absurd t
      not-filled false h t = inl (h, refl, refl)

  -- ---- of the three axes, the lowest whose corner is empty
  pub record CornerEmpty (r : Stop) : Type 0 where
    pub axis : Axis
    pub is : r ≡ stop 11 (corner c (unit axis)) 0
    pub empty : c.look (corner c (unit axis)) ≡ Empty
    pub lower : (j : Axis) → T (earlier j axis) → c.look (corner c (unit j)) ≡ Filled

  pub corner-empty : {r : Stop} (n : ℕ) → FirstEmpty (unit axis0 ∷ unit axis1 ∷ unit axis2 ∷ []) r n → (h : CornerEmpty r) × (n ≡ nth h.axis)
  corner-empty zero h = absurd h
  corner-empty (suc n) (inl h) = (record { axis = axis0; is = h.1; empty = h.0; lower = none }, rw h.2)
    where
      none : (j : Axis) → T (earlier j axis0) → c.look (corner c (unit j)) ≡ Filled
      none axis0 t = absurd t
      none axis1 t = absurd t
      none axis2 t = absurd t
  corner-empty (suc zero) (inr h) = absurd h.1
  corner-empty (suc (suc n)) (inr (f, inl h)) = (record { axis = axis1; is = h.1; empty = h.0; lower = one }, rw h.2)
    where
      one : (j : Axis) → T (earlier j axis1) → c.look (corner c (unit j)) ≡ Filled
      one axis0 t = f
      one axis1 t = absurd t
      one axis2 t = absurd t
  corner-empty (suc (suc zero)) (inr (f, inr h)) = absurd h.1
  corner-empty (suc (suc (suc n))) (inr (f, inr (g, inl h))) = (record { axis = axis2; is = h.1; empty = h.0; lower = two }, rw h.2)
    where
      two : (j : Axis) → T (earlier j axis2) → c.look (corner c (unit j)) ≡ Filled
      two axis0 t = f
      two axis1 t = g
      two axis2 t = absurd t
  corner-empty (suc (suc (suc n))) (inr (f, inr (g, inr h))) = absurd h.1
