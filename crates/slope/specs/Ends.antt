-- Where no pair that takes part goes down, the heights N·m_k of the remaining axes are equal, a say, and those of the level axes are 0: so N is a times a whole vector,
-- and if a is 1, N with 1 along the level axes is the triangle's normal.
use Rattle.std.specs.Prelude.{◌≡◌, refl, ◌⊎◌, Bool, true, false, not, [], ◌∷◌, T, ℤ, pos, ◌+ℤ◌, ◌-ℤ◌, ◌*ℤ◌, ◌≤ℤ◌}
use Rattle.std.proofs.Common.{sym, ap, subst, ◌∙◌, inl, inr, arith}
use Rattle.std.proofs.Math.Facts.{yes_and}
use Rattle.integers.specs.Reify.{byring, sides}
use Rattle.integers.specs.Order.{parts, linear, atom, goal, fact}
use Rattle.rules.specs.declared.Vector.{Vector}
use Rattle.rules.specs.declared.Levels.{Levels}
use Rattle.rules.specs.declared.Triangle.{Triangle}
use Rattle.rules.specs.declared.Pair.{Pair}
use Rattle.rules.specs.declared.Pair.TheVariants.{P01, P02, P10, P12, P20, P21}
use Rattle.rules.specs.Vectors.{scale, dot}
use Rattle.rules.specs.declared.Axis.{Axis}
use Rattle.rules.specs.declared.Axis.TheVariants.{Axis0 as axis0, Axis1 as axis1, Axis2 as axis2}
use Rattle.rules.specs.Walk.{vector_of, from, to, first, second, level, takes_part, levelled, normal}
use Rattle.laws.specs.Parts.{dot-difference, scale_one}
use Rattle.laws.specs.Triples.{all_of, crosses, combined, equal-products}
use Rattle.laws.specs.Flat.{Lies, raised, is_one, product, raised-dot, raised-same, raised-way, level-dot, levelled-raised, scaled-products}
use Rattle.slope.specs.Ideal.{Even}

-- two axes are the same, or a pair's
joined : (k l : Axis) → (k ≡ l) ⊎ ((x : Pair) × (from x ≡ k) × (to x ≡ l))
joined axis0 axis0 = inl refl
joined axis0 axis1 = inr (P01, refl, refl)
joined axis0 axis2 = inr (P02, refl, refl)
joined axis1 axis0 = inr (P10, refl, refl)
joined axis1 axis1 = inl refl
joined axis1 axis2 = inr (P12, refl, refl)
joined axis2 axis0 = inr (P20, refl, refl)
joined axis2 axis1 = inr (P21, refl, refl)
joined axis2 axis2 = inl refl

ordered : (x y : ℤ) → pos 0 ≤ℤ (y -ℤ x) → x ≤ℤ y
ordered x y h = let a = atom x in let b = atom y in goal (search linear) (omega (arith, fact (search linear) h))

-- a height by its axis, level or not, and with 1 more along a level axis
by_level : (b : Bool) (z a : ℤ) → (T b → z ≡ pos 0) → (T (not b) → z ≡ a) → z ≡ a *ℤ product b
by_level true z a p q = p tt ∙ byring (a ∷ []) (search sides depth 40 fits 5000) tt
by_level false z a p q = q tt ∙ byring (a ∷ []) (search sides depth 40 fits 5000) tt

one_more : (b : Bool) → pos 1 *ℤ product b +ℤ is_one b ≡ pos 1
one_more true = refl
one_more false = refl

module _ (N : Vector) (v : Levels) (lies : Lies v N) (m : Triangle) (even : Even (raised v N) v m) where
  abbrev height : Axis → ℤ
  height k = dot N (vector_of m k)

  abbrev remains : Axis → Type 0
  remains k = T (not (level v k))

  not-higher : (x : Pair) → T (takes_part v x) → dot N (first m x) ≤ℤ dot N (second m x)
  not-higher x h = ordered _ _ (rw (raised-way v m even.upright.flat N lies x h, dot-difference N (second m x) (first m x)) at (even.none x h))

  at_most : (k l : Axis) → remains k → remains l → height k ≤ℤ height l
  unfolding takes_part
  at_most k l h j = go (joined k l)
    where
      go : (k ≡ l) ⊎ ((x : Pair) × (from x ≡ k) × (to x ≡ l)) → height k ≤ℤ height l
      go (inl e) = rw e (omega (arith, parts))
      go (inr p) =
          let x = p.0 in
          rw (← p.1, ← p.2) (not-higher x (yes_and (not (level v (from x))) (not (level v (to x))) (subst remains (sym p.1) h) (subst remains (sym p.2) j)))

  -- a is the height of a remaining axis k
  module _ (k : Axis) (r : remains k) where
    pub at-least-1 : pos 1 ≤ℤ dot N (vector_of m k)
    at-least-1 = rw (← raised-same v m even.upright.flat N lies k r) (all_of even.upright.high k)

    height-is : (l : Axis) → height l ≡ height k *ℤ product (level v l)
    height-is l = by_level (level v l) (height l) (height k) (level-dot v m even.upright.flat N lies l) (λ j. let a = at_most k l r j in let b = at_most l k j r in omega (arith, parts))

    -- N is a times a whole vector
    pub multiple : N ≡ scale (dot N (vector_of m k)) (combined (crosses m) (product v.x) (product v.y) (product v.z))
    multiple = scaled-products N m (height k) (λ l. product (level v l)) even.upright.unimodular height-is

    pub is_normal : dot N (vector_of m k) ≡ pos 1 → levelled v (normal m) ≡ N
    is_normal one = ap (levelled v) (sym raised_is) ∙ levelled-raised v N lies
      where
        all_one : (l : Axis) → dot (raised v N) (vector_of m l) ≡ pos 1
        all_one l = raised-dot v m even.upright.flat N lies l ∙ ap (λ z. z +ℤ is_one (level v l)) (height-is l ∙ ap (λ z. z *ℤ product (level v l)) one) ∙ one_more (level v l)

        raised_is : raised v N ≡ normal m
        raised_is =
            equal-products (raised v N) m even.upright.unimodular (all_one axis1 ∙ sym (all_one axis0)) (all_one axis2 ∙ sym (all_one axis0))
            ∙ ap (λ (z : ℤ). scale z (normal m)) (all_one axis0) ∙ scale_one (normal m)
