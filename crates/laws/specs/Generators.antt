-- What generates a face: the vectors of the level axes and the sides between the other corners. A vector of the face is a sum of c_k m_k in which the c_k of
-- the remaining axes add up to nothing: the level vectors are taken as they are, and the others come to sides from the first of them. By induction over the axes.
use Rattle.std.specs.Prelude.{◌≡◌, Bool, ℤ, pos, ◌-ℤ◌, ◌*ℤ◌}
use Rattle.std.proofs.Math.Path.{refl, sym, ap, ap₂, subst}
use Rattle.std.proofs.Common.{◌∙◌}
use Rattle.std.proofs.Math.Bool.{true, false, not}
use mathlib.Core.List.{List, [], ◌∷◌, ◌++◌, map}
use Rattle.std.proofs.Math.IntN.{◌+ℤ◌}
use Rattle.integers.specs.Reify.{byring, sides, by-eq}
use Rattle.rules.specs.declared.Vector.{Vector}
use Rattle.rules.specs.declared.Levels.{Levels}
use Rattle.rules.specs.declared.Triangle.{Triangle}
use Rattle.rules.specs.declared.Pair.TheVariants.{P01, P02}
use Rattle.rules.specs.Vectors.{◌⊕◌, ◌⊖◌, scale, dot, origin}
use Rattle.rules.specs.declared.Axis.{Axis}
use Rattle.rules.specs.declared.Axis.TheVariants.{Axis0 as axis0, Axis1 as axis1, Axis2 as axis2}
use Rattle.rules.specs.Walk.{all_axes, vector_of, way, levels, level, keep, only, remaining}
use Rattle.laws.specs.Parts.{part, vector-by-parts, part-sum, part-difference, part-scale, part-origin, dot-sum, dot-scale, dot-origin}
use Rattle.laws.specs.Triples.{combined}
use Rattle.laws.specs.Flat.{product}

-- ---- what is stated
-- v is a whole combination of some vectors
abbrev pub Combines : List Vector → Vector → Type 0
Combines [] v = v ≡ origin
Combines (g ∷ gs) v = (c : ℤ) × Combines gs (v ⊖ scale c g)

-- the sides between the corners of some axes
abbrev pub sides_between : Triangle → List Axis → List Vector
sides_between m [] = []
sides_between m (k ∷ ks) = map (λ l. vector_of m l ⊖ vector_of m k) ks ++ sides_between m ks

-- the vectors of the level axes, and the sides between the other corners
abbrev pub generators : Levels → Triangle → List Vector
generators v m = map (vector_of m) (only (level v) all_axes) ++ sides_between m (remaining v)

-- ---- vectors
module _ (u w g : Vector) where
  abbrev three : Axis → List ℤ
  three k = part k u ∷ part k w ∷ part k g ∷ []

  joined : u ⊕ (w ⊕ g) ≡ (u ⊕ w) ⊕ g
  joined = vector-by-parts (λ k. simp part-sum (byring (three k) (search sides depth 40 fits 5000) tt))

  swapped : u ⊕ (w ⊕ g) ≡ w ⊕ (u ⊕ g)
  swapped = vector-by-parts (λ k. simp part-sum (byring (three k) (search sides depth 40 fits 5000) tt))

  module _ (c : ℤ) where
    moved : (u ⊖ scale c g) ⊕ w ≡ (u ⊕ w) ⊖ scale c g
    moved = vector-by-parts (λ k. simp (part-sum, part-difference, part-scale) (byring (c ∷ three k) (search sides depth 40 fits 5000) tt))

    -- c g and e u, where u is the corner that the sides go from
    gathered : (e : ℤ) → scale c (g ⊖ u) ⊕ (w ⊖ scale e u) ≡ (scale c g ⊕ w) ⊖ scale (c +ℤ e) u
    gathered e = vector-by-parts (λ k. simp (part-sum, part-difference, part-scale) (byring (c ∷ e ∷ three k) (search sides depth 40 fits 5000) tt))

module _ (u w : Vector) (c : ℤ) where
  taken : (scale c u ⊕ w) ⊖ scale c u ≡ w
  taken = vector-by-parts (λ k. simp (part-sum, part-difference, part-scale) (byring (c ∷ part k u ∷ part k w ∷ []) (search sides depth 40 fits 5000) tt))

  leaning : (e : ℤ) → c +ℤ e ≡ pos 0 → w ⊖ scale e u ≡ scale c u ⊕ w
  leaning e h = vector-by-parts (λ k. simp (part-sum, part-difference, part-scale) (sym (by-eq (part k u) h (byring (c ∷ e ∷ part k u ∷ part k w ∷ []) (search sides depth 40 fits 5000) tt))))

module _ (u : Vector) where
  none_before : u ≡ origin ⊕ u
  none_before = vector-by-parts (λ k. simp (part-sum, part-origin) (byring (part k u ∷ []) (search sides depth 40 fits 5000) tt))

  none-behind : u ⊕ origin ≡ u
  none-behind = vector-by-parts (λ k. simp (part-sum, part-origin) (byring (part k u ∷ []) (search sides depth 40 fits 5000) tt))

  none-taken : origin ≡ origin ⊖ scale (pos 0) u
  none-taken = vector-by-parts (λ k. simp (part-difference, part-scale, part-origin) (byring (part k u ∷ []) (search sides depth 40 fits 5000) tt))

-- ---- combinations
combines-none : (gs : List Vector) → Combines gs origin
combines-none [] = refl
combines-none (g ∷ gs) = (pos 0, subst (Combines gs) (none-taken g) (combines-none gs))

pub combines-both : (gs hs : List Vector) (u w : Vector) → Combines gs u → Combines hs w → Combines (gs ++ hs) (u ⊕ w)
combines-both [] hs u w h k = subst (Combines hs) (none_before w ∙ ap (λ (a : Vector). a ⊕ w) (sym h)) k
combines-both (g ∷ gs) hs u w h k = (h.0, subst (Combines (gs ++ hs)) (moved u w g h.0) (combines-both gs hs (u ⊖ scale h.0 g) w h.1 k))

-- ---- sums over a list: of c, and of c f
module _ {A : Type 0} (c : A → ℤ) where
  pub total : List A → ℤ
  total [] = pos 0
  total (x ∷ xs) = c x +ℤ total xs

  pub sum : (A → Vector) → List A → Vector
  sum f [] = origin
  sum f (x ∷ xs) = scale (c x) (f x) ⊕ sum f xs

  pub combines-map : (f : A → Vector) (xs : List A) → Combines (map f xs) (sum f xs)
  unfolding sum
  combines-map f [] = refl
  combines-map f (x ∷ xs) = (c x, subst (Combines (map f xs)) (sym (taken (f x) (sum f xs) (c x))) (combines-map f xs))

  module _ (f : A → Vector) (test : A → Bool) where
    abbrev others : List A → List A
    others xs = only (λ x. not (test x)) xs

    pub sum-split : (xs : List A) → sum f (only test xs) ⊕ sum f (others xs) ≡ sum f xs
    unfolding sum only keep
    sum-split [] = none-behind origin
    sum-split (x ∷ xs) = go (test x) ∙ ap (λ u. scale (c x) (f x) ⊕ u) (sum-split xs)
      where
        go : (b : Bool) → sum f (keep b x (only test xs)) ⊕ sum f (keep (not b) x (others xs)) ≡ scale (c x) (f x) ⊕ (sum f (only test xs) ⊕ sum f (others xs))
        go true = sym (joined (scale (c x) (f x)) (sum f (only test xs)) (sum f (others xs)))
        go false = swapped (sum f (only test xs)) (scale (c x) (f x)) (sum f (others xs))

    -- the product with n, which is 0 with the vectors of the test and 1 with the others
    pub dot-total : (n : Vector) → ((x : A) → dot n (f x) ≡ product (test x)) → (xs : List A) → dot n (sum f xs) ≡ total (others xs)
    unfolding sum total only keep
    dot-total n h [] = dot-origin n
    dot-total n h (x ∷ xs) = dot-sum n (scale (c x) (f x)) (sum f xs) ∙ ap₂ ◌+ℤ◌ (dot-scale n (f x) (c x) ∙ ap (λ z. c x *ℤ z) (h x)) (dot-total n h xs) ∙ go (test x)
      where
        go : (b : Bool) → c x *ℤ product b +ℤ total (others xs) ≡ total (keep (not b) x (others xs))
        go true = byring (c x ∷ total (others xs) ∷ []) (search sides depth 40 fits 5000) tt
        go false = byring (c x ∷ total (others xs) ∷ []) (search sides depth 40 fits 5000) tt

-- ---- sides
module _ (m : Triangle) (c : Axis → ℤ) where
  from-corner : (k : Axis) (ks : List Axis) → sum c (λ l. vector_of m l ⊖ vector_of m k) ks ≡ sum c (vector_of m) ks ⊖ scale (total c ks) (vector_of m k)
  unfolding sum total
  from-corner k [] = none-taken (vector_of m k)
  from-corner k (l ∷ ls) = ap (λ u. scale (c l) (vector_of m l ⊖ vector_of m k) ⊕ u) (from-corner k ls) ∙ gathered (vector_of m k) (sum c (vector_of m) ls) (vector_of m l) (c l) (total c ls)

  pub combines-sides : (ks : List Axis) → total c ks ≡ pos 0 → Combines (sides_between m ks) (sum c (vector_of m) ks)
  unfolding sum total
  combines-sides [] h = refl
  combines-sides (k ∷ ks) h =
      subst (Combines (sides_between m (k ∷ ks))) (none-behind _ ∙ from-corner k ks ∙ leaning (vector_of m k) (sum c (vector_of m) ks) (c k) (total c ks) h)
      (combines-both (map (λ l. vector_of m l ⊖ vector_of m k) ks) (sides_between m ks) _ origin (combines-map c (λ l. vector_of m l ⊖ vector_of m k) ks) (combines-none (sides_between m ks)))

-- ---- a face: n has product 0 with the level vectors and 1 with the others
abbrev pub Products : Levels → Vector → Triangle → Type 0
Products v n m = (k : Axis) → dot n (vector_of m k) ≡ product (level v k)

module _ (v : Levels) (n : Vector) (m : Triangle) (p : Products v n m) where
  pub all_three : (c : Axis → ℤ) → combined m (c axis0) (c axis1) (c axis2) ≡ sum c (vector_of m) all_axes
  unfolding sum
  all_three c = sym (joined (scale (c axis0) m.m0) (scale (c axis1) m.m1) (scale (c axis2) m.m2)) ∙ ap (λ u. scale (c axis0) m.m0 ⊕ (scale (c axis1) m.m1 ⊕ u)) (sym (none-behind (scale (c axis2) m.m2)))

-- ---- with no level axis: the sides from corner 0 are enough
pub two-sides : (m : Triangle) (v : Vector) → Combines (generators (levels false false false) m) v → (c1 : ℤ) × (c2 : ℤ) × (v ≡ scale c1 (way m P01) ⊕ scale c2 (way m P02))
unfolding remaining only keep
two-sides m v h = (h.0 -ℤ h.1.1.0, h.1.0 +ℤ h.1.1.0, vector-by-parts along)
  where
    along : (k : Axis) → part k v ≡ part k (scale (h.0 -ℤ h.1.1.0) (way m P01) ⊕ scale (h.1.0 +ℤ h.1.1.0) (way m P02))
    along k =
        simp (part-sum, part-difference, part-scale)
        (by-eq (pos 1) (simp (part-difference, part-scale, part-origin) at (ap (part k) h.1.1.1))
        (byring (h.0 ∷ h.1.0 ∷ h.1.1.0 ∷ part k v ∷ part k m.m0 ∷ part k m.m1 ∷ part k m.m2 ∷ []) (search sides depth 40 fits 5000) tt))
