-- Document 01, "The probing walk", in its order and words, with document 02's level faces (2026-01) and the corners of its quick touch (2026-04), over any solid: the walk knows a solid by its look alone.
-- These are definitions: nothing here is proved.
use Rattle.std.specs.Prelude.{Bool, true, false, not, ◌&&◌, ◌||◌, List, [], ◌∷◌, ℕ, zero, suc, ◌+◌, ◌-◌, ◌/◌, ◌%◌, ℤ, pos, negsuc, leb, length}
use Rattle.std.specs.Int.Signed.{lt_z}
use Rattle.rules.specs.declared.Vector.{Vector}
use Rattle.rules.specs.declared.Look.{Look}
use Rattle.rules.specs.declared.Look.TheVariants.{Filled, Empty, Outside}
use Rattle.rules.specs.declared.Levels.{Levels}
use Rattle.rules.specs.declared.Axis.{Axis}
use Rattle.rules.specs.declared.Axis.TheVariants.{Axis0 as axis0, Axis1 as axis1, Axis2 as axis2}
use Rattle.rules.specs.declared.Triangle.{Triangle}
use Rattle.rules.specs.declared.Pair.{Pair}
use Rattle.rules.specs.declared.Pair.TheVariants.{P01, P02, P10, P12, P20, P21}
use Rattle.rules.specs.Answers.{Choice}
use Rattle.std.specs.Prelude.{None as Nothing, Some as Chosen}
use Rattle.rules.specs.Vectors.{vector, ◌⊕◌, ◌⊖◌, minus, scale, cross, sphere, lay, size, unit0, unit1, unit2}
use Rattle.rules.specs.Asked.{Asked, answered, refused, ◌>>=◌, ◌>>◌}

-- the refusal of a pick, or of a quick touch: its number, the place returned and the steps so far
pub record Stop : Type 0 where
  pub number : ℕ
  pub place : Vector
  pub steps : ℕ

abbrev pub stop : ℕ → Vector → ℕ → Stop
stop number place steps = record { number = number; place = place; steps = steps }

-- go on if the test holds, else refuse
unfoldable pub ensure : Bool → Stop → Asked Stop (Unit {0})
ensure true r = answered tt []
ensure false r = refused r []

-- ---- Frame 0 to 7: bit 0, 1, 2 set means that axis 0, 1, 2 has sign -1, otherwise +1
unfoldable pub sign : ℕ → ℤ
sign zero = pos 1
sign (suc n) = negsuc 0

unfoldable pub signs : ℕ → Vector
signs frame = vector (sign (frame % 2)) (sign (frame / 2 % 2)) (sign (frame / 4 % 2))

-- ---- A look asks whether one voxel in the box is filled. A point outside is not counted
unfoldable pub seen : Look → Vector → Asked Vector Bool
seen Filled p = answered true (p ∷ [])
seen Empty p = answered false (p ∷ [])
seen Outside p = refused p []

-- a point outside the box ends it with refusal 8
unfoldable pub asked : {A : Type 0} → ℕ → Asked Vector A → Asked Stop A
asked steps (answered a t) = answered a t
asked steps (refused p t) = refused (stop 8 p steps) t

-- ---- The powers are 1, 2, 4, .. up to the first that is at least R. From l on; theorem `powers-reach`: the first argument never runs out before that one
unfoldable pub powers_from : ℕ → ℕ → ℕ → List ℕ
powers_from zero l R = l ∷ []
powers_from (suc fuel) l R = l ∷ (elim (leb R l) [ true ↦ [] | false ↦ powers_from fuel (l + l) R ])

unfoldable pub powers : ℕ → List ℕ
powers R = powers_from R 1 R

-- ---- the axes and the triangle vectors, one for each axis
abbrev pub all_axes : List Axis
all_axes = axis0 ∷ axis1 ∷ axis2 ∷ []

abbrev pub unit : Axis → Vector
unit axis0 = unit0
unit axis1 = unit1
unit axis2 = unit2

abbrev pub triangle : Vector → Vector → Vector → Triangle
triangle a b c = record { m0 = a; m1 = b; m2 = c }

abbrev pub units : Triangle
units = triangle unit0 unit1 unit2

-- m_k
abbrev pub vector_of : Triangle → Axis → Vector
vector_of m axis0 = m.m0
vector_of m axis1 = m.m1
vector_of m axis2 = m.m2

-- the triangle with a in that place
abbrev pub with_vector : Triangle → Axis → Vector → Triangle
with_vector m axis0 a = triangle a m.m1 m.m2
with_vector m axis1 a = triangle m.m0 a m.m2
with_vector m axis2 a = triangle m.m0 m.m1 a

-- ---- the six pairs (k, l) in the order in which they are asked
abbrev pub pairs : List Pair
pairs = P01 ∷ P02 ∷ P10 ∷ P12 ∷ P20 ∷ P21 ∷ []

-- k
abbrev pub from : Pair → Axis
from P01 = axis0
from P02 = axis0
from P10 = axis1
from P12 = axis1
from P20 = axis2
from P21 = axis2

-- l
abbrev pub to : Pair → Axis
to P01 = axis1
to P02 = axis2
to P10 = axis0
to P12 = axis2
to P20 = axis0
to P21 = axis1

-- m_k and m_l
abbrev pub first : Triangle → Pair → Vector
first m x = vector_of m (from x)

abbrev pub second : Triangle → Pair → Vector
second m x = vector_of m (to x)

-- m_l - m_k, of which a pair asks whether it falls
abbrev pub way : Triangle → Pair → Vector
way m x = second m x ⊖ first m x

-- the triangle with a in the place of m_k
abbrev pub with : Triangle → Pair → Vector → Triangle
with m x a = with_vector m (from x) a

-- a step: replace m_k by m_k - m_l
abbrev pub step : Triangle → Pair → Triangle
step m x = with m x (first m x ⊖ second m x)

-- the sum of the cross products m0×m1, m1×m2, m2×m0
unfoldable pub normal : Triangle → Vector
normal m = cross m.m0 m.m1 ⊕ cross m.m1 m.m2 ⊕ cross m.m2 m.m0

-- ---- 2026-01: level axes
abbrev pub levels : Bool → Bool → Bool → Levels
levels a b c = record { x = a; y = b; z = c }

abbrev pub level : Levels → Axis → Bool
level v axis0 = v.x
level v axis1 = v.y
level v axis2 = v.z

-- no axis
abbrev pub none_level : Levels
none_level = levels false false false

unfoldable pub all_level : Levels → Bool
all_level v = level v axis0 && (level v axis1 && level v axis2)

-- a list with one more, if a test holds of it
unfoldable pub keep : {A : Type 0} → Bool → A → List A → List A
keep true x xs = x ∷ xs
keep false x xs = xs

-- those of a list of which a test holds
unfoldable pub only : {A : Type 0} → (A → Bool) → List A → List A
only test [] = []
only test (x ∷ xs) = keep (test x) x (only test xs)

-- the remaining axes
unfoldable pub remaining : Levels → List Axis
remaining v = only (λ k. not (level v k)) all_axes

-- a level axis takes no part in the pairs
unfoldable pub takes_part : Levels → Pair → Bool
takes_part v x = not (level v (from x)) && not (level v (to x))

-- the component of a level axis is 0
abbrev pub unless_level : Bool → ℤ → ℤ
unless_level true z = pos 0
unless_level false z = z

unfoldable pub levelled : Levels → Vector → Vector
levelled v n = vector (unless_level v.x n.x) (unless_level v.y n.y) (unless_level v.z n.z)

-- ---- Choice. The corners are v_k = q - m_k and the candidate of (k, l) is q + m_l - m_k, so the rows v1 - v0, v2 - v0, x - v0, y - v0 are these
unfoldable pub determinant : Triangle → Pair → Pair → ℤ
determinant m x y = sphere (m.m0 ⊖ m.m1) (m.m0 ⊖ m.m2) (m.m0 ⊕ way m x) (m.m0 ⊕ way m y)

-- y is strictly inside the sphere through the triangle and x exactly if it is negative (x is never inside its own, the determinant being 1: theorem `not-inside-itself`)
unfoldable pub inside : Triangle → Pair → Pair → Bool
inside m x y = lt_z (determinant m x y) (pos 0)

unfoldable pub any_inside : Triangle → Pair → List Pair → Bool
any_inside m x [] = false
any_inside m x (y ∷ ys) = inside m x y || any_inside m x ys

-- the first of xs whose sphere has no pair of falling inside
unfoldable pub first_free : Triangle → List Pair → List Pair → Choice
first_free m falling [] = Nothing
first_free m falling (x ∷ xs) = elim (any_inside m x falling) [ false ↦ Chosen x | true ↦ first_free m falling xs ]

-- the first falling pair whose sphere has no other falling candidate strictly inside. Nothing only if none falls, at every triangle that a walk meets: theorem `walk_ends`
unfoldable pub choice : Triangle → List Pair → Choice
choice m falling = first_free m falling falling

-- ---- the questions of one solid
module _ (look : Vector → Look) where
  unfoldable pub look_at : Vector → Asked Vector Bool
  look_at p = seen (look p) p

  -- from q, at these powers: upward, and asking stops at the first filled one
  unfoldable pub falls_at : Vector → Vector → List ℕ → Asked Vector Bool
  falls_at q u [] = answered false []
  falls_at q u (l ∷ ls) = do
    f ← look_at (q ⊕ scale (pos l) u)
    elim f [ true ↦ answered true [] | false ↦ falls_at q u ls ]

-- ---- what a walk is about: a solid's look, the apex q, the signs s of the frame and the powers
pub record Probe : Type 0 where
  pub look : Vector → Look
  pub apex : Vector
  pub signs : Vector
  pub powers : List ℕ

-- the same at other powers
abbrev pub at_powers : List ℕ → Probe → Probe
at_powers ls c = record { look = c.look; apex = c.apex; signs = c.signs; powers = ls }

-- what the walk's end returns, laid into the box
pub record Found : Type 0 where
  pub normal : Vector
  pub triangle : Triangle
  pub apex : Vector
  pub steps : ℕ

-- a triangle laid into the box, or back out of it
abbrev pub laid : Vector → Triangle → Triangle
laid s m = triangle (lay s m.m0) (lay s m.m1) (lay s m.m2)

module _ (c : Probe) where
  abbrev q : Vector
  q = c.apex

  abbrev s : Vector
  s = c.signs

  -- a vector u, laid in, falls if q + l·u is filled for some power l. Powers are looked at upward and asking stops at the first filled one
  abbrev pub falls : Vector → Asked Vector Bool
  falls u = falls_at c.look q u c.powers

  -- 1. look at p, then, if p is filled, q
  unfoldable pub facing : Vector → Asked Stop (Unit {0})
  facing p = do
    f ← asked 0 (look_at c.look p)
    ensure f (stop 5 p 0)
    g ← asked 0 (look_at c.look q)
    ensure (not g) (stop 6 q 0)

  -- q less the unit vector e, laid in
  abbrev pub corner : Vector → Vector
  corner e = q ⊕ lay s (minus e)

  -- 2. ask whether minus an axis's unit vector falls. When it doesn't, its opposite is asked too: refusal 7 if that falls, else the axis is level
  unfoldable pub is_level : Vector → Asked Stop Bool
  is_level e = do
    f ← asked 0 (falls (lay s (minus e)))
    elim f [
      | true ↦ answered false []
      | false ↦ do
        g ← asked 0 (falls (lay s e))
        ensure (not g) (stop 7 (corner e) 0)
        answered true []
    ]

  -- for axis 0, 1, 2; refusal 7, with the place as for axis 0, if all three are level
  unfoldable pub axes : Asked Stop Levels
  axes = do
    x ← is_level (unit axis0)
    y ← is_level (unit axis1)
    z ← is_level (unit axis2)
    ensure (not (all_level (levels x y z))) (stop 7 (corner (unit axis0)) 0)
    answered (levels x y z) []

  -- 1 and 2: which axes are level
  unfoldable pub start : Vector → Asked Stop Levels
  start p = do
    facing p
    axes

  -- 2026-04, in the place of 2: the corners of these unit vectors must be filled, lowest first
  unfoldable pub corners_filled : List Vector → Asked Stop (Unit {0})
  corners_filled [] = answered tt []
  corners_filled (e ∷ es) = do
    f ← asked 0 (look_at c.look (corner e))
    ensure f (stop 11 (corner e) 0)
    corners_filled es

  -- for axis 0, 1, 2. The axis questions go away: no axis is level
  unfoldable pub all_corners : Asked Stop Levels
  all_corners = do
    corners_filled (unit axis0 ∷ unit axis1 ∷ unit axis2 ∷ [])
    answered none_level []

  -- 1, and the corners in the place of 2
  unfoldable pub quick_start : Vector → Asked Stop Levels
  quick_start p = do
    facing p
    all_corners

  -- 4. all pairs are asked, even after one has fallen
  unfoldable pub falling : Triangle → List Pair → Asked Vector (List Pair)
  falling m [] = answered [] []
  falling m (x ∷ xs) = do
    f ← falls (lay s (way m x))
    r ← falling m xs
    answered (keep f x r) []

  -- with the pairs ps, those that take part
  module _ (ps : List Pair) where
    -- a round: the pair to step by, if one falls
    unfoldable pub round : Triangle → Asked Vector Choice
    round m = do
      fs ← falling m ps
      answered (choice m fs) []

    -- 5, 6. the rounds after n steps, with `left` steps more allowed
    unfoldable pub walk : ℕ → ℕ → Triangle → Asked Stop (Triangle × ℕ)
    walk zero n m = do
      chosen ← asked n (round m)
      elim chosen [ Nothing ↦ answered (m, n) [] | Chosen x ↦ refused (stop 9 q n) [] ]
    walk (suc left) n m = do
      chosen ← asked n (round m)
      elim chosen [ Nothing ↦ answered (m, n) [] | Chosen x ↦ walk left (suc n) (step m x) ]

  -- the normal and the triangle vectors, laid into the box sign by sign
  unfoldable pub found : Levels → Triangle × ℕ → Found
  found v e = record { normal = lay s (levelled v (normal e.0)); triangle = laid s e.0; apex = q; steps = e.1 }

  -- with the reach R and the level axes v
  module _ (R : ℕ) (v : Levels) where
    -- 3. begin with the unit vectors and zero steps; as many steps are allowed as the reach less the number of remaining axes, none if that is below zero
    unfoldable pub rounds : Asked Stop (Triangle × ℕ)
    rounds = walk (only (takes_part v) pairs) (R - length (remaining v)) 0 units

    -- the end: refusal 10, or what was found
    unfoldable pub end : Triangle × ℕ → Asked Stop Found
    end e = do
      ensure (leb (size (levelled v (normal e.0))) R) (stop 10 q e.1)
      answered (found v e) []

    -- the rounds, then the end
    abbrev pub to_the_end : Asked Stop Found
    to_the_end = do
      e ← rounds
      end e
