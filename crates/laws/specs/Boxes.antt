-- The box of a solid: a look is outside exactly outside the box, and the box of a permitted solid lies in a cube of side 1024, a stack's of side 256.
use Rattle.std.specs.Prelude.{◌≡◌, refl, Bool, true, false, not, List, ℕ, suc, T, leb, ℤ, pos, ◌≤ℤ◌}
use Rattle.std.proofs.Common.{arith, lit≤}
use Rattle.std.specs.Int.Signed.{le_z_yes}
use Rattle.integers.specs.Order.{parts}
use Rattle.rules.specs.declared.Vector.{Vector}
use Rattle.rules.specs.declared.Stack.{Stack}
use Rattle.rules.specs.declared.Solid.{Solid}
use Rattle.rules.specs.declared.Solid.TheVariants.{Wedge as IsWedge, Stack as IsStack}
use Rattle.rules.specs.declared.Look.TheVariants.{Outside}
use Rattle.rules.specs.declared.Triangle.{Triangle}
use Rattle.rules.specs.declared.Pair.{Pair}
use Rattle.rules.specs.Answers.{Choice}
use Rattle.std.specs.Prelude.{Some as Chosen}
use Rattle.rules.specs.Vectors.{vector}
use Rattle.rules.specs.Asked.{answered}
use Rattle.rules.specs.Walk.{powers, units, step, Probe, round}
use Rattle.rules.specs.Solids.{permitted_stack, permitted, box, in_box, filled, seen_as, look}
use Rattle.rules.specs.Pick.{is_inside}
use Rattle.range.specs.Ranges.{InSide, in-sides}
use Rattle.stack.specs.Sides.{sized, side-high}
use Rattle.laws.specs.Tests.{is_true, In}
use Rattle.laws.specs.Parts.{Parts}
use Rattle.laws.specs.Triples.{All}
use Rattle.laws.specs.Frames.{Signs}
use Rattle.laws.specs.Says.{says-answered}
use Rattle.laws.specs.Looks.{As, round-says}
use Rattle.laws.specs.Chosen.{chosen-in}
use Rattle.laws.specs.Bounds.{Bounded}
use Rattle.laws.specs.Ranges.{Between, InCube, powers-begin, step-within}

-- ---- a look and the box
seen-inside : (i f : Bool) → is_inside (seen_as i f) ≡ i
unfolding is_inside
seen-inside false f = refl
seen-inside true true = refl
seen-inside true false = refl

pub look-inside : (solid : Solid) (bytes : List ℕ) (p : Vector) → is_inside (look solid bytes p) ≡ in_box (box solid) p
unfolding look
look-inside solid bytes p = seen-inside (in_box (box solid) p) (filled solid bytes p)

pub outside-box : (solid : Solid) (bytes : List ℕ) (p : Vector) → look solid bytes p ≡ Outside → T (not (in_box (box solid) p))
unfolding is_inside
outside-box solid bytes p e = rw (← look-inside solid bytes p, e) tt

seen_as_lem : (i f b : Bool) → seen_as i f ≡ As b → T i × (f ≡ b)
seen_as_lem false f true e = absurd (let z : ◌≡◌ {A = ℕ} 0 1 = cc in omega arith)
seen_as_lem false f false e = absurd (let z : ◌≡◌ {A = ℕ} 0 1 = cc in omega arith)
seen_as_lem true true true e = (tt, refl)
seen_as_lem true true false e = absurd (let z : ◌≡◌ {A = ℕ} 0 1 = cc in omega arith)
seen_as_lem true false true e = absurd (let z : ◌≡◌ {A = ℕ} 0 1 = cc in omega arith)
seen_as_lem true false false e = (tt, refl)

pub look-as : (solid : Solid) (bytes : List ℕ) (p : Vector) (b : Bool) → look solid bytes p ≡ As b → T (in_box (box solid) p) × (filled solid bytes p ≡ b)
unfolding look
look-as solid bytes p b e = seen_as_lem (in_box (box solid) p) (filled solid bytes p) b e

-- ---- cubes
pub in-cube : (M : ℕ) (sides p : Vector) → Parts (λ side. side ≤ℤ pos (suc M)) sides → T (in_box sides p) → InCube M p
in-cube M sides p h t = let i = in-sides sides p t in record { of_x = below h.of_x i.of-x; of_y = below h.of_y i.of-y; of_z = below h.of_z i.of-z }
  where
    below : {side x : ℤ} → side ≤ℤ pos (suc M) → InSide side x → Between M x
    below h i = record { low = i.low; high = omega (arith, parts) }

stack-sides : (k : Stack) (bytes : List ℕ) → T (permitted_stack k bytes) → Parts (λ side. side ≤ℤ pos 256) (box (IsStack k))
stack-sides k bytes t = let s = (sized (is_true (permitted_stack k bytes) t)).of in record { of_x = side-high s.wide; of_y = side-high s.high; of_z = side-high s.deep }

pub stack-cube : (k : Stack) (bytes : List ℕ) → T (permitted_stack k bytes) → (p : Vector) → T (is_inside (look (IsStack k) bytes p)) → InCube 255 p
stack-cube k bytes t p i = in-cube 255 (box (IsStack k)) p (stack-sides k bytes t) (rw (look-inside (IsStack k) bytes p) at i)

wider : {side : ℤ} → side ≤ℤ pos 256 → side ≤ℤ pos 1024
wider {side} h = omega (arith, parts)

solid-sides : (solid : Solid) (bytes : List ℕ) → T (permitted solid bytes) → Parts (λ side. side ≤ℤ pos 1024) (box solid)
solid-sides (IsWedge w) bytes t = record { of_x = le_z_yes tt; of_y = le_z_yes tt; of_z = le_z_yes tt }
solid-sides (IsStack k) bytes t = let h = stack-sides k bytes t in record { of_x = wider h.of_x; of_y = wider h.of_y; of_z = wider h.of_z }

-- both solids
pub solid-cube : (solid : Solid) (bytes : List ℕ) → T (permitted solid bytes) → (p : Vector) → T (is_inside (look solid bytes p)) → InCube 1023 p
solid-cube solid bytes t p i = in-cube 1023 (box solid) p (solid-sides solid bytes t) (rw (look-inside solid bytes p) at i)

-- ---- each part of every triangle vector is within 1023 along the walk, on both solids: at the beginning, and after a step by a pair that a round asked
pub units-within : All (Bounded 1023) units
units-within = record { of0 = small 1 0 0 tt tt tt; of1 = small 0 1 0 tt tt tt; of2 = small 0 0 1 tt tt tt }
  where
    small : (a b c : ℕ) → T (leb a 1023) → T (leb b 1023) → T (leb c 1023) → Bounded 1023 (vector (pos a) (pos b) (pos c))
    small a b c h k l = record { in-x = record { size = lit≤ h }; in-y = record { size = lit≤ k }; in-z = record { size = lit≤ l } }

-- what a walk on a solid is about
abbrev pub probe_on : Solid → List ℕ → Vector → Vector → ℕ → Probe
probe_on solid bytes q s R = record { look = look solid bytes; apex = q; signs = s; powers = powers R }

module _ (solid : Solid) (bytes : List ℕ) (q s : Vector) (R : ℕ) (ps : List Pair) (m : Triangle) (ok : T (permitted solid bytes)) (inside : T (is_inside (look solid bytes q))) (signed : Signs s) where
  abbrev c : Probe
  c = probe_on solid bytes q s R

  pub triangle-within : {y : Choice} {t : List Vector} → round (probe_on solid bytes q s R) ps m ≡ answered y t → All (Bounded 1023) m → (x : Pair) → In x ps → All (Bounded 1023) (step m x)
  triangle-within e h x i = step-within c 1023 (solid-cube solid bytes ok) (solid-cube solid bytes ok q inside) signed (powers-begin R).0 (powers-begin R).1 ps m e h x i

  -- so by the pair that the round chose
  pub chosen-within : (x : Pair) {t : List Vector} → round (probe_on solid bytes q s R) ps m ≡ answered (Chosen x) t → All (Bounded 1023) m → All (Bounded 1023) (step m x)
  chosen-within x e h = triangle-within e h x (chosen-in c m ps x (says-answered (round-says c ps m) e).holds)
