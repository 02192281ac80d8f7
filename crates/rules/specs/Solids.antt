-- Document 01, "Solids and boxes", and the look. These are definitions: nothing here is proved.
use Rattle.std.specs.Prelude.{Bool, true, false, ◌&&◌, List, ℕ, ◌+◌, ◌-◌, ◌*◌, ◌/◌, ◌%◌, ◌^◌, eqb, leb, ℤ, pos, negsuc, nat_abs, length, get_or}
use Rattle.std.specs.Int.Signed.{le_z, lt_z}
use Rattle.rules.specs.declared.Vector.{Vector}
use Rattle.rules.specs.declared.Wedge.{Wedge}
use Rattle.rules.specs.declared.Stack.{Stack}
use Rattle.rules.specs.declared.Solid.{Solid}
use Rattle.rules.specs.declared.Solid.TheVariants.{Wedge as IsWedge, Stack as IsStack}
use Rattle.rules.specs.declared.Look.{Look}
use Rattle.rules.specs.declared.Look.TheVariants.{Filled, Empty, Outside}
use Rattle.rules.specs.Vectors.{vector, dot}

-- from low to high, both permitted
unfoldable pub between : ℤ → ℤ → ℤ → Bool
between low x high = le_z low x && le_z x high

-- ---- Wedge: a, b, c each from -1000 to 1000, h from -4,000,000 to 4,000,000
unfoldable pub permitted_wedge : Wedge → Bool
permitted_wedge w =
    between (negsuc 999) w.a (pos 1000)
    && (between (negsuc 999) w.b (pos 1000)
    && (between (negsuc 999) w.c (pos 1000) && between (negsuc 3999999) w.h (pos 4000000)))

-- filled exactly if ax + by + cz < h
unfoldable pub filled_wedge : Wedge → Vector → Bool
filled_wedge w p = lt_z (dot (vector w.a w.b w.c) p) w.h

-- ---- Stack: width, height, depth each 1 to 256, and lent bytes
abbrev pub permitted_size : ℤ → Bool
permitted_size n = between (pos 1) n (pos 256)

-- width/8 bytes rounded up
unfoldable pub row_bytes : ℕ → ℕ
row_bytes width = (width + 7) / 8

-- the bytes of one slice, and of all
unfoldable pub slice_bytes : ℕ → ℕ → ℕ
slice_bytes width height = height * row_bytes width

unfoldable pub stack_bytes : Stack → ℕ
stack_bytes k = nat_abs k.depth * slice_bytes (nat_abs k.width) (nat_abs k.height)

unfoldable pub permitted_stack : Stack → List ℕ → Bool
permitted_stack k bytes =
    permitted_size k.width
    && (permitted_size k.height && (permitted_size k.depth && leb (stack_bytes k) (length bytes)))

-- the place of a voxel's byte: rows follow y, slices follow z, x is the column
abbrev pub voxel_place : ℕ → ℕ → ℕ → ℕ → ℕ → ℕ
voxel_place width height x y z = (z * height + y) * row_bytes width + x / 8

-- the highest bit leftmost, 1 filled
unfoldable pub voxel : ℕ → ℕ → List ℕ → ℕ → ℕ → ℕ → Bool
voxel width height bytes x y z = eqb (get_or bytes (voxel_place width height x y z) 0 / 2 ^ (7 - x % 8) % 2) 1

unfoldable pub filled_stack : Stack → List ℕ → Vector → Bool
filled_stack k bytes p =
    voxel (nat_abs k.width) (nat_abs k.height) bytes (nat_abs p.x) (nat_abs p.y) (nat_abs p.z)

-- ---- both solids
abbrev pub permitted : Solid → List ℕ → Bool
permitted (IsWedge w) bytes = permitted_wedge w
permitted (IsStack k) bytes = permitted_stack k bytes

-- the sides of the box
abbrev pub box : Solid → Vector
box (IsWedge w) = vector (pos 1024) (pos 1024) (pos 1024)
box (IsStack k) = vector k.width k.height k.depth

abbrev pub in_side : ℤ → ℤ → Bool
in_side side x = le_z (pos 0) x && lt_z x side

unfoldable pub in_box : Vector → Vector → Bool
in_box sides p = in_side sides.x p.x && (in_side sides.y p.y && in_side sides.z p.z)

abbrev pub filled : Solid → List ℕ → Vector → Bool
filled (IsWedge w) bytes p = filled_wedge w p
filled (IsStack k) bytes p = filled_stack k bytes p

-- a look asks whether one voxel in the box is filled
abbrev pub seen_as : Bool → Bool → Look
seen_as false f = Outside
seen_as true true = Filled
seen_as true false = Empty

unfoldable pub look : Solid → List ℕ → Vector → Look
look solid bytes p = let f = filled solid bytes p in seen_as (in_box (box solid) p) f
