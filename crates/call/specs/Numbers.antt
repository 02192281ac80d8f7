-- A solid by its kind and its numbers, of which both kinds have as many.
use Rattle.std.specs.Prelude.{Bool, true, false, ℤ, pos}
use Rattle.rules.specs.declared.Vector.{Vector}
use Rattle.rules.specs.declared.Solid.{Solid}
use Rattle.rules.specs.declared.Solid.TheVariants.{Wedge as IsWedge, Stack as IsStack}
use Rattle.rules.specs.Vectors.{vector}

abbrev pub is_stack : Solid → Bool
is_stack (IsWedge w) = false
is_stack (IsStack k) = true

abbrev pub numbers_of : Solid → Vector
numbers_of (IsWedge w) = vector w.a w.b w.c
numbers_of (IsStack k) = vector k.width k.height k.depth

abbrev pub height_of : Solid → ℤ
height_of (IsWedge w) = w.h
height_of (IsStack k) = pos 0

abbrev pub solid_of : Bool → Vector → ℤ → Solid
solid_of true n h = IsStack (record { width = n.x; height = n.y; depth = n.z })
solid_of false n h = IsWedge (record { a = n.x; b = n.y; c = n.z; h = h })
