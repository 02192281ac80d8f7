-- Whole vectors, as document 01 uses them. These are definitions: nothing here is proved.
use Rattle.std.specs.Prelude.{ℕ, ◌+◌, ℤ, pos, neg_ℤ, nat_abs, ◌+ℤ◌, ◌-ℤ◌, ◌*ℤ◌}
use Rattle.rules.specs.declared.Vector.{Vector}

abbrev pub vector : ℤ → ℤ → ℤ → Vector
vector a b c = record { x = a; y = b; z = c }

infixl 6 ◌⊕◌ ◌⊖◌
unfoldable pub ◌⊕◌ : Vector → Vector → Vector
a ⊕ b = vector (a.x +ℤ b.x) (a.y +ℤ b.y) (a.z +ℤ b.z)

unfoldable pub ◌⊖◌ : Vector → Vector → Vector
a ⊖ b = vector (a.x -ℤ b.x) (a.y -ℤ b.y) (a.z -ℤ b.z)

unfoldable pub minus : Vector → Vector
minus a = vector (neg_ℤ a.x) (neg_ℤ a.y) (neg_ℤ a.z)

unfoldable pub scale : ℤ → Vector → Vector
scale l a = vector (l *ℤ a.x) (l *ℤ a.y) (l *ℤ a.z)

unfoldable pub dot : Vector → Vector → ℤ
dot a b = a.x *ℤ b.x +ℤ a.y *ℤ b.y +ℤ a.z *ℤ b.z

unfoldable pub cross : Vector → Vector → Vector
cross a b = vector (a.y *ℤ b.z -ℤ a.z *ℤ b.y) (a.z *ℤ b.x -ℤ a.x *ℤ b.z) (a.x *ℤ b.y -ℤ a.y *ℤ b.x)

-- the determinant of the rows a, b, c
unfoldable pub det : Vector → Vector → Vector → ℤ
det a b c = dot (cross a b) c

-- the four by four determinant of the rows (d, d·d), d = a, b, c, e in that order, expanded along its last column
unfoldable pub sphere : Vector → Vector → Vector → Vector → ℤ
sphere a b c e =
    dot e e *ℤ det a b c
    -ℤ dot c c *ℤ det a b e
    +ℤ dot b b *ℤ det a c e
    -ℤ dot a a *ℤ det b c e

-- a vector laid into the box: each part multiplied by its sign
unfoldable pub lay : Vector → Vector → Vector
lay s a = vector (s.x *ℤ a.x) (s.y *ℤ a.y) (s.z *ℤ a.z)

-- the sizes of the parts, added up
unfoldable pub size : Vector → ℕ
size a = nat_abs a.x + nat_abs a.y + nat_abs a.z

abbrev pub origin : Vector
origin = vector (pos 0) (pos 0) (pos 0)

abbrev pub unit0 : Vector
unit0 = vector (pos 1) (pos 0) (pos 0)

abbrev pub unit1 : Vector
unit1 = vector (pos 0) (pos 1) (pos 0)

abbrev pub unit2 : Vector
unit2 = vector (pos 0) (pos 0) (pos 1)
