-- One of three by the axis, and a vector with another part along an axis.
use Rattle.std.specs.Prelude.{ℤ}
use Rattle.rules.specs.declared.Vector.{Vector}
use Rattle.rules.specs.Vectors.{vector}
use Rattle.rules.specs.declared.Axis.{Axis}
use Rattle.rules.specs.declared.Axis.TheVariants.{Axis0 as axis0, Axis1 as axis1, Axis2 as axis2}

abbrev pub choose : {A : Type 0} → Axis → A → A → A → A
choose axis0 x y z = x
choose axis1 x y z = y
choose axis2 x y z = z

abbrev pub with_part : Vector → Axis → ℤ → Vector
with_part v axis0 z = vector z v.y v.z
with_part v axis1 z = vector v.x z v.z
with_part v axis2 z = vector v.x v.y z
