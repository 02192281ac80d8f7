-- What is made of a solid's numbers is that solid.
use mathlib.Core.Path.{◌≡◌, refl}
use Rattle.rules.specs.declared.Solid.{Solid}
use Rattle.rules.specs.declared.Solid.TheVariants.{Wedge as IsWedge, Stack as IsStack}
use Rattle.call.specs.Numbers.{is_stack, numbers_of, height_of, solid_of}

pub solid-again : (s : Solid) → solid_of (is_stack s) (numbers_of s) (height_of s) ≡ s
solid-again (IsWedge w) = refl
solid-again (IsStack k) = refl
