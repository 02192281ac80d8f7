-- What the functions of this crate ask of their callers.
use Rattle.std.specs.Prelude.{◌≡◌, true, List, ℕ}
use Rattle.integers.specs.Sizes.{Within}
use Rattle.rules.specs.declared.Vector.{Vector}
use Rattle.rules.specs.declared.Wedge.{Wedge}
use Rattle.rules.specs.declared.Solid.{Solid}
use Rattle.rules.specs.Solids.{permitted, box, in_box}

-- a permitted solid, with its lent bytes
pub record PermittedSolid (s : Solid) (bytes : List ℕ) : Type 0 where
  pub is : permitted s bytes ≡ true

-- a point of the solid's box
pub record InBoxOf (s : Solid) (p : Vector) : Type 0 where
  pub is : in_box (box s) p ≡ true

-- a wedge whose products with the points of the box fit
pub record WedgeAsks (w : Wedge) : Type 0 where
  pub in-a : Within 1000 w.a
  pub in_b : Within 1000 w.b
  pub in_c : Within 1000 w.c
  pub in-h : Within 4000000 w.h
