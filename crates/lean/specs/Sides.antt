-- The sides of the spread, as the code adds them up. These are definitions: nothing here is proved.
use Rattle.std.specs.Prelude.{◌≡◌, Bool, true, false, ℕ}
use Rattle.rules.specs.declared.Vector.{Vector}
use Rattle.rules.specs.Vectors.{◌⊖◌}
use Rattle.rules.specs.Lean.{squared}

-- the squared length of a way, 0 if it takes no part
abbrev pub side_of : Bool → Vector → ℕ
side_of true w = squared w
side_of false w = 0

pub record Side (part : Bool) (k l : Vector) (r : ℕ) : Type 0 where
  pub is : r ≡ side_of part (l ⊖ k)
