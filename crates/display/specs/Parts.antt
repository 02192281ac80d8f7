-- What the functions of `display` ask of a sum of squares S and of a number n whose square is part of it.
use Rattle.std.specs.Prelude.{◌≡◌, ℕ, ◌≤◌, ◌<◌, ◌*◌, ◌^◌, ℤ, pos, negsuc, Bool, false, Float}
use Rattle.rules.specs.Solids.{between}
use Rattle.std.specs.Float.Ieee.Exact.{HasValue}
use Rattle.rules.specs.Display.{square, squares, size_of, component}

abbrev pub in_range : ℤ → Bool
in_range n = between (negsuc 1022) n (pos 1023)

pub record Square (n : ℤ) (r : ℕ) : Type 0 where
  pub is : r ≡ square n
  pub small : r ≤ 2 ^ 62

pub record Part (S : ℕ) (n : ℤ) : Type 0 where
  pub some : 0 < S
  pub small : S ≤ 3139587
  pub part : square n ≤ S

-- a sum that is permitted
pub record Sum (S : ℕ) : Type 0 where
  pub some : 0 < S
  pub small : S ≤ 3139587

-- m is not too large
pub record Within (S t m : ℕ) : Type 0 where
  pub low : m * m * S ≤ t

-- m is not too large, and 32769 is
pub record From (S t m : ℕ) : Type 0 where
  pub small : S ≤ 3139587
  pub bound : m ≤ 32768
  pub low : m * m * S ≤ t
  pub high : t < 32769 * 32769 * S

-- m is the size of n's component, in parts of 32768
pub record Size (S : ℕ) (n : ℤ) (m : ℕ) : Type 0 where
  pub is : m ≡ size_of S n
  pub within : m ≤ 32768

pub record Whole (m : ℕ) (f : Float) : Type 0 where
  pub value : HasValue f false m 1

pub record Shown (S : ℕ) (n : ℤ) (f : Float) : Type 0 where
  pub is : f ≡ component S n

pub record Parts (S : ℕ) (x y z : ℤ) : Type 0 where
  pub is : S ≡ squares x y z
  pub first : Part S x
  pub second : Part S y
  pub third : Part S z
