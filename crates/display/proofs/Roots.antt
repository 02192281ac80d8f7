-- The root is found by going up: 32769 is too large, so the last that is not is the largest.
use mathlib.Core.Path.{◌≡◌}
use Prim.Native.Nat.{ℕ, ◌+◌, ◌*◌, ◌<◌}
use native.Mathlib.Omega.{arith}
use Rattle.rules.specs.Display.{largest}
use Rattle.display.specs.Parts.{From}
use Rattle.display.specs.Roots.{largest-is}

pub no_more : {S t m p : ℕ} → From S t m → p ≡ (m + 1) * (m + 1) * S → t < p → m ≡ largest S t 32768
no_more {S} {t} {m} F e h = largest-is S t 32768 m F.bound F.low (omega arith)
