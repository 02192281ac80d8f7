-- A wedge, a stack and a point are made of a call's numbers as they were read: each is read back from its bits.
use mathlib.Core.Path.{◌≡◌}
use lib.IntN.{ℤ}
use mir.Syntax.{w32}
use mir.Val.{SFits, to_z, of_z}
use mir.Facts.{to_z-of_z}
use Rattle.rules.specs.declared.Vector.{Vector}
use Rattle.rules.specs.declared.Wedge.{Wedge}
use Rattle.rules.specs.declared.Stack.{Stack}
use Rattle.rules.specs.Vectors.{vector}
use Rattle.panel.specs.Promises.{wedge, stack}

abbrev read : ℤ → ℤ
read z = to_z w32 (of_z w32 z)

pub wedge-read : {a b c h : ℤ} {w : Wedge} → SFits w32 a → SFits w32 b → SFits w32 c → SFits w32 h → w ≡ wedge (read a) (read b) (read c) (read h) → w ≡ wedge a b c h
wedge-read i j k l e = rw (to_z-of_z i, to_z-of_z j, to_z-of_z k, to_z-of_z l) at e

pub stack-read : {a b c : ℤ} {s : Stack} → SFits w32 a → SFits w32 b → SFits w32 c → s ≡ stack (read a) (read b) (read c) → s ≡ stack a b c
stack-read i j k e = rw (to_z-of_z i, to_z-of_z j, to_z-of_z k) at e

pub point-read : {x y z : ℤ} {p : Vector} → SFits w32 x → SFits w32 y → SFits w32 z → p ≡ vector (read x) (read y) (read z) → p ≡ vector x y z
point-read i j k e = rw (to_z-of_z i, to_z-of_z j, to_z-of_z k) at e
