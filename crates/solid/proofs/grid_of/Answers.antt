-- Each solid's sides and ranks, as the definition lists them; the casts keep a stack's sides.
use mathlib.Core.Path.{◌≡◌}
use mathlib.Core.List.{List}
use Prim.Native.Nat.{ℕ}
use mir.Syntax.{w16}
use Rattle.rules.specs.declared.Stack.{Stack}
use Rattle.rules.specs.declared.Solid.{Solid}
use Rattle.rules.specs.declared.Solid.TheVariants.{Stack as IsStack}
use Rattle.stack.specs.Sides.{SidesOf, sized, side-casts-to}
use Rattle.solid.specs.Asks.{PermittedSolid}
use Rattle.solid.proofs.grid_of.Goals as goal

sides : {s : Solid} {k : Stack} {bytes : List ℕ} → PermittedSolid s bytes → s ≡ IsStack k → SidesOf k
sides h e = (sized (rw e at h.is)).of

pub ranks_of-requires : goal.ranks_of-requires
ranks_of-requires c = sides c.requires c.in-Stack.is

pub overflow_cast-result : goal.overflow_cast-result
overflow_cast-result c = side-casts-to (sides c.requires c.in-Stack.is).wide w16 tt

pub overflow_cast-result-in-Stack : goal.overflow_cast-result-in-Stack
overflow_cast-result-in-Stack c = side-casts-to (sides c.requires c.in-Stack.is).high w16 tt

pub overflow_cast-result-in-Stack-2 : goal.overflow_cast-result-in-Stack-2
overflow_cast-result-in-Stack-2 c = side-casts-to (sides c.requires c.in-Stack.is).deep w16 tt
