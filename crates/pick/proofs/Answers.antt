-- What a call comes to, as the answer of its entry point, and with the numbers as they were read.
use mathlib.Core.Path.{◌≡◌, refl}
use mathlib.Core.List.{List}
use Prim.Native.Nat.{ℕ}
use native.Mathlib.Omega.{arith}
use lib.IntN.{ℤ}
use mir.Syntax.{w32}
use mir.Val.{SFits, to_z, of_z}
use mir.Facts.{to_z-of_z}
use Rattle.rules.specs.declared.Solid.{Solid}
use Rattle.rules.specs.Answers.{Pick as PickAnswer}
use Rattle.std.specs.Prelude.{Ok, Err}
use Rattle.rules.specs.Pick.{pick_of}
use Rattle.call.specs.declared.Call.{Call}
use Rattle.call.specs.declared.Call.TheVariants.{Pick, Touch, Check, Walk}
use Rattle.call.specs.Calls.{Outcome, walked, outcome_of, CallMade, EndsPick}
use Rattle.pick.specs.Ends.{Picks, picked}

pub made-read : {call : Call} {solid : Solid} {bytes : List ℕ} {frame reach : ℤ} {r : Outcome} → SFits w32 frame → SFits w32 reach → CallMade call solid bytes (to_z w32 (of_z w32 frame)) (to_z w32 (of_z w32 reach)) r → r ≡ outcome_of call solid bytes frame reach
made-read f g h = (rw (to_z-of_z f, to_z-of_z g) at h).is

-- an outcome as an answer
pub ends-in : {o : Outcome} (x r : PickAnswer) → o ≡ walked x → o ≡ walked r → r ≡ x
ends-in (Ok a) (Ok b) e f = cc
ends-in (Ok a) (Err r) e f = absurd (let z : ◌≡◌ {A = ℕ} 0 1 = cc in omega arith)
ends-in (Err r) (Ok a) e f = absurd (let z : ◌≡◌ {A = ℕ} 0 1 = cc in omega arith)
ends-in (Err r) (Err t) e f = cc

-- an answer is no ready start
pub ends-pick : {o : Outcome} (x : PickAnswer) → o ≡ walked x → EndsPick o
ends-pick (Ok a) e = rw e tt
ends-pick (Err r) e = rw e tt

-- what a call of a pick, a touch or a walk comes to is its answer
pub as-picked : (call : Call) (solid : Solid) (bytes : List ℕ) (frame reach : ℤ) → Picks call → outcome_of call solid bytes frame reach ≡ walked (picked call solid bytes frame reach)
unfolding pick_of
as-picked (Pick p) solid bytes frame reach t = refl
as-picked (Touch p) solid bytes frame reach t = refl
as-picked (Check p) solid bytes frame reach t = absurd t
as-picked (Walk d) solid bytes frame reach t = refl
