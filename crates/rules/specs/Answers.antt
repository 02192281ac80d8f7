-- The answers, each what was asked for or a refusal. These are definitions: nothing here is proved.
use Rattle.std.specs.Prelude.{ℕ, ℤ, Result, Ok, Err, Option}
use Rattle.rules.specs.declared.Stack.{Stack}
use Rattle.rules.specs.declared.Pair.{Pair}
use Rattle.rules.specs.declared.Accepted.{Accepted}
use Rattle.rules.specs.declared.Refused.{Refused}
use Rattle.rules.specs.declared.RefusedInput.{RefusedInput}
use Rattle.rules.specs.declared.ReadyStart.{ReadyStart}
use Rattle.rules.specs.declared.Guess.{Guess}
use Rattle.rules.specs.declared.Bound.{Bound}
use Rattle.rules.specs.declared.Footing.{Footing}
use Rattle.rules.specs.declared.Light.{Light}
use Rattle.rules.specs.declared.RefusedStack.{RefusedStack}
use Rattle.rules.specs.declared.Question.{Question}

-- ---- the walk
abbrev pub Choice : Type 0
Choice = Option Pair

-- ---- picks, start checks, quick touches
abbrev pub Pick : Type 0
Pick = Result Accepted Refused

abbrev pub Check : Type 0
Check = Result ReadyStart Refused

abbrev pub Touch : Type 0
Touch = Result Guess Refused

-- what a touch accepts
abbrev pub guess : Accepted → Touch
guess a = Ok (record { answer = a })

-- ---- lean, footing, the display normal
abbrev pub Lean : Type 0
Lean = Result Bound RefusedInput

abbrev pub Firm : Type 0
Firm = Result Footing Refused

abbrev pub Display : Type 0
Display = Result Light RefusedInput

-- refused with a number alone
abbrev pub refused_input : {A : Type 0} → ℕ → Result A RefusedInput
refused_input number = Err (record { number = number })

-- ---- P4's reader and writer
abbrev pub Reading : Type 0
Reading = Result Stack RefusedStack

abbrev pub Writing : Type 0
Writing = Result ℕ RefusedStack

-- refused with a number and the number returned
abbrev pub refused_stack : {A : Type 0} → ℕ → ℕ → Result A RefusedStack
refused_stack number value = Err (record { number = number; value = value })

-- ---- the session's lines: a number, and what a line asks
abbrev pub Number : Type 0
Number = Option ℤ

abbrev pub Line : Type 0
Line = Option Question
