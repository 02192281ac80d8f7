-- The promises settle the answer: two answers that one allows are equal. A stack's answer depends on the voxels of its box alone.
use Rattle.std.specs.Prelude.{◌≡◌, List, [], ℕ, ℤ}
use Rattle.std.proofs.Common.{sym, ◌∙◌}
use Rattle.rules.specs.declared.Wedge.{Wedge}
use Rattle.rules.specs.declared.Stack.{Stack}
use Rattle.rules.specs.declared.Solid.{Solid}
use Rattle.rules.specs.declared.Solid.TheVariants.{Wedge as IsWedge, Stack as IsStack}
use Rattle.rules.specs.Answers.{Pick, Firm}
use Rattle.rules.specs.Firm.{firm, firm_answer, firm_of, FirmPromise, WedgeFirmPromise, StackFirmPromise}
use Rattle.stack.specs.Alike.{Alike, alike}

module _ {answer : Pick} {frame reach : ℤ} {r t : Firm} where
  pub firm-settled : {solid : Solid} {bytes : List ℕ} → FirmPromise solid bytes answer frame reach r → FirmPromise solid bytes answer frame reach t → r ≡ t
  firm-settled h k = h.is ∙ sym k.is

  pub wedge-firm-settled : {w : Wedge} → WedgeFirmPromise w answer frame reach r → WedgeFirmPromise w answer frame reach t → r ≡ t
  wedge-firm-settled h k = h.is ∙ sym k.is

  pub stack-firm-settled : {k : Stack} {bytes : List ℕ} → StackFirmPromise k bytes answer frame reach r → StackFirmPromise k bytes answer frame reach t → r ≡ t
  stack-firm-settled h k = h.is ∙ sym k.is

-- the promise of a wedge and of a stack is that of any solid
pub wedge-stood : {w : Wedge} {answer : Pick} {frame reach : ℤ} {r : Firm} → FirmPromise (IsWedge w) [] answer frame reach r → WedgeFirmPromise w answer frame reach r
wedge-stood h = record { is = h.is }

pub stack-stood : {k : Stack} {bytes : List ℕ} {answer : Pick} {frame reach : ℤ} {r : Firm} → FirmPromise (IsStack k) bytes answer frame reach r → StackFirmPromise k bytes answer frame reach r
stack-stood h = record { is = h.is }

-- lent bytes that agree on the voxels of the box
pub stack-footings-alike : {k : Stack} {a b : List ℕ} → Alike k a b → {answer : Pick} {frame reach : ℤ} {r t : Firm} → StackFirmPromise k a answer frame reach r → StackFirmPromise k b answer frame reach t → r ≡ t
unfolding firm_of
stack-footings-alike h {answer} {frame} {reach} u v = u.is ∙ alike h (λ ok look. firm_answer (firm ok look frame reach answer)) ∙ sym v.is
