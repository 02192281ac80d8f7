-- Refusal 3 is the judgement's; a permitted stack's casts keep its sides.
use Rattle.std.proofs.Common.{◌≡◌, sym, ◌∙◌, Bool, true, List, ℕ}
use Rattle.rules.specs.declared.Stack.{Stack}
use Rattle.rules.specs.Solids.{permitted_stack}
use Rattle.stack.specs.Sides.{Sized, sized, side-casts}
use Rattle.p4_write.proofs.Writing.{write-refused, slices-ask, slice-sides, write-cast}
use Rattle.p4_write.proofs.write.Goals as goal

its-sides : {k : Stack} {bytes : List ℕ} {t : Bool} → t ≡ permitted_stack k bytes → t ≡ true → Sized k bytes
its-sides e f = sized (sym e ∙ f)

pub returns-then-not-is_permitted : goal.returns-then-not-is_permitted
returns-then-not-is_permitted c = search write-refused

pub overflow_cast-size : goal.overflow_cast-size
overflow_cast-size c = side-casts (its-sides c.is_permitted.ensures c.if-not-is_permitted.false).of.wide

pub overflow_cast-size-2 : goal.overflow_cast-size-2
overflow_cast-size-2 c = side-casts (its-sides c.is_permitted.ensures c.if-not-is_permitted.false).of.high

pub overflow_cast-stack : goal.overflow_cast-stack
overflow_cast-stack c = side-casts (its-sides c.is_permitted.ensures c.if-not-is_permitted.false).of.deep

pub invariant_of-size : goal.invariant_of-size
invariant_of-size c = record { permitted = slice-sides (its-sides c.is_permitted.ensures c.if-not-is_permitted.false) }

pub write_stack-requires : goal.write_stack-requires
write_stack-requires c = slices-ask (its-sides c.is_permitted.ensures c.if-not-is_permitted.false)

pub returns : goal.returns
returns c =
    write-cast (its-sides c.is_permitted.ensures c.if-not-is_permitted.false) c.write_stack.ensures
