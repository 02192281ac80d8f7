-- The sizes' tests come first, as one; then the bytes'.
use Rattle.std.proofs.Common.{sym, ◌∙◌}
use Rattle.stack.specs.Sides.{permitted-stack, sides-of}
use Rattle.stack.proofs.is_permitted.Goals as goal

pub stack_bytes-requires : goal.stack_bytes-requires
stack_bytes-requires c = sides-of (sym c.has_sizes.ensures ∙ c.if-has_sizes.true)

pub returns-then-has_sizes : goal.returns-then-has_sizes
returns-then-has_sizes c = rw (permitted-stack, sym c.has_sizes.ensures ∙ c.if-has_sizes.true, c.stack_bytes.ensures)

pub returns-else-has_sizes : goal.returns-else-has_sizes
returns-else-has_sizes c = rw (permitted-stack, sym c.has_sizes.ensures ∙ c.if-has_sizes.false) c.if-has_sizes.false
