-- Bytes written into a lent buffer.
use Rattle.std.specs.Prelude.{◌≡◌, List, ℕ, ◌+◌, ◌≤◌, length}
use Rattle.std.proofs.lemmas.List.Edits.{sets}
use Rattle.text.specs.declared.Writer.{Writer}

-- there is room for these bytes from its place on
pub record Room (w : Writer) (bytes : List ℕ) : Type 0 where
  pub fits : w.at + length bytes ≤ length w.out.now

-- `after` is `before` with these bytes written, its place is behind them, and the same buffer is lent
pub record Put (before : Writer) (bytes : List ℕ) (after : Writer) : Type 0 where
  pub is : after.out.now ≡ sets before.out.now before.at bytes
  pub past : after.at ≡ before.at + length bytes
  pub lent : after.out.ghost_name ≡ before.out.ghost_name
