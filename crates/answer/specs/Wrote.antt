-- Bytes written into a lent buffer where there is space for as many as they can be.
use Rattle.std.specs.Prelude.{◌≡◌, List, ℕ, ◌+◌, ◌≤◌, length}
use Rattle.text.specs.declared.Writer.{Writer}
use Rattle.text.specs.Put.{Put}

pub record Space (most : ℕ) (w : Writer) : Type 0 where
  pub enough : w.at + most ≤ length w.out.now

pub record Wrote (most : ℕ) (before : Writer) (bytes : List ℕ) (after : Writer) : Type 0 where
  pub put : Put before bytes after
  pub kept : length after.out.now ≡ length before.out.now
  pub few : length bytes ≤ most
