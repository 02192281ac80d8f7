-- How much room the session's output takes: a reply is at most five times as long as its line, or "B" and LF.
use Rattle.std.specs.Prelude.{◌≡◌, List, [], ℕ, ◌+◌, ◌*◌, ◌≤◌, max, length}
use Rattle.rules.specs.declared.Question.{Question}
use Rattle.rules.specs.Answers.{Pick}
use Rattle.rules.specs.declared.Solid.TheVariants.{Wedge as IsWedge}
use Rattle.rules.specs.Pick.{pick_of}
use Rattle.rules.specs.Session.{question, reply, bytes_read, SessionPromise}
use Rattle.text.specs.declared.Writer.{Writer}
use Rattle.answer.specs.Wrote.{Wrote}

pub record Answers (q : Question) (a : Pick) : Type 0 where
  pub is : a ≡ pick_of (IsWedge q.wedge) [] q.p q.frame q.reach

abbrev pub most : List ℕ → ℕ
most line = max 2 (5 * length line)

pub record ReplyRoom (out : Writer) (line : List ℕ) : Type 0 where
  pub space : out.at + most line ≤ length out.out.now

pub record Replied (before : Writer) (line : List ℕ) (after : Writer) : Type 0 where
  pub wrote : Wrote (most line) before (reply (question line)) after

pub record Enough (out : Writer) (text : List ℕ) : Type 0 where
  pub room : out.at + 5 * length text ≤ length out.out.now

-- the whole session's promise, and a bound on what it prints
pub record Ran (input before after : List ℕ) (count : ℕ) : Type 0 where
  pub promise : SessionPromise input before after count
  pub bound : count ≤ 5 * length (bytes_read input)
