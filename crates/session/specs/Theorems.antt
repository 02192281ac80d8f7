-- The session's theorems beside its promise: what is counted is the defined text, and the promise leaves no choice. How long the output can be is in `Printing`: what `run` ensures bounds it for every input.
use Rattle.std.specs.Prelude.{◌≡◌, List, ℕ, ◌≤◌, length, take, drop}
use Rattle.std.proofs.Common.{sym, ap, ◌∙◌, arith, length-append, take_at}
use Rattle.rules.specs.Session.{session, SessionPromise}

-- the bytes counted are inside the output, and they are the session's text: what the program writes
module _ {input before after : List ℕ} {count : ℕ} (P : SessionPromise input before after count) where
  pub count-inside : count ≤ length after
  count-inside =
      let n = P.counted in
      let l = ap length P.prints in
      let m = length-append (session input) (drop (length (session input)) before) in
      omega arith

  pub printed : take count after ≡ session input
  printed = ap (take count) P.prints ∙ take_at (session input) (drop (length (session input)) before) count (sym P.counted)

-- two outputs and counts that the promise allows are equal
pub session-settled : {input before a b : List ℕ} {m n : ℕ} → SessionPromise input before a m → SessionPromise input before b n → (a ≡ b) × (m ≡ n)
session-settled p q = (p.prints ∙ sym q.prints, p.counted ∙ sym q.counted)
