-- `p4_header::skip_mix` meets its contract: the loop keeps `Mixing`, inside a comment or not, and stops at any
-- other byte or with the input.
use Rattle.p4_header.proofs.Scanning.{Mixing}
use Rattle.p4_header.proofs.skip_mix.Given as goal

abbrev pub invariant-loop-i : goal.invariant-loop-i
invariant-loop-i l = Mixing l.bytes l.at l.i l.comment
