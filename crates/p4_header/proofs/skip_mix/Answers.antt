-- `p4_header::skip_mix` meets its contract: the loop keeps `Mixing`, inside a comment or not, and stops at any
-- other byte or with the input.
use Rattle.std.proofs.Common.{rules}
use Rattle.p4_header.proofs.Scanning.{mixing-start, mixing-in, mixing-white, mixing-hash, mixing-stop, mixing-end}
use Rattle.p4_header.proofs.skip_mix.Goals as goal

pub loop-i-init : goal.loop-i-init
loop-i-init c = search mixing-start

pub returns-then-not-is_white : goal.returns-then-not-is_white
returns-then-not-is_white c = search mixing-stop

pub loop-i-preserved : goal.loop-i-preserved
loop-i-preserved c = search (rules, mixing-in, mixing-white, mixing-hash)

pub returns : goal.returns
returns c = search mixing-end
