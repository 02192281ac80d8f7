-- `run` prints the session of the bytes read.
use mathlib.Core.Path.{refl}
use Prim.Native.Nat.{◌≤◌}
use native.Mathlib.Omega.{arith}
use lib.ListN.{length}
use Rattle.session.proofs.Whole.{ran}
use Rattle.session.proofs.run.Goals as goal

pub returns : goal.returns
returns c = let room : 327680 ≤ length c.args.out.now = omega arith in ran c.put_replies.ensures refl room c.min.ensures
