-- `store` copies its bytes. The loop keeps that those before its index are stored.
use Rattle.std.proofs.Common.{arith}
use Rattle.text.specs.Puts.{sets_more}
use Rattle.text.proofs.store.Goals as goal

pub loop-i-preserved : goal.loop-i-preserved
loop-i-preserved c = let e = sets_more c.args.out.now c.args.bytes.now c.args.at c.loop-i.i (omega arith) in cc
