-- A whole number up to 32768 is a float as it is.
use native.Mathlib.Nat.{le_trans}
use mathlib.Core.Bool.{false}
use lib.Dec.{lit≤}
use lib.Ieee.{binary32, of_int}
use lib.Ieee.Back.{round_whole}
use Rattle.display.proofs.whole.Goals as goal

pub returns : goal.returns
unfolding of_int
returns c = record { value = round_whole binary32 false c.args.m (le_trans c.requires (lit≤ tt)) }
