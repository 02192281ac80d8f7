-- `put_number` writes a number's digits: those of n / 10 by its own call, for which n is the measure, and then the last.
use Rattle.text.proofs.Writer.+put_number.Given as goal

abbrev pub decreases-put_number : goal.decreases-put_number
decreases-put_number l = l.n
