-- A test that a function judged is the definition's test: its numbers are read back from bits, and calls and conjunctions are followed.
--     value (search judged depth 30 fits 5000) tt
use Rattle.std.specs.Prelude.{◌≡◌, Bool, ◌&&◌, ℤ}
use Rattle.std.proofs.Common.{◌∙◌}
use Rattle.integers.specs.Machine.{Reads, Stands, through-both, machine, typed}
use Rattle.rules.specs.Solids.{between}

abbrev pub and-reads : {a b : Bool} → Reads a → Reads b → Reads (a && b)
and-reads p q = through-both ◌&&◌ p q

-- a call's result
abbrev pub result-reads : {r a : Bool} → r ≡ a → Reads a → Reads r
result-reads e p = record { plain = p.plain; passes = p.passes; reads = λ t. e ∙ p.reads t }

abbrev pub between-reads : {low x high : ℤ} → Stands low → Stands x → Stands high → Reads (between low x high)
between-reads p q r = through-both (λ (f : ℤ → Bool) (z : ℤ). f z) (through-both between p.read q.read) r.read

pub ruleset judged = (machine, typed, and-reads, between-reads, result-reads)
