-- A round: what it tells, and what one pair more leaves of it.
use Rattle.std.specs.Prelude.{◌≡◌, Bool, List, [], ◌∷◌, ℕ, ◌+◌, ◌/◌, ◌%◌, ◌^◌, ◌≤◌, eqb, Result, Ok, Err}
use Rattle.rules.specs.declared.Vector.{Vector}
use Rattle.rules.specs.declared.Levels.{Levels}
use Rattle.rules.specs.declared.Triangle.{Triangle}
use Rattle.rules.specs.declared.Pair.{Pair}
use Rattle.rules.specs.declared.Pair.TheVariants.{P01, P02, P10, P12, P20, P21}
use Rattle.rules.specs.Answers.{Choice}
use Rattle.rules.specs.Asked.{Asked, answered, ◌>>=◌}
use Rattle.rules.specs.Walk.{pairs, only, takes_part, Probe, falling, round}
use Rattle.laws.specs.Choosing.{best}
use Rattle.laws.specs.Tally.{Tally, yes, no, tally, Gives, most_looks}
use Rattle.falls.specs.declared.Outside.{Outside}
use Rattle.choice.specs.Best.{choice_of}
use Rattle.choice.specs.Lighter.{Weighs}
use Rattle.round.specs.declared.Round.{Round}

abbrev pub round_tally : Result Round Outside → Tally Vector Choice
round_tally (Ok r) = yes (choice_of r.best) r.looks
round_tally (Err o) = no o.place o.looks

abbrev pub round_looks : Result Round Outside → ℕ
round_looks (Ok r) = r.looks
round_looks (Err o) = o.looks

abbrev pub Weighed : Triangle → Result Round Outside → Type 0
Weighed m (Ok r) = Weighs m r.best
Weighed m (Err o) = Unit {0}

-- the pairs that take part
abbrev pub taking : Levels → List Pair → List Pair
taking level ps = only (takes_part level) ps

-- a pair's number in their order
abbrev pub number_of : Pair → ℕ
number_of P01 = 0
number_of P02 = 1
number_of P10 = 2
number_of P12 = 3
number_of P20 = 4
number_of P21 = 5

-- a pair takes part where its bit is 0
abbrev pub asks_bit : ℕ → ℕ → Bool
asks_bit skip pair = eqb (skip / 2 ^ pair % 2) 0

pub record Skips (level : Levels) (skip : ℕ) : Type 0 where
  pub bits : (x : Pair) → asks_bit skip (number_of x) ≡ takes_part level x

module _ (c : Probe) (m : Triangle) where
  -- the pairs ps, after those of which b is the best
  unfoldable pub weighing : List Pair → Choice → Asked Vector Choice
  weighing ps b = falling c m ps >>= λ fs. answered (best m b fs) []

  -- what the rest of the round, the pairs ps, gives
  abbrev pub rest : List Pair → Tally Vector Choice → Tally Vector Choice
  rest ps (yes b n) = tally n (weighing ps b)
  rest ps (no p n) = no p n

  -- with the pair x asked, after what k tells, the rest gives what it gave from before
  pub record WayAsked (x : Pair) (k : Round) (r : Result Round Outside) : Type 0 where
    pub is : (ps : List Pair) → rest ps (round_tally r) ≡ rest (x ∷ ps) (round_tally (Ok k))
    pub weighed : Weighed m r
    pub few : round_looks r ≤ k.looks + most_looks 1

  module _ (level : Levels) where
    pub record RoundAsked (looks : ℕ) (r : Result Round Outside) : Type 0 where
      pub gives : Gives looks (round c (taking level pairs) m) (round_tally r)
      pub weighed : Weighed m r
      pub few : round_looks r ≤ looks + most_looks 6
