-- What `ask_round` ensures settles its answer: the tally has the choice, and the choice settles the best pair's weight.
use Rattle.std.specs.Prelude.{◌≡◌, refl, ℕ, Option, None, Some, Result, Ok, Err}
use Rattle.std.proofs.Common.{sym}
use Rattle.rules.specs.declared.Vector.{Vector}
use Rattle.rules.specs.declared.Levels.{Levels}
use Rattle.rules.specs.declared.Triangle.{Triangle}
use Rattle.rules.specs.declared.Pair.{Pair}
use Rattle.rules.specs.Answers.{Choice}
use Rattle.rules.specs.Walk.{Probe}
use Rattle.laws.specs.Tally.{Tally, yes, no, gives-settled}
use Rattle.laws.specs.Sphere.{weight}
use Rattle.falls.specs.declared.Outside.{Outside}
use Rattle.choice.specs.declared.Best.{Best}
use Rattle.choice.specs.Best.{best_of, choice_of}
use Rattle.choice.specs.Lighter.{Weighs}
use Rattle.round.specs.declared.Round.{Round}
use Rattle.round.specs.Round.{round_tally, Weighed, RoundAsked}

weighed : Triangle → Choice → Option (Best Pair)
weighed m None = None
weighed m (Some x) = Some (best_of x (weight m x))

weighed_again : (m : Triangle) (b : Option (Best Pair)) → Weighs m b → weighed m (choice_of b) ≡ b
unfolding weighed
weighed_again m None h = refl
weighed_again m (Some b) h = λ i. Some (best_of b.pair (sym h i))

made : Triangle → Tally Vector Choice → Result Round Outside
made m (yes c n) = Ok (record { best = weighed m c; looks = n })
made m (no p n) = Err (record { place = p; looks = n })

made_again : (m : Triangle) (r : Result Round Outside) → Weighed m r → made m (round_tally r) ≡ r
unfolding made
made_again m (Ok r) h = λ i. Ok (record { best = weighed_again m r.best h i; looks = r.looks })
made_again m (Err o) h = refl

pub round-asked-settled : {c : Probe} {m : Triangle} {level : Levels} {looks : ℕ} {r t : Result Round Outside} → RoundAsked c m level looks r → RoundAsked c m level looks t → r ≡ t
round-asked-settled {m = m} {r = r} {t} h k = gives-settled (made m) (made_again m r h.weighed) (made_again m t k.weighed) h.gives k.gives
