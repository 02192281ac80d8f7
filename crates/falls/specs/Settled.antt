-- What `ask_falls` ensures settles its answer: the question gives one tally, and an answer is made again of it.
use Rattle.std.specs.Prelude.{◌≡◌, refl, Bool, true, false, ℕ}
use Rattle.rules.specs.declared.Vector.{Vector}
use Rattle.rules.specs.Walk.{Probe}
use Rattle.laws.specs.Tally.{Tally, yes, no, gives-settled}
use Rattle.falls.specs.declared.Falls.{Falls}
use Rattle.falls.specs.declared.Falls.TheVariants.{Fell, Kept, Stopped}
use Rattle.falls.specs.Falls.{falls_tally, Fallen}

made : Tally Vector Bool → Falls
made (yes true n) = Fell n
made (yes false n) = Kept n
made (no p n) = Stopped (record { place = p; looks = n })

made_again : (r : Falls) → made (falls_tally r) ≡ r
unfolding made
made_again (Fell n) = refl
made_again (Kept n) = refl
made_again (Stopped o) = refl

pub fallen-settled : {c : Probe} {u : Vector} {looks : ℕ} {r t : Falls} → Fallen c u looks r → Fallen c u looks t → r ≡ t
fallen-settled {r = r} {t} h k = gives-settled made (made_again r) (made_again t) h.gives k.gives
