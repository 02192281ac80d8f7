-- What `firm_to` ensures settles its answer: the powers give one tally, and an answer is made again of it.
use Rattle.std.specs.Prelude.{◌≡◌, refl, ℕ}
use Rattle.rules.specs.Walk.{Stop}
use Rattle.laws.specs.Tally.{Tally, yes, no, gives-settled}
use Rattle.footing.specs.declared.Ground.{Ground}
use Rattle.footing.specs.declared.Footed.{Footed}
use Rattle.footing.specs.Footing.{FirmTo}

-- none is refused
made : Tally Stop ℕ → Footed
made (yes F n) = record { power = F; looks = n }
made (no s n) = record { power = 0; looks = n }

pub firm-to-settled : {g : Ground} {reach looks : ℕ} {r t : Footed} → FirmTo g reach looks r → FirmTo g reach looks t → r ≡ t
unfolding made
firm-to-settled h k = gives-settled made refl refl h.gives k.gives
