-- What `face`, `corner` and `ask_corners` ensure settles their answers: each is made again of what it tells.
use Rattle.std.specs.Prelude.{◌≡◌, refl, ℕ, Ok as Clear, Err as IsRefused}
use Rattle.std.proofs.Common.{sym, ◌∙◌}
use Rattle.rules.specs.declared.Vector.{Vector}
use Rattle.rules.specs.Walk.{Stop, Probe}
use Rattle.rules.specs.Pick.{refused_answer}
use Rattle.laws.specs.Tally.{Tally, yes, no, gives-settled}
use Rattle.facing.specs.Facing.{Cleared, cleared_tally, FacingAsked, CornerAt, CornersAsked}

made : Tally Stop (Unit {0}) → Cleared
made (yes t k) = Clear k
made (no s k) = IsRefused (refused_answer s k)

made_again : (r : Cleared) → made (cleared_tally r) ≡ r
unfolding made
made_again (Clear k) = refl
made_again (IsRefused r) = refl

pub facing-settled : {c : Probe} {p : Vector} {r t : Cleared} → FacingAsked c p r → FacingAsked c p t → r ≡ t
facing-settled {r = r} {t} h k = gives-settled made (made_again r) (made_again t) h.gives k.gives

pub corner-settled : {q s e p t : Vector} → CornerAt q s e p → CornerAt q s e t → p ≡ t
corner-settled h k = h.is ∙ sym k.is

pub corners-settled : {c : Probe} {looks : ℕ} {r t : Cleared} → CornersAsked c looks r → CornersAsked c looks t → r ≡ t
corners-settled {r = r} {t} h k = gives-settled made (made_again r) (made_again t) h.gives k.gives
