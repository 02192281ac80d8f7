-- What `judge` ensures settles its answer: a refusal is made again of what it tells, and the scene and the bytes are the inputs' own.
use Rattle.std.specs.Prelude.{◌≡◌, List, ℕ, ℤ, nat_abs, Result, Ok, Err}
use Rattle.std.proofs.Math.Path.{refl}
use Rattle.std.proofs.Common.{sym}
use Rattle.rules.specs.declared.Solid.{Solid}
use Rattle.rules.specs.declared.Refused.{Refused}
use Rattle.rules.specs.Walk.{Stop}
use Rattle.rules.specs.Pick.{refused_answer}
use Rattle.laws.specs.Tally.{Tally, yes, no, gives-settled}
use Rattle.falls.specs.declared.Scene.{Scene}
use Rattle.inputs.specs.declared.Begin.{Begin}
use Rattle.inputs.specs.Inputs.{Fit, fit_tally, scene_of, FitsTo, InputsJudged}

-- all that an answer tells
abbrev pub told : Fit → Result (Scene × List ℕ) Refused
told (Ok m) = Ok (m.scene, m.bytes.now)
told (Err r) = Err r

module _ (begin : Begin) (solid : Solid) (bytes : List ℕ) (frame R : ℕ) where
  made : Tally Stop (Unit {0}) → Result (Scene × List ℕ) Refused
  made (yes t k) = Ok (scene_of begin solid frame R, bytes)
  made (no s k) = Err (refused_answer s k)

  made_again : (r : Fit) → FitsTo begin solid bytes frame R r → made (fit_tally r) ≡ told r
  unfolding made
  made_again (Ok m) h = λ i. Ok (sym h.0 i, sym h.1 i)
  made_again (Err r) h = refl

pub inputs-settled : {begin : Begin} {solid : Solid} {bytes : List ℕ} {frame reach : ℤ} {r t : Fit} → InputsJudged begin solid bytes frame reach r → InputsJudged begin solid bytes frame reach t → told r ≡ told t
inputs-settled {begin} {solid} {bytes} {frame} {reach} {r} {t} h k =
    gives-settled (made begin solid bytes (nat_abs frame) (nat_abs reach)) (made_again begin solid bytes _ _ r h.fits) (made_again begin solid bytes _ _ t k.fits) h.gives k.gives
