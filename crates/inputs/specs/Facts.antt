-- What a caller may take for granted of inputs that were judged, as the numbers were read.
use Rattle.std.specs.Prelude.{◌≡◌, List, ℕ, ℤ, nat_abs, Ok, Err}
use Rattle.std.specs.Int.{w32}
use Rattle.std.proofs.Common.{SFits, to_z, of_z, to_z-of_z}
use Rattle.rules.specs.declared.Solid.{Solid}
use Rattle.rules.specs.declared.Refused.{Refused}
use Rattle.laws.specs.Tally.{yes, Gives}
use Rattle.falls.specs.declared.Probe.{Probe}
use Rattle.falls.specs.Scene.{Ready}
use Rattle.refusals.specs.Refusals.{refusal_tally}
use Rattle.inputs.specs.declared.Begin.{Begin}
use Rattle.inputs.specs.Inputs.{Fit, scene_of, judging_of, InputsJudged}

pub judged-read : {begin : Begin} {solid : Solid} {bytes : List ℕ} {frame reach : ℤ} {r : Fit} → SFits w32 frame → SFits w32 reach → InputsJudged begin solid bytes (to_z w32 (of_z w32 frame)) (to_z w32 (of_z w32 reach)) r → InputsJudged begin solid bytes frame reach r
judged-read f g h = rw (to_z-of_z f, to_z-of_z g) at h

module _ {begin : Begin} {solid : Solid} {bytes : List ℕ} {frame reach : ℤ} {fit : Fit} (h : InputsJudged begin solid bytes frame reach fit) where
  pub inputs-refused : {r : Refused} → fit ≡ Err r → Gives 0 (judging_of begin solid bytes frame reach) (refusal_tally r)
  inputs-refused e = rw e at h.gives

  pub refused-unlooked : {r : Refused} → fit ≡ Err r → r.looks ≡ 0
  refused-unlooked e = rw e at h.fits

  module _ {m : Probe} (e : fit ≡ Ok m) where
    pub inputs-good : Gives 0 (judging_of begin solid bytes frame reach) (yes tt 0)
    inputs-good = rw e at h.gives

    pub scene-is : m.scene ≡ scene_of begin solid (nat_abs frame) (nat_abs reach)
    scene-is = (rw e at h.fits).0

    pub bytes-are : m.bytes.now ≡ bytes
    bytes-are = (rw e at h.fits).1

    pub scene-ready : Ready m.scene bytes
    scene-ready = rw bytes-are at m.ready
