-- Judging the inputs: the probe to walk with, or a refusal.
use Rattle.std.specs.Prelude.{◌≡◌, Bool, true, false, List, ℕ, ℤ, nat_abs, Result, Ok, Err}
use Rattle.rules.specs.declared.Vector.{Vector}
use Rattle.rules.specs.declared.Solid.{Solid}
use Rattle.rules.specs.declared.Refused.{Refused}
use Rattle.rules.specs.Vectors.{◌⊕◌, dot}
use Rattle.rules.specs.Solids.{permitted, look}
use Rattle.rules.specs.Asked.{Asked as Question}
use Rattle.rules.specs.Walk.{Stop, signs, Probe}
use Rattle.rules.specs.Pick.{probe_from, placing, judging}
use Rattle.laws.specs.Tally.{Tally, yes, Gives}
use Rattle.solid.specs.Grid.{ranks_of, grid_of}
use Rattle.falls.specs.declared.Scene.{Scene}
use Rattle.falls.specs.declared.Probe.{Probe as LentProbe}
use Rattle.falls.specs.Scene.{probe_of}
use Rattle.refusals.specs.Refusals.{refusal_of, refusal_tally}
use Rattle.inputs.specs.declared.Begin.{Begin}
use Rattle.inputs.specs.declared.Begin.TheVariants.{Asked, Handed}

-- a scene whose questions may be asked, with the lent bytes; or a refusal 1 to 4
abbrev pub Fit : Type 0
Fit = Result LentProbe Refused

abbrev pub fit_tally : Fit → Tally Stop (Unit {0})
fit_tally (Ok m) = yes tt 0
fit_tally (Err r) = refusal_tally r

-- the start p
abbrev pub start_of : Begin → Vector
start_of (Asked quick p) = p
start_of (Handed d) = d.start

-- the apex, with the signs s: q = p + s, or the one that was handed
abbrev pub apex_of : Begin → Vector → Vector
apex_of (Asked quick p) s = p ⊕ s
apex_of (Handed d) s = d.apex

-- of a quick touch a direction falls only if power 1 is filled
abbrev pub span_of : Begin → ℕ → ℕ
span_of (Asked true p) R = 1
span_of (Asked false p) R = R
span_of (Handed d) R = R

-- the scene of these inputs
abbrev pub scene_of : Begin → Solid → ℕ → ℕ → Scene
scene_of begin solid frame R = record { solid = solid; grid = grid_of solid; apex = apex_of begin (signs frame); here = dot (ranks_of solid) (apex_of begin (signs frame)); signs = signs frame; span = span_of begin R; reach = R }

-- where none is refused it is of that scene and these bytes; no refusal has looks
abbrev pub FitsTo : Begin → Solid → List ℕ → ℕ → ℕ → Fit → Type 0
FitsTo begin solid bytes frame R (Ok m) = (m.scene ≡ scene_of begin solid frame R) × (m.bytes.now ≡ bytes)
FitsTo begin solid bytes frame R (Err r) = r.looks ≡ 0

-- one test: what it found, or its refusal
abbrev pub Ensured : Bool → ℕ → Vector → Result (Unit {0}) Refused → Type 0
Ensured test number place (Ok t) = test ≡ true
Ensured test number place (Err r) = (test ≡ false) × (r ≡ refusal_of number place 0 0)

pub record PlacesJudged (begin : Begin) (solid : Solid) (bytes : List ℕ) (frame R : ℕ) (r : Fit) : Type 0 where
  pub gives : Gives 0 (placing (probe_of (scene_of begin solid frame R) bytes) (start_of begin)) (fit_tally r)
  pub fits : FitsTo begin solid bytes frame R r

-- what is judged, and its judgement
abbrev pub probe_judged : Begin → Solid → List ℕ → ℤ → ℤ → Probe
probe_judged begin solid bytes frame reach = probe_from (look solid bytes) (apex_of begin (signs (nat_abs frame))) frame reach

abbrev pub judging_of : Begin → Solid → List ℕ → ℤ → ℤ → Question Stop (Unit {0})
judging_of begin solid bytes frame reach = judging (permitted solid bytes) (probe_judged begin solid bytes frame reach) (start_of begin) frame reach

pub record InputsJudged (begin : Begin) (solid : Solid) (bytes : List ℕ) (frame reach : ℤ) (r : Fit) : Type 0 where
  pub gives : Gives 0 (judging_of begin solid bytes frame reach) (fit_tally r)
  pub fits : FitsTo begin solid bytes (nat_abs frame) (nat_abs reach) r
