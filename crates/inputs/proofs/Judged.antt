-- The refusals 1 to 4, in their order: what each test makes of the judgement.
use Rattle.std.specs.Prelude.{◌≡◌, Bool, true, false, List, ℕ, ◌≤◌, ℤ, pos, nat_abs, Ok, Err}
use Rattle.std.proofs.Common.{sym, ap, ◌∙◌, lit≤}
use Rattle.rules.specs.declared.Vector.{Vector}
use Rattle.rules.specs.declared.Solid.{Solid}
use Rattle.rules.specs.declared.Refused.{Refused}
use Rattle.rules.specs.Vectors.{dot, origin}
use Rattle.rules.specs.Solids.{between, permitted, box, in_box}
use Rattle.rules.specs.Walk.{signs}
use Rattle.rules.specs.Pick.{placing, judging}
use Rattle.laws.specs.Frames.{signs-are}
use Rattle.laws.specs.Bounds.{Bounded, bounded-is, bounded-wider}
use Rattle.solid.specs.Asks.{PermittedSolid}
use Rattle.solid.specs.declared.Grid.{Grid}
use Rattle.solid.specs.Grid.{ranks_of, grid_of}
use Rattle.solid.specs.Facts.{inside-bounded}
use Rattle.falls.specs.declared.Scene.{Scene}
use Rattle.falls.specs.declared.Probe.{Probe}
use Rattle.falls.specs.Sizes.{signs-bounded}
use Rattle.falls.specs.Scene.{probe_of, Ready}
use Rattle.refusals.specs.Refusals.{refusal_of}
use Rattle.inputs.specs.Judging.{reach-refused, frame_refused, solid-refused, solid-permitted, start-outside-box, apex-outside-box, both-inside, inside_is}
use Rattle.inputs.specs.declared.Begin.{Begin}
use Rattle.inputs.specs.declared.Begin.TheVariants.{Asked as IsAsked, Handed}
use Rattle.inputs.specs.Inputs.{Fit, start_of, apex_of, span_of, scene_of, probe_judged, PlacesJudged, InputsJudged}

-- ---- where the rounds begin
span-high : (begin : Begin) (R : ℕ) → R ≤ 256 → span_of begin R ≤ 256
span-high (IsAsked true p) R h = lit≤ tt
span-high (IsAsked false p) R h = h
span-high (Handed d) R h = h

-- ---- the places: p is judged, then the apex as it was computed
-- so q = p + s fits
pub sum_fits : {solid : Solid} {bytes : List ℕ} (begin : Begin) (frame : ℕ) {p s : Vector} → PermittedSolid solid bytes → p ≡ start_of begin → in_box (box solid) p ≡ true → s ≡ signs frame → Bounded 1000000000 (start_of begin) × Bounded 1000000000 s
sum_fits begin frame ok hp e hs = (rw (← hp) (bounded-wider (inside-bounded ok (record { is = e })) (lit≤ tt)), bounded-is hs (bounded-wider (signs-bounded (signs-are frame)) (lit≤ tt)))

-- and the apex's rank
pub rank-fits : {solid : Solid} {bytes : List ℕ} {q : Vector} → PermittedSolid solid bytes → in_box (box solid) q ≡ true → Bounded 10000 q
rank-fits ok e = bounded-wider (inside-bounded ok (record { is = e })) (lit≤ tt)

pub scene-ready : (begin : Begin) (frame : ℕ) {solid : Solid} {bytes : List ℕ} {grid : Grid} {q s : Vector} {here : ℤ} {span R : ℕ}
    → PermittedSolid solid bytes → grid ≡ grid_of solid → in_box (box solid) q ≡ true → here ≡ dot (ranks_of solid) q → s ≡ signs frame → span ≡ span_of begin R → R ≤ 256
    → Ready (record { solid = solid; grid = grid; apex = q; here = here; signs = s; span = span; reach = R }) bytes
scene-ready begin frame {R = R} ok hg e hh hs hl h = record { permitted = ok; gridded = hg; placed = record { is = e }; ranked = hh; signed = rw hs (signs-are frame); span-high = rw hl (span-high begin R h); reach-high = h }

-- the apex, as it was computed
apex-is : (begin : Begin) (frame : ℕ) {s q : Vector} → s ≡ signs frame → q ≡ apex_of begin s → q ≡ apex_of begin (signs frame)
apex-is begin frame hs hq = hq ∙ ap (apex_of begin) hs

module _ {begin : Begin} {solid : Solid} {bytes : List ℕ} {frame R : ℕ} {p : Vector} {a : Bool} (hp : p ≡ start_of begin) (ha : a ≡ in_box (box solid) p) where
  pub placed-outside : {r : Refused} → (a ≡ false) × (r ≡ refusal_of 4 p 0 0) → PlacesJudged begin solid bytes frame R (Err r)
  placed-outside f = record { gives = rw (f.1, hp) (start-outside-box (probe_of (scene_of begin solid frame R) bytes) (start_of begin) (inside_is solid bytes hp ha f.0)); fits = ap (λ (r : Refused). r.looks) f.1 }

  module _ {s q : Vector} {b : Bool} (e : a ≡ true) (hs : s ≡ signs frame) (hq : q ≡ apex_of begin s) (hb : b ≡ in_box (box solid) q) where
    pub placed-apex-outside : {r : Refused} → (b ≡ false) × (r ≡ refusal_of 4 q 0 0) → PlacesJudged begin solid bytes frame R (Err r)
    placed-apex-outside f =
        let i = apex-is begin frame hs hq in
        record { gives = rw (f.1, i) (apex-outside-box (probe_of (scene_of begin solid frame R) bytes) (start_of begin) (inside_is solid bytes hp ha e) (inside_is solid bytes i hb f.0)); fits = ap (λ (r : Refused). r.looks) f.1 }

    pub placed-inside : {m : Probe} → b ≡ true → m.scene ≡ scene_of begin solid frame R → m.bytes.now ≡ bytes → PlacesJudged begin solid bytes frame R (Ok m)
    placed-inside g v l = record { gives = both-inside (probe_of (scene_of begin solid frame R) bytes) (start_of begin) (inside_is solid bytes hp ha e) (inside_is solid bytes (apex-is begin frame hs hq) hb g); fits = (v, l) }

pub scene-is : (begin : Begin) (frame R : ℕ) {solid : Solid} {grid : Grid} {q s : Vector} {here : ℤ} {span : ℕ}
    → grid ≡ grid_of solid → q ≡ apex_of begin s → here ≡ dot (ranks_of solid) q → s ≡ signs frame → span ≡ span_of begin R
    → ◌≡◌ {A = Scene} (record { solid = solid; grid = grid; apex = q; here = here; signs = s; span = span; reach = R }) (scene_of begin solid frame R)
scene-is begin frame R {solid} hg hq hh hs hl =
    let i = apex-is begin frame hs hq in
    λ j. record { solid = solid; grid = hg j; apex = i j; here = (hh ∙ ap (dot (ranks_of solid)) i) j; signs = hs j; span = hl j; reach = R }

pub ruleset placing-judged = (placed-outside, placed-apex-outside)

-- ---- the inputs
module _ {begin : Begin} {solid : Solid} {bytes : List ℕ} {frame reach : ℤ} {a : Bool} (ha : a ≡ between (pos 1) reach (pos 256)) where
  pub judged-reach : {r : Refused} → (a ≡ false) × (r ≡ refusal_of 1 origin 0 0) → InputsJudged begin solid bytes frame reach (Err r)
  unfolding judging
  judged-reach f = record { gives = rw f.1 (reach-refused (permitted solid bytes) frame reach (placing (probe_judged begin solid bytes frame reach) (start_of begin)) (sym ha ∙ f.0)); fits = ap (λ (r : Refused). r.looks) f.1 }

  module _ {b : Bool} (e : a ≡ true) (hb : b ≡ between (pos 0) frame (pos 7)) where
    pub judged-frame : {r : Refused} → (b ≡ false) × (r ≡ refusal_of 2 origin 0 0) → InputsJudged begin solid bytes frame reach (Err r)
    unfolding judging
    judged-frame f = record { gives = rw f.1 (frame_refused (permitted solid bytes) frame reach (placing (probe_judged begin solid bytes frame reach) (start_of begin)) (sym ha ∙ e) (sym hb ∙ f.0)); fits = ap (λ (r : Refused). r.looks) f.1 }

    module _ {d : Bool} (g : b ≡ true) (hd : d ≡ permitted solid bytes) where
      pub judged-solid : {r : Refused} → (d ≡ false) × (r ≡ refusal_of 3 origin 0 0) → InputsJudged begin solid bytes frame reach (Err r)
      unfolding judging
      judged-solid f = record { gives = rw f.1 (solid-refused (permitted solid bytes) frame reach (placing (probe_judged begin solid bytes frame reach) (start_of begin)) (sym ha ∙ e) (sym hb ∙ g) (sym hd ∙ f.0)); fits = ap (λ (r : Refused). r.looks) f.1 }

      pub judged-placed : {body : Solid} {lent : List ℕ} {r : Fit} → d ≡ true → (body ≡ solid) × (lent ≡ bytes) → PlacesJudged begin body lent (nat_abs frame) (nat_abs reach) r → InputsJudged begin solid bytes frame reach r
      unfolding placing judging
      judged-placed k same h =
          let h : PlacesJudged begin solid bytes (nat_abs frame) (nat_abs reach) _ = rw (same.0, same.1) at h in
          record { gives = solid-permitted (permitted solid bytes) frame reach (placing (probe_judged begin solid bytes frame reach) (start_of begin)) (sym ha ∙ e) (sym hb ∙ g) (sym hd ∙ k) h.gives; fits = h.fits }

pub ruleset inputs-judged = (judged-reach, judged-frame, judged-solid)
