-- What a call comes to: what the inputs, the start, and then the rounds and the end make of it, of a pick, a quick touch, a start check and a walk from a ready start.
use mathlib.Core.Path.{◌≡◌, refl, sym, ap, ◌∙◌}
use mathlib.Core.Bool.{Bool, true, false}
use mathlib.Core.List.{List, [], ◌∷◌}
use Prim.Native.Nat.{ℕ, ◌≤◌}
use native.Mathlib.Omega.{arith}
use lib.IntN.{ℤ, nat_abs}
use lib.ListN.{length}
use mir.Syntax.{w32}
use mir.Val.{SFits, to_z, of_z}
use mir.Facts.{to_z-of_z}
use Rattle.rules.specs.declared.Vector.{Vector}
use Rattle.rules.specs.declared.Solid.{Solid}
use Rattle.rules.specs.declared.Levels.{Levels}
use Rattle.rules.specs.declared.ReadyStart.{ReadyStart}
use Rattle.rules.specs.Answers.{Pick as PickAnswer, Check as CheckAnswer}
use Rattle.std.specs.Prelude.{Ok, Err}
use Rattle.rules.specs.declared.Refused.{Refused}
use Rattle.rules.specs.Vectors.{origin}
use Rattle.rules.specs.Solids.{permitted, look}
use Rattle.rules.specs.Asked.{Asked as Question, answered, refused, ◌>>=◌}
use Rattle.rules.specs.Walk.{Stop, stop, powers_from, powers, Probe, at_powers, Found, to_the_end}
use Rattle.rules.specs.Pick.{probe, check, pick, refused_answer}
use Rattle.rules.specs.Touch.{nearer, touch}
use Rattle.rules.specs.TwoCalls.{ready_start, check_answer, check_of, is_ready, handed, readiness, walk_on, answer_from, walk_answer, walk_of}
use Rattle.laws.specs.Answers.{stop_of}
use Rattle.laws.specs.Tally.{Tally, yes, no, tally, Gives, Countable, then-yes, then-no, inner-yes, inner-no, ensured, not-ensured, was-answered}
use Rattle.falls.specs.declared.Scene.{Scene}
use Rattle.falls.specs.declared.Probe.{Probe as SceneProbe}
use Rattle.falls.specs.Scene.{probe_of}
use Rattle.refusals.specs.Refusals.{refusal_of, refusal_tally}
use Rattle.walk.specs.Walk.{walk_questions}
use Rattle.start.specs.declared.Begun.{Begun}
use Rattle.start.specs.Start.{Start, start_tally, start_looks, start_of as asked_start}
use Rattle.inputs.specs.declared.Begin.{Begin}
use Rattle.inputs.specs.declared.Begin.TheVariants.{Asked, Handed}
use Rattle.inputs.specs.Inputs.{Fit, scene_of, judging_of, InputsJudged}
use Rattle.inputs.specs.Facts.{judged-read, inputs-refused, refused-unlooked, inputs-good, scene-is, bytes-are}
use Rattle.ready.specs.Facts.{ready-few}
use Rattle.end.specs.End.{WalkedToEnd}
use Rattle.end.specs.Answers.{is-answer-from, is-answer, answer-onward}
use Rattle.call.specs.Numbers.{is_stack, numbers_of, height_of, solid_of}
use Rattle.call.proofs.Numbers.{solid-again}
use Rattle.call.specs.declared.Call.{Call}
use Rattle.call.specs.declared.Call.TheVariants.{Pick, Touch, Check, Walk}
use Rattle.call.specs.Calls.{Outcome, begin_of, readied, RoundsBegun, walked, walk_end, end_of, walk_at, checked, outcome_of, CallMade}

-- ---- what may be taken for granted: the looks can be counted on
readied-few : (R : ℕ) (d : ReadyStart) (b : Bool) → R ≤ 256 → is_ready (length (powers R)) d ≡ b → start_looks (readied b d) ≤ 56
readied-few R d true h e = ready-few R d h e
readied-few R d false h e = omega arith

begun-few : (begin : Begin) {c : Probe} {R : ℕ} {begun : Start} → R ≤ 256 → RoundsBegun begin c R begun → start_looks begun ≤ 3074
begun-few (Asked quick p) h g = omega (arith, g.begun.few)
begun-few (Handed d) {R = R} h g = omega (arith, ap start_looks g.begun, readied-few R d _ h refl)

pub begun-countable : {begin : Begin} {c : Probe} {R : ℕ} {begun : Start} {b : Begun} → R ≤ 256 → RoundsBegun begin c R begun → begun ≡ Ok b → Countable walk_questions b.looks
begun-countable {begin} h g e = omega (arith, begun-few begin h g, ap start_looks e)

-- ---- a pick or a quick touch is the inputs, a start, the rounds and the end, of one probe
module _ (solid : Solid) (bytes : List ℕ) (frame reach : ℤ) where
  probe_for : Begin → Probe
  probe_for (Asked true p) = nearer (probe (look solid bytes) p frame reach)
  probe_for (Asked false p) = probe (look solid bytes) p frame reach
  probe_for (Handed d) = handed (look solid bytes) d frame reach

  behind : Bool → Vector → Question Stop Found
  behind quick p = asked_start quick (probe_for (Asked quick p)) p >>= λ v. to_the_end (probe_for (Asked quick p)) (nat_abs reach) v

  walk_for : Bool → Vector → Question Stop Found
  walk_for quick p = walk_at quick (permitted solid bytes) (look solid bytes) p frame reach

  walk_refused : (quick : Bool) (p : Vector) {s : Stop} {k : ℕ} → Gives 0 (judging_of (Asked quick p) solid bytes frame reach) (no s k) → Gives 0 (walk_for quick p) (no s k)
  unfolding walk_for pick check touch
  walk_refused true p h = then-no _ h
  walk_refused false p h = inner-no _ _ h

  walk-on : (quick : Bool) (p : Vector) {r : Tally Stop Found} → Gives 0 (judging_of (Asked quick p) solid bytes frame reach) (yes tt 0) → Gives 0 (behind quick p) r → Gives 0 (walk_for quick p) r
  unfolding walk_for pick check touch behind probe_for
  walk-on true p h g = then-yes _ h g
  walk-on false p h g = inner-yes _ _ h g

one_power : powers 1 ≡ 1 ∷ []
unfolding powers powers_from
one_power = refl

-- a scene's probe is that one
probe-is : (solid : Solid) (bytes : List ℕ) (frame reach : ℤ) (begin : Begin) → probe_of (scene_of begin solid (nat_abs frame) (nat_abs reach)) bytes ≡ probe_for solid bytes frame reach begin
unfolding probe_for
probe-is solid bytes frame reach (Asked true p) = ap (λ ls. at_powers ls (probe (look solid bytes) p frame reach)) one_power
probe-is solid bytes frame reach (Asked false p) = refl
probe-is solid bytes frame reach (Handed d) = refl

-- ---- a check's answer is made of what its start gives
module _ (p q : Vector) where
  check_from : Tally Stop Levels → CheckAnswer
  check_from (yes v n) = Ok (ready_start p q v n)
  check_from (no s n) = Err (refused_answer s n)

  check-answer : (x : Question Stop Levels) → check_from (tally 0 x) ≡ check_answer p q x
  unfolding check_from tally check_answer
  check-answer (answered v t) = ap (λ (n : ℕ). Ok (ready_start p q v n)) (omega arith)
  check-answer (refused s t) = ap (λ (n : ℕ). Err (refused_answer s n)) (omega arith)

  is-check : (x : Question Stop Levels) {r : Tally Stop Levels} → Gives 0 x r → check_from r ≡ check_answer p q x
  is-check x h = ap check_from h.is ∙ check-answer x

-- ---- a walk's: before the rounds all counts are zero
module _ (n : ℕ) (y : Question Stop Found) where
  walk-not-begun : (x : Question Stop (Unit {0})) {r : Refused} → Gives 0 x (refusal_tally r) → r.looks ≡ 0 → Err r ≡ walk_answer n x y
  unfolding tally walk_answer
  walk-not-begun (answered u t) h e = absurd (let i = h.is in let z : ◌≡◌ {A = ℕ} 0 1 = cc in omega arith)
  walk-not-begun (refused s t) {r} h e = let i = h.is in let j : stop_of r ≡ s = cc in λ k. Err (refused_answer (j k) (e k))

  walk-begun : (x : Question Stop (Unit {0})) {k : ℕ} → Gives 0 x (yes tt k) → answer_from n y ≡ walk_answer n x y
  unfolding walk_answer
  walk-begun x h = rw (was-answered x h).1

-- ---- all but a check walk to the end
others-walk : (call : Call) (v : Scene) (bytes : List ℕ) (b : Begun) → ((p : Vector) → call ≡ Check p → ⊥) → walk_end v bytes b ≡ end_of call v bytes b
others-walk (Pick p) v bytes b k = refl
others-walk (Touch p) v bytes b k = refl
others-walk (Check p) v bytes b k = absurd (k p refl)
others-walk (Walk d) v bytes b k = refl

pub walks-on : {call : Call} (v : Scene) (bytes : List ℕ) {b : Begun} {r : PickAnswer} → ((p : Vector) → call ≡ Check p → ⊥) → WalkedToEnd (probe_of v bytes) v.reach b.level b.looks r → walked r ≡ end_of call v bytes b
walks-on {call} v bytes {b} k h = ap walked (is-answer-from _ h.gives) ∙ others-walk call v bytes b k

-- ---- a ready start is judged
readied-stopped : (b : Bool) (d : ReadyStart) {r : Refused} → readied b d ≡ Err r → (b ≡ false) × (r ≡ refusal_of 13 origin 0 0)
readied-stopped true d e = absurd (let z : ◌≡◌ {A = ℕ} 0 1 = cc in omega arith)
readied-stopped false d e = (refl, cc)

readied-on : (b : Bool) (d : ReadyStart) {g : Begun} → readied b d ≡ Ok g → (b ≡ true) × (g ≡ record { level = d.level; looks = d.looks })
readied-on true d e = (refl, cc)
readied-on false d e = absurd (let z : ◌≡◌ {A = ℕ} 0 1 = cc in omega arith)

-- ---- how far a call came: its inputs are refused
module _ {solid : Solid} {bytes : List ℕ} {frame reach : ℤ} {fit : Fit} where
  refused_as : (call : Call) {r : Refused} → InputsJudged (begin_of call) solid bytes frame reach fit → fit ≡ Err r → Err r ≡ outcome_of call solid bytes frame reach
  unfolding walk_for check_of check check_from walk_of readiness
  refused_as (Pick p) {r} h e = ap walked (is-answer _ {r = Err r} (walk_refused solid bytes frame reach false p (inputs-refused h e)))
  refused_as (Touch p) {r} h e = ap walked (is-answer _ {r = Err r} (walk_refused solid bytes frame reach true p (inputs-refused h e)))
  refused_as (Check p) h e = ap checked (is-check p _ _ (then-no _ (inputs-refused h e)))
  refused_as (Walk d) h e = ap walked (walk-not-begun d.looks _ _ (then-no _ (inputs-refused h e)) (refused-unlooked h e))

  -- or they are good, and it has its probe
  module _ {v : SceneProbe} (e : fit ≡ Ok v) where
    here : (begin : Begin) → InputsJudged begin solid bytes frame reach fit → probe_of v.scene v.bytes.now ≡ probe_for solid bytes frame reach begin
    here begin h = (λ i. probe_of (scene-is h e i) (bytes-are h e i)) ∙ probe-is solid bytes frame reach begin

    reached : {begin : Begin} → InputsJudged begin solid bytes frame reach fit → v.scene.reach ≡ nat_abs reach
    reached h = ap (λ (w : Scene). w.reach) (scene-is h e)

    module _ {begun : Start} where
      started : (quick : Bool) (p : Vector) {b : Start} → InputsJudged (Asked quick p) solid bytes frame reach fit → RoundsBegun (Asked quick p) (probe_of v.scene v.bytes.now) v.scene.reach begun → begun ≡ b
          → Gives 0 (asked_start quick (probe_for solid bytes frame reach (Asked quick p)) p) (start_tally b)
      started quick p h g i = rw (← here (Asked quick p) h) (rw i at g.begun.gives)

      -- its start is refused
      stopped-as : (call : Call) {r : Refused} → InputsJudged (begin_of call) solid bytes frame reach fit → RoundsBegun (begin_of call) (probe_of v.scene v.bytes.now) v.scene.reach begun → begun ≡ Err r
          → Err r ≡ outcome_of call solid bytes frame reach
      unfolding walk_for behind probe_for check_of check check_from walk_of readiness
      stopped-as (Pick p) {r} h g i = ap walked (is-answer _ {r = Err r} (walk-on solid bytes frame reach false p (inputs-good h e) (then-no _ (started false p h g i))))
      stopped-as (Touch p) {r} h g i = ap walked (is-answer _ {r = Err r} (walk-on solid bytes frame reach true p (inputs-good h e) (then-no _ (started true p h g i))))
      stopped-as (Check p) h g i = ap checked (is-check p _ _ (then-yes _ (inputs-good h e) (started false p h g i)))
      stopped-as (Walk d) {r} h g i =
          let s = readied-stopped (is_ready (length (powers v.scene.reach)) d) d (sym g.begun ∙ i) in
          let not-ready : is_ready (length (powers (nat_abs reach))) d ≡ false = rw (reached h) at s.0 in
          ap walked (walk-not-begun d.looks _ _ (then-yes _ (inputs-good h e) (rw s.1 (not-ensured not-ready))) (ap (λ (r : Refused). r.looks) s.1))

      -- or it came to its end
      ended-as : (call : Call) {b : Begun} → InputsJudged (begin_of call) solid bytes frame reach fit → RoundsBegun (begin_of call) (probe_of v.scene v.bytes.now) v.scene.reach begun → begun ≡ Ok b
          → end_of call v.scene v.bytes.now b ≡ outcome_of call solid bytes frame reach
      unfolding walk_for behind probe_for check_of check check_from walk_of readiness walk_on
      ended-as (Pick p) {b} h g i =
          rw (here (Asked false p) h, reached h) (ap walked (answer-onward b.looks _ _ (walk-on solid bytes frame reach false p (inputs-good h e) (then-yes _ (started false p h g i) (record { is = refl })))))
      ended-as (Touch p) {b} h g i =
          rw (here (Asked true p) h, reached h) (ap walked (answer-onward b.looks _ _ (walk-on solid bytes frame reach true p (inputs-good h e) (then-yes _ (started true p h g i) (record { is = refl })))))
      ended-as (Check p) h g i =
          rw (ap (λ (w : Scene). w.apex) (scene-is h e)) (ap checked (is-check p _ _ (then-yes _ (inputs-good h e) (started false p h g i))))
      ended-as (Walk d) h g i =
          let s = readied-on (is_ready (length (powers v.scene.reach)) d) d (sym g.begun ∙ i) in
          let is-ready : is_ready (length (powers (nat_abs reach))) d ≡ true = rw (reached h) at s.0 in
          rw (here (Handed d) h, reached h, s.1) (ap walked (walk-begun d.looks _ _ (then-yes _ (inputs-good h e) (ensured (stop 13 origin 0) is-ready))))

-- ---- of the numbers as they were read
module _ {call : Call} {begin : Begin} {solid : Solid} {bytes : List ℕ} {frame reach : ℤ} {fit : Fit} (fits-frame : SFits w32 frame) (fits-reach : SFits w32 reach) (b : begin ≡ begin_of call)
    (read : InputsJudged begin solid bytes (to_z w32 (of_z w32 frame)) (to_z w32 (of_z w32 reach)) fit) where
  pub made-refused : {r : Refused} → fit ≡ Err r → CallMade call solid bytes frame reach (Err r)
  made-refused e = record { is = refused_as call (rw b at (judged-read fits-frame fits-reach read)) e }

  module _ {v : SceneProbe} {begun : Start} (e : fit ≡ Ok v) (g : RoundsBegun begin (probe_of v.scene v.bytes.now) v.scene.reach begun) where
    pub made-stopped : {r : Refused} → begun ≡ Err r → CallMade call solid bytes frame reach (Err r)
    made-stopped i = record { is = stopped-as e call (rw b at (judged-read fits-frame fits-reach read)) (rw b at g) i }

    pub made-ended : {n : Begun} {r : Outcome} → begun ≡ Ok n → r ≡ end_of call v.scene v.bytes.now n → CallMade call solid bytes frame reach r
    made-ended i w = record { is = w ∙ ended-as e call (rw b at (judged-read fits-frame fits-reach read)) (rw b at g) i }

pub ruleset made = (made-refused, made-stopped, made-ended)

-- ---- a call of the solid that is made of another's numbers
pub made_again : {call : Call} {s t : Solid} {bytes : List ℕ} {frame reach : ℤ} {stack : Bool} {n : Vector} {h : ℤ} {r : Outcome} → SFits w32 frame → SFits w32 reach → SFits w32 h
    → stack ≡ is_stack s → n ≡ numbers_of s → h ≡ height_of s → t ≡ solid_of stack n (to_z w32 (of_z w32 h))
    → CallMade call t bytes (to_z w32 (of_z w32 frame)) (to_z w32 (of_z w32 reach)) r → CallMade call s bytes frame reach r
made_again {s = s} {h = h} f g k a b c d m =
    let e = d ∙ (λ i. solid_of (a i) (b i) ((to_z-of_z k ∙ c) i)) ∙ solid-again s in
    rw (e, to_z-of_z f, to_z-of_z g) at m
