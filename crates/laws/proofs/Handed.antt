-- The walk from any ready start: 13 exactly where it has too many looks or all three axes level; else the rounds and the end from what it was handed, whatever that is.
use Rattle.std.specs.Prelude.{◌≡◌, ◌⊎◌, Bool, List, ℕ, suc, ◌+◌, ◌*◌, ◌-◌, ◌≤◌, max, ℤ, pos, nat_abs}
use Rattle.std.proofs.Math.Path.{refl}
use Rattle.std.proofs.Common.{ap, subst, ◌∙◌}
use Rattle.std.proofs.Math.Logic.{inl, inr}
use Rattle.std.proofs.Math.Nat as NatL
use native.Mathlib.Omega.{arith}
use Rattle.std.proofs.Math.Dec.{T, T_not}
use Rattle.std.proofs.Math.ListN.{length}
use Rattle.rules.specs.declared.Vector.{Vector}
use Rattle.rules.specs.declared.Look.{Look}
use Rattle.rules.specs.declared.Solid.{Solid}
use Rattle.rules.specs.declared.ReadyStart.{ReadyStart}
use Rattle.rules.specs.declared.Accepted.{Accepted as AcceptedPick}
use Rattle.rules.specs.declared.Refused.{Refused as RefusedPick}
use Rattle.rules.specs.Answers.{Pick}
use Rattle.std.specs.Prelude.{Ok as Accepted, Err as Refused}
use Rattle.rules.specs.Vectors.{origin}
use Rattle.rules.specs.Solids.{between, permitted, look}
use Rattle.rules.specs.Asked.{Asked, answered, refused}
use Rattle.rules.specs.Walk.{Stop, stop, powers, pairs, only, remaining, takes_part, Probe, Found, found}
use Rattle.rules.specs.Pick.{is_inside, refused_answer}
use Rattle.rules.specs.TwoCalls.{is_ready, handed, readiness, walk_on, answer_from, walk_answer, walk_of}
use Rattle.laws.specs.Levels.{at-most-3, pairs-taking, some-remain}
use Rattle.laws.specs.Says.{Says, Few, says-bind, says-test}
use Rattle.laws.specs.Powers.{few-powers, looks-add-up, three-most}
use Rattle.laws.specs.PickRule.{judging-says}
use Rattle.laws.specs.Rounds.{WalkRefusal, WalkFound, round_looks}
use Rattle.laws.proofs.Rounds.{to-the-end-says}
use Rattle.laws.specs.Answers.{steps_of, looks_of, found_of, stop_of, CountedSays, answer-from-says}
use Rattle.range.specs.Ranges.{between-naturals}
use Rattle.laws.specs.Handed.{NotReady, ready-parts, not-ready, never-ready, HandedPassed, NotBegun, PassedOn, NotBegunOn}

-- ---- over any look
module _ (ok : Bool) (look : Vector → Look) (d : ReadyStart) (frame reach : ℤ) where
  abbrev K : ℕ
  K = length (powers (nat_abs reach))

  one-to-four : {number : ℕ} {a : Vector} → (1 ≤ number) × (number ≤ 4) → (HandedPassed ok look d frame reach → ⊥) → NotBegun ok look d frame reach (stop number a 0)
  one-to-four h n = (refl, inl (h, n))

  readiness-says : Says (λ _ t. HandedPassed ok look d frame reach × T (is_ready K d)) (λ r t. NotBegun ok look d frame reach r) (readiness look d frame reach ok)
  unfolding readiness
  readiness-says =
      says-bind {G = λ r t. NotBegun ok look d frame reach r} _ _
      (judging-says ok (handed look d frame reach) d.start frame reach (record {
        one = λ z. one-to-four (omega arith, omega arith) (λ h. T_not (between (pos 1) reach (pos 256)) z h.permitted_reach);
        two = λ z. one-to-four (omega arith, omega arith) (λ h. T_not (between (pos 0) frame (pos 7)) z h.permitted_frame);
        three = λ z. one-to-four (omega arith, omega arith) (λ h. T_not ok z h.permitted_solid);
        four_start = λ z. one-to-four (omega arith, omega arith) (λ h. T_not (is_inside (look d.start)) z h.start_inside);
        four_apex = λ z. one-to-four (omega arith, omega arith) (λ h. T_not (is_inside (look d.apex)) z h.apex_inside);
      }))
      (λ r t k. k)
      (λ _ t h. says-test (is_ready K d) _ (λ n. (refl, inr (refl, h.0, not-ready K d n))) (λ r. (h.0, r)))

-- ---- on a solid
module _ (solid : Solid) (bytes : List ℕ) (d : ReadyStart) (frame reach : ℤ) where
  abbrev c : Probe
  c = handed (look solid bytes) d frame reach

  abbrev R : ℕ
  R = nat_abs reach

  abbrev k : ℕ
  k = length (powers (nat_abs reach))

  -- what the rounds and the end tell, with the looks that they took
  abbrev FoundOn : Found → List Vector → Type 0
  FoundOn = Few (round_looks c R d.level) (WalkFound c R d.level)

  abbrev StoppedOn : Stop → List Vector → Type 0
  StoppedOn = Few (round_looks c R d.level) (WalkRefusal c R d.level)

  -- refused before the rounds with all counts zero; or what the rounds and the end tell, the looks counted on from those handed
  data Told (x : Pick) : Type 0 where
    not_begun : (r : Stop) → NotBegunOn solid bytes d frame reach r → x ≡ Refused (refused_answer r 0) → Told x
    begun : PassedOn solid bytes d frame reach → T (is_ready k d) → CountedSays (λ t. d.looks + length t) FoundOn StoppedOn x → Told x

  told : Told (walk_of solid bytes d frame reach)
  unfolding walk_of walk_answer walk_on
  told = go (readiness (look solid bytes) d frame reach (permitted solid bytes)) (readiness-says (permitted solid bytes) (look solid bytes) d frame reach)
    where
      go : (x : Asked Stop (Unit {0})) → Says (λ _ t. PassedOn solid bytes d frame reach × T (is_ready k d)) (λ r t. NotBegunOn solid bytes d frame reach r) x → Told (walk_answer d.looks x (walk_on (look solid bytes) d frame reach))
      go (answered _ t) s = begun s.of.0 s.of.1 (answer-from-says d.looks FoundOn StoppedOn _ (to-the-end-says c R d.level))
      go (refused r t) s = not_begun r s.of refl

  -- ready: the rounds and the end, and nothing before them
  pub ready-walks : PassedOn solid bytes d frame reach → T (is_ready (length (powers (nat_abs reach))) d) → walk_of solid bytes d frame reach ≡ answer_from d.looks (walk_on (look solid bytes) d frame reach)
  unfolding walk_of walk_answer
  ready-walks p r = go (readiness (look solid bytes) d frame reach (permitted solid bytes)) (readiness-says (permitted solid bytes) (look solid bytes) d frame reach)
    where
      go : (x : Asked Stop (Unit {0})) → Says (λ _ t. PassedOn solid bytes d frame reach × T (is_ready k d)) (λ r t. NotBegunOn solid bytes d frame reach r) x
          → walk_answer d.looks x (walk_on (look solid bytes) d frame reach) ≡ answer_from d.looks (walk_on (look solid bytes) d frame reach)
      go (answered _ t) s = refl
      go (refused e t) s = absurd (begins s.of.1)
        where
          begins : (((1 ≤ e.number) × (e.number ≤ 4)) × (PassedOn solid bytes d frame reach → ⊥)) ⊎ ((e ≡ stop 13 origin 0) × PassedOn solid bytes d frame reach × NotReady k d) → ⊥
          begins (inl h) = h.1 p
          begins (inr h) = T_not (is_ready k d) (never-ready k d h.2) r

  -- 13, exactly where none of 1 to 4 is given and it is not ready
  pub thirteen-when : PassedOn solid bytes d frame reach → NotReady (length (powers (nat_abs reach))) d → walk_of solid bytes d frame reach ≡ Refused (refused_answer (stop 13 origin 0) 0)
  thirteen-when p n = go told
    where
      go : Told (walk_of solid bytes d frame reach) → walk_of solid bytes d frame reach ≡ Refused (refused_answer (stop 13 origin 0) 0)
      go (not_begun r (z, inl h) e) = absurd (h.1 p)
      go (not_begun r (z, inr h) e) = e ∙ ap (λ (r : Stop). Refused (refused_answer r 0)) h.0
      go (begun q r h) = absurd (T_not (is_ready k d) (never-ready k d n) r)

  -- an accepted walk
  pub walk-accepted : (a : AcceptedPick) → walk_of solid bytes d frame reach ≡ Accepted a → PassedOn solid bytes d frame reach × WalkFound (handed (look solid bytes) d frame reach) (nat_abs reach) d.level (found_of a)
  walk-accepted a is = go (subst Told is told)
    where
      go : Told (Accepted a) → PassedOn solid bytes d frame reach × WalkFound c R d.level (found_of a)
      go (not_begun r h e) = absurd (let z : ◌≡◌ {A = ℕ} 0 1 = cc in omega arith)
      go (begun p r h) = (p, h.1.holds)

  -- a refused one: before the rounds, with no look, or in them
  pub walk_refused : (r : RefusedPick) → walk_of solid bytes d frame reach ≡ Refused r → (NotBegunOn solid bytes d frame reach (stop_of r) × (r.looks ≡ 0)) ⊎ WalkRefusal (handed (look solid bytes) d frame reach) (nat_abs reach) d.level (stop_of r)
  walk_refused r is = go (subst Told is told)
    where
      go : Told (Refused r) → (NotBegunOn solid bytes d frame reach (stop_of r) × (r.looks ≡ 0)) ⊎ WalkRefusal c R d.level (stop_of r)
      go (not_begun e h i) = let same : r ≡ refused_answer e 0 = cc i in inl (rw same (h, refl))
      go (begun p t h) = inr h.1.holds

  pub thirteen-only : (r : RefusedPick) → walk_of solid bytes d frame reach ≡ Refused r → r.number ≡ 13 → PassedOn solid bytes d frame reach × NotReady (length (powers (nat_abs reach))) d
  thirteen-only r is e = go (walk_refused r is)
    where
      go : (NotBegunOn solid bytes d frame reach (stop_of r) × (r.looks ≡ 0)) ⊎ WalkRefusal c R d.level (stop_of r) → PassedOn solid bytes d frame reach × NotReady k d
      go (inl ((z, inl h), l)) = absurd (omega (arith, h.0.1, e))
      go (inl ((z, inr h), l)) = (h.1, h.2)
      go (inr h) = absurd (omega (arith, h.known.1, e))

  -- ---- the counts
  pub few-steps : steps_of (walk_of solid bytes d frame reach) ≤ nat_abs reach - length (remaining d.level)
  unfolding found
  few-steps = go (walk_of solid bytes d frame reach) told
    where
      go : (x : Pick) → Told x → steps_of x ≤ R - length (remaining d.level)
      go x (not_begun r h e) = rw e (omega (arith, h.0))
      go (Accepted a) (begun p r h) = let w = h.1.holds in rw (ap (λ (f : Found). f.steps) w.is) w.end.few_steps.allowed
      go (Refused e) (begun p r h) = h.1.holds.few_steps.allowed

  pub few-looks : looks_of (walk_of solid bytes d frame reach) ≤ d.looks + round_looks (handed (look solid bytes) d frame reach) (nat_abs reach) d.level
  few-looks = go (walk_of solid bytes d frame reach) told
    where
      go : (x : Pick) → Told x → looks_of x ≤ d.looks + round_looks c R d.level
      go x (not_begun r h e) = rw e (omega arith)
      go (Accepted a) (begun p r h) = omega (arith, h.1.few, h.2)
      go (Refused e) (begun p r h) = omega (arith, h.1.few, h.2)

  -- with at most 2 + 6K looks handed
  pub most-looks : (N : ℕ) → (nat_abs reach ≤ 256 → 2 + length (powers (nat_abs reach)) * (6 * max (nat_abs reach) 3 - 6) ≤ N) → looks_of (walk_of solid bytes d frame reach) ≤ N
  most-looks N enough = go told
    where
      r : ℕ
      r = length (remaining d.level)

      p : ℕ
      p = length (only (takes_part d.level) pairs)

      go : Told (walk_of solid bytes d frame reach) → looks_of (walk_of solid bytes d frame reach) ≤ N
      go (not_begun e h i) = rw i (omega arith)
      go (begun passed ready h) =
          let parts = ready-parts k d ready in
          let M = max R 3 in
          let three : 6 - r + p * suc (R - r) ≤ 6 * M - 9 = rw (pairs-taking d.level) (three-most r R M (some-remain d.level parts.1) (at-most-3 d.level) (omega arith) (omega arith)) in
          let most : 6 - 0 + p * suc (R - r) ≤ 6 * M - 6 = omega (arith, three, at-most-3 d.level) in
          let all = looks-add-up k 0 p (R - r) d.looks (round_looks c R d.level) (omega arith) (omega (arith, parts.0)) (NatL.le_refl _) in
          omega (arith, few-looks, all, NatL.mul-le-mul_left k most, enough (between-naturals 1 256 reach passed.permitted_reach).1)

  pub most-looks-13772 : looks_of (walk_of solid bytes d frame reach) ≤ 13772
  most-looks-13772 = most-looks 13772 (λ h. let l : 6 * max R 3 - 6 ≤ 1530 = omega (arith, h) in omega (arith, NatL.mul-le-mul (few-powers R h) l))
