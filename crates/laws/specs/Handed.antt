-- The walk from any ready start: which is ready, and what a refusal before the rounds tells. `proofs/Handed` says it of every walk.
use Rattle.std.specs.Prelude.{◌≡◌, ◌⊎◌, Bool, ◌&&◌, List, ℕ, ◌+◌, ◌*◌, ◌≤◌, ◌<◌, ℤ, nat_abs}
use Rattle.std.proofs.Math.Path.{refl}
use Rattle.std.proofs.Common.{sym, ap, leb→le}
use Rattle.std.proofs.Math.Logic.{inl, inr}
use Rattle.std.proofs.Math.Bool.{true, false, not}
use native.Mathlib.Omega.{arith}
use Rattle.std.proofs.Math.Dec.{T, T_not, leb, nleb→lt}
use Rattle.std.proofs.Math.ListN.{length}
use Rattle.std.proofs.Math.Facts.{and_yes}
use Rattle.rules.specs.declared.Vector.{Vector}
use Rattle.rules.specs.declared.Look.{Look}
use Rattle.rules.specs.declared.Solid.{Solid}
use Rattle.rules.specs.declared.ReadyStart.{ReadyStart}
use Rattle.rules.specs.declared.Accepted.{Accepted as AcceptedPick}
use Rattle.std.specs.Prelude.{Ok as Accepted}
use Rattle.rules.specs.Vectors.{origin}
use Rattle.rules.specs.Solids.{permitted, look}
use Rattle.rules.specs.Asked.{Asked, answered, refused}
use Rattle.rules.specs.Walk.{Stop, stop, powers, all_level, Found}
use Rattle.rules.specs.Pick.{accepted_answer}
use Rattle.rules.specs.TwoCalls.{is_ready, handed, answer_from, walk_answer}
use Rattle.laws.specs.Answered.{voxels_of}
use Rattle.laws.specs.PickRule.{Passed}
use Rattle.laws.specs.Answers.{found_of}

-- ---- ready or not
module _ (K : ℕ) (d : ReadyStart) where
  -- more than 2 + 6K looks, or all three axes level
  abbrev pub NotReady : Type 0
  NotReady = (2 + 6 * K < d.looks) ⊎ T (all_level d.level)

  pub ready-parts : T (is_ready K d) → (d.looks ≤ 2 + 6 * K) × T (not (all_level d.level))
  unfolding is_ready
  ready-parts h = let k = and_yes (leb d.looks (2 + 6 * K)) _ h in (leb→le d.looks (2 + 6 * K) k.0, k.1)

  pub not-ready : T (not (is_ready K d)) → NotReady
  unfolding is_ready
  not-ready h = go (leb d.looks (2 + 6 * K)) refl (all_level d.level) refl h
    where
      go : (a : Bool) → leb d.looks (2 + 6 * K) ≡ a → (b : Bool) → all_level d.level ≡ b → T (not (a && not b)) → NotReady
      go false e b f h = inl (nleb→lt d.looks (2 + 6 * K) (rw e tt))
      go true e true f h = inr (rw f tt)
      go true e false f h = absurd h

  pub never-ready : NotReady → T (not (is_ready K d))
  unfolding is_ready
  never-ready n = go (is_ready K d) refl
    where
      go : (b : Bool) → is_ready K d ≡ b → T (not b)
      go false e = tt
      go true e = both n (ready-parts (rw e tt))
        where
          both : NotReady → (d.looks ≤ 2 + 6 * K) × T (not (all_level d.level)) → T (not true)
          both (inl l) k = absurd (omega (arith, l, k.0))
          both (inr l) k = absurd (T_not (all_level d.level) k.1 l)

-- ---- over any look
module _ (ok : Bool) (look : Vector → Look) (d : ReadyStart) (frame reach : ℤ) where
  -- none of the refusals 1 to 4, on the handed start and apex
  abbrev pub HandedPassed : Type 0
  HandedPassed = Passed ok (handed look d frame reach) d.start frame reach

  -- refused before the rounds: 1 to 4, or 13
  abbrev pub NotBegun : Stop → Type 0
  NotBegun r = (r.steps ≡ 0) × ((((1 ≤ r.number) × (r.number ≤ 4)) × (HandedPassed → ⊥)) ⊎ ((r ≡ stop 13 origin 0) × HandedPassed × NotReady (length (powers (nat_abs reach))) d))

-- ---- on a solid
module _ (solid : Solid) (bytes : List ℕ) (d : ReadyStart) (frame reach : ℤ) where
  abbrev pub PassedOn : Type 0
  PassedOn = HandedPassed (permitted solid bytes) (look solid bytes) d frame reach

  abbrev pub NotBegunOn : Stop → Type 0
  NotBegunOn = NotBegun (permitted solid bytes) (look solid bytes) d frame reach

-- an accepted record is what the rounds and the end answered
pub accepted-walk : (n : ℕ) (x : Asked Stop (Unit {0})) (y : Asked Stop Found) {a : AcceptedPick} → walk_answer n x y ≡ Accepted a → (y ≡ answered (found_of a) (voxels_of y)) × (a.looks ≡ n + length (voxels_of y))
unfolding walk_answer answer_from
accepted-walk n (answered _ t) (answered f u) {a} e =
    let is : accepted_answer f (n + length u) ≡ a = cc in
    (ap (λ (a : AcceptedPick). answered (found_of a) u) is, ap (λ (a : AcceptedPick). a.looks) (sym is))
accepted-walk n (answered _ t) (refused r u) e = absurd (let z : ◌≡◌ {A = ℕ} 0 1 = cc in omega arith)
accepted-walk n (refused r t) y e = absurd (let z : ◌≡◌ {A = ℕ} 0 1 = cc in omega arith)
