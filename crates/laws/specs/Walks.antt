-- The rule of the walk: what is kept by every step holds at the end. `r` bounds the steps that can still be taken, so the looks are at most
-- those of r + 1 rounds; document 01's own bound is `left`.
use mathlib.Core.List.{List, []}
use Prim.Native.Nat.{ℕ, zero, suc, ◌*◌, ◌≤◌}
use Rattle.std.proofs.Math.Nat as NatL
use native.Mathlib.Omega.{arith}
use Rattle.std.specs.Prelude.{length}
use Rattle.rules.specs.declared.Vector.{Vector}
use Rattle.rules.specs.declared.Triangle.{Triangle}
use Rattle.rules.specs.declared.Pair.{Pair}
use Rattle.rules.specs.Answers.{Choice}
use Rattle.std.specs.Prelude.{None as Nothing, Some as Chosen}
use Rattle.rules.specs.Asked.{answered, refused}
use Rattle.rules.specs.Walk.{Stop, stop, Probe, step, walk}
use Rattle.laws.specs.Says.{Says, Few, says-answer, says-refuse, few-bind, few-fewer, says-asked}
use Rattle.laws.specs.Looks.{StoppedOf, RoundOf, round-says}

module _ (c : Probe) (ps : List Pair) where
  -- Kept holds at each round, Ends of the end, F of a refusal
  pub record WalkRule (Kept : ℕ → ℕ → ℕ → Triangle → Type 0) (Ends : Triangle × ℕ → Type 0) (F : Stop → Type 0) : Type 0 where
    pub outside : (left r n : ℕ) (m : Triangle) (p : Vector) → Kept left r n m → StoppedOf c m ps p → F (stop 8 p n)
    pub ends : (left r n : ℕ) (m : Triangle) → Kept left r n m → RoundOf c ps m Nothing → Ends (m, n)
    pub stops : (r n : ℕ) (m : Triangle) (x : Pair) → Kept 0 r n m → RoundOf c ps m (Chosen x) → F (stop 9 c.apex n)
    pub steps : (left r n : ℕ) (m : Triangle) (x : Pair) → Kept (suc left) r n m → RoundOf c ps m (Chosen x) → (k : ℕ) × (suc k ≤ r) × Kept left k (suc n) (step m x)

  -- the most looks of a round
  abbrev M : ℕ
  M = length ps * length c.powers

  module _ {Kept : ℕ → ℕ → ℕ → Triangle → Type 0} {Ends : Triangle × ℕ → Type 0} {F : Stop → Type 0} (rule : WalkRule Kept Ends F) where
    beyond : (left r n : ℕ) (m : Triangle) → Kept left r n m → (p : Vector) (t : List Vector) → Few M (StoppedOf c m ps) p t → Few M F (stop 8 p n) t
    beyond left r n m h p t b = record { holds = rule.outside left r n m p h b.holds; few = b.few }

    pub walk-says : (left r n : ℕ) (m : Triangle) → Kept left r n m → Says (Few (suc r * (length ps * length c.powers)) Ends) (Few (suc r * (length ps * length c.powers)) F) (walk c ps left n m)
    unfolding walk
    walk-says zero r n m h = few-fewer _ (omega (arith, NatL.suc-mul r M)) (few-bind {M = M} {N = 0} _ _ (says-asked n _ (beyond 0 r n m h) (round-says c ps m)) go)
      where
        go : (chosen : Choice) → RoundOf c ps m chosen → Says {E = Stop} {A = Triangle × ℕ} (Few 0 Ends) (Few 0 F) (elim chosen [ Nothing ↦ answered (m, n) [] | Chosen x ↦ refused (stop 9 c.apex n) [] ])
        go Nothing w = says-answer (record { holds = rule.ends 0 r n m h w; few = omega arith })
        go (Chosen x) w = says-refuse (record { holds = rule.stops r n m x h w; few = omega arith })
    walk-says (suc left) r n m h =
        few-fewer _ (omega (arith, NatL.suc-mul r M))
        (few-bind {M = M} {N = r * M} _ _ (says-asked n _ (beyond (suc left) r n m h) (round-says c ps m)) (λ chosen w. go chosen w (λ k x. walk-says left k (suc n) (step m x))))
      where
        go : (chosen : Choice) → RoundOf c ps m chosen → ((k : ℕ) (x : Pair) → Kept left k (suc n) (step m x) → Says (Few (suc k * M) Ends) (Few (suc k * M) F) (walk c ps left (suc n) (step m x)))
            → Says {E = Stop} {A = Triangle × ℕ} (Few (r * M) Ends) (Few (r * M) F) (elim chosen [ Nothing ↦ answered (m, n) [] | Chosen x ↦ walk c ps left (suc n) (step m x) ])
        go Nothing w f = says-answer (record { holds = rule.ends (suc left) r n m h w; few = omega arith })
        go (Chosen x) w f = let z = rule.steps left r n m x h w in few-fewer _ (NatL.mul-le-mul_right M z.1) (f z.0 x z.2)
