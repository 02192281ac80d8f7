-- Every quick touch on every look, by the rules: at power 1 a question is one look, so a round is six and the looks are counted by the steps; what a refusal tells.
use Rattle.std.specs.Prelude.{◌≡◌, ◌⊎◌, Bool}
use Rattle.std.proofs.Math.Path.{refl}
use Rattle.std.proofs.Common.{inl}
use Rattle.std.proofs.Math.Logic.{inr}
use Rattle.std.proofs.Math.Bool.{true, false}
use mathlib.Core.List.{List, [], ◌∷◌, ◌++◌}
use Prim.Native.Nat.{ℕ, zero, suc, ◌+◌, ◌*◌, ◌-◌, ◌≤◌}
use native.Mathlib.Omega.{arith}
use Rattle.std.proofs.Math.ListN.{length, length-append}
use Rattle.rules.specs.declared.Vector.{Vector}
use Rattle.rules.specs.declared.Look.TheVariants.{Outside}
use Rattle.rules.specs.declared.Triangle.{Triangle}
use Rattle.rules.specs.declared.Pair.{Pair}
use Rattle.rules.specs.Answers.{Choice}
use Rattle.std.specs.Prelude.{None as Nothing, Some as Chosen}
use Rattle.rules.specs.Vectors.{◌⊕◌, lay}
use Rattle.rules.specs.Asked.{answered, refused}
use Rattle.rules.specs.Walk.{Stop, stop, pairs, way, step, keep, only, remaining, takes_part, none_level, choice, Probe, Found, falls_at, falls, falling, round, walk}
use Rattle.rules.specs.Touch.{nearer}
use Rattle.laws.specs.Parts.{scale_one}
use Rattle.laws.specs.Says.{Says, says-answer, says-refuse, says-weaker, says-bind, says-asked, says_map}
use Rattle.laws.specs.Looks.{look-says, StoppedOf}
use Rattle.laws.specs.Next.{Reached, TurnOf, turn-of}
use Rattle.laws.specs.Corners.{CornerEmpty, nth}

-- ---- no axis is level: all six pairs, and three axes remain
pub all_take : only (takes_part none_level) pairs ≡ pairs
unfolding only keep takes_part
all_take = refl

pub three-remain : length (remaining none_level) ≡ 3
unfolding remaining only keep
three-remain = refl

-- ---- looks at power 1
module _ (b : Probe) where
  abbrev c : Probe
  c = nearer b

  falls-one : (u : Vector) → Says (λ f t. length t ≡ 1) (λ p t. length t ≤ 1) (falls c u)
  unfolding falls_at
  falls-one u = says-bind {G = λ p t. length t ≤ 1} _ _ (says-weaker _ (λ f t h. h) (λ p t h. rw h.2 (omega arith)) (look-says c _)) (λ p t h. h) (λ f t h. rw h.1 (go f))
    where
      go : (f : Bool) → Says {E = Vector} {A = Bool} (λ f t. suc (length t) ≡ 1) (λ p t. suc (length t) ≤ 1) (elim f [ true ↦ answered true [] | false ↦ answered false [] ])
      go true = says-answer refl
      go false = says-answer refl

  falling-each : (m : Triangle) (xs : List Pair) → Says (λ fs t. length t ≡ length xs) (λ p t. length t ≤ length xs) (falling c m xs)
  unfolding falling
  falling-each m [] = says-answer refl
  falling-each m (x ∷ xs) =
      says-bind {G = λ p t. length t ≤ 1} _ _ (falls-one _) (λ p t h. omega (arith, h)) (λ f t h.
      says_map {P = λ fs s. length (t ++ s) ≡ suc (length xs)} _ (keep f x) (says-weaker _ (λ fs s k. omega (arith, length-append t s, h, k)) (λ p s k. omega (arith, length-append t s, h, k)) (falling-each m xs)) (λ fs s k. k))

  round-six : (m : Triangle) → Says (λ x t. length t ≡ 6) (λ p t. length t ≤ 6) (round c pairs m)
  unfolding round
  round-six m = says_map {P = λ fs t. length t ≡ 6} _ (choice m) (falling-each m pairs) (λ fs t h. h)

  -- from n steps on
  abbrev Counted : ℕ → Triangle × ℕ → List Vector → Type 0
  Counted n e t = (n ≤ e.1) × (length t ≡ 6 * suc (e.1 - n))

  abbrev AtMost : ℕ → Stop → List Vector → Type 0
  AtMost n r t = (n ≤ r.steps) × (length t ≤ 6 * suc (r.steps - n))

  pub walk-counted : (left n : ℕ) (m : Triangle) → Says (Counted n) (AtMost n) (walk c pairs left n m)
  unfolding walk
  walk-counted zero n m =
      says-bind {G = AtMost n} _ _ (says-asked n _ (λ p t h. (omega arith, omega (arith, h))) (round-six m)) (λ r t h. h) go
    where
      go : (chosen : Choice) (t : List Vector) → length t ≡ 6 → Says {E = Stop} {A = Triangle × ℕ} (λ e s. Counted n e (t ++ s)) (λ r s. AtMost n r (t ++ s)) (elim chosen [ Nothing ↦ answered (m, n) [] | Chosen x ↦ refused (stop 9 c.apex n) [] ])
      go Nothing t h = says-answer (omega arith, omega (arith, h, length-append t []))
      go (Chosen x) t h = says-refuse (omega arith, omega (arith, h, length-append t []))
  walk-counted (suc left) n m =
      says-bind {G = AtMost n} _ _ (says-asked n _ (λ p t h. (omega arith, omega (arith, h))) (round-six m)) (λ r t h. h) (λ chosen t h. go chosen t h (λ x. walk-counted left (suc n) (step m x)))
    where
      go : (chosen : Choice) (t : List Vector) → length t ≡ 6 → ((x : Pair) → Says (Counted (suc n)) (AtMost (suc n)) (walk c pairs left (suc n) (step m x)))
          → Says {E = Stop} {A = Triangle × ℕ} (λ e s. Counted n e (t ++ s)) (λ r s. AtMost n r (t ++ s)) (elim chosen [ Nothing ↦ answered (m, n) [] | Chosen x ↦ walk c pairs left (suc n) (step m x) ])
      go Nothing t h f = says-answer (omega arith, omega (arith, h, length-append t []))
      go (Chosen x) t h f = says-weaker _ (λ e s k. (omega (arith, k.0), omega (arith, h, k.0, k.1, length-append t s))) (λ r s k. (omega (arith, k.0), omega (arith, h, k.0, k.1, length-append t s))) (f x)

-- ---- refusal 8: a way of the triangle reached, from the apex, outside the box
pub record NextTouch (c : Probe) (r : Stop) : Type 0 where
  pub triangle : Triangle
  pub reached : Reached c pairs r.steps triangle
  pub pair : Pair
  pub turn : TurnOf c pairs triangle pair
  pub is : r.place ≡ c.apex ⊕ lay c.signs (way triangle pair)
  pub outside : c.look r.place ≡ Outside

pub next-touch : (b : Probe) (n : ℕ) (m : Triangle) (p : Vector) → Reached (nearer b) pairs n m → StoppedOf (nearer b) m pairs p → NextTouch (nearer b) (stop 8 p n)
next-touch b n m p h o = go o.stopped.beyond.is_power
  where
    go : (o.stopped.beyond.power ≡ 1) ⊎ ⊥ → NextTouch (nearer b) (stop 8 p n)
    go (inl e) = record {
      triangle = m;
      reached = h;
      pair = o.pair;
      turn = turn-of (nearer b) o;
      is = rw (← scale_one (lay b.signs (way m o.pair)), ← e) o.stopped.beyond.is;
      outside = o.stopped.beyond.outside;
    }
    go (inr f) = absurd f

-- ---- what a touch tells
-- a refusal, with the voxels looked at
pub record TouchStop (c : Probe) (R : ℕ) (r : Stop) (t : List Vector) : Type 0 where
  pub few_steps : r.steps ≤ R - 3
  pub small : (r.steps ≡ 0) ⊎ (R ≤ 256)
  pub few : length t ≤ 5 + 6 * suc r.steps
  pub known : (1 ≤ r.number) × (r.number ≤ 11) × (r.number ≡ 7 → ⊥)
  pub next : r.number ≡ 8 → NextTouch c r
  pub corner : r.number ≡ 11 → (h : CornerEmpty c r) × (length t ≡ 2 + nth h.axis)

-- what was found
pub record TouchFound (R : ℕ) (f : Found) (t : List Vector) : Type 0 where
  pub few_steps : f.steps ≤ R - 3
  pub small : R ≤ 256
  pub counted : length t ≡ 5 + 6 * suc f.steps
