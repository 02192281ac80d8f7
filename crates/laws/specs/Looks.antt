-- What the walk's questions found, on any look. A question that was answered looked at each power up to the first filled one, and no look was outside;
-- a round asked so of each pair; a question that was refused was refused at the voxel that was to be looked at next, which lies outside.
use Rattle.std.specs.Prelude.{◌≡◌, ◌⊎◌, Bool, true, false, ℕ, ◌*◌, pos}
use Rattle.std.proofs.Math.Path.{refl}
use Rattle.std.proofs.Common.{ap, inr}
use Rattle.std.proofs.Math.Logic.{inl}
use mathlib.Core.List.{List, [], ◌∷◌, ◌++◌}
use Rattle.std.proofs.Math.Nat as NatL
use native.Mathlib.Omega.{arith}
use Rattle.std.proofs.Math.ListN.{length}
use Rattle.rules.specs.declared.Vector.{Vector}
use Rattle.rules.specs.declared.Look.{Look}
use Rattle.rules.specs.declared.Look.TheVariants.{Filled, Empty, Outside}
use Rattle.rules.specs.declared.Triangle.{Triangle}
use Rattle.rules.specs.declared.Pair.{Pair}
use Rattle.rules.specs.Answers.{Choice}
use Rattle.rules.specs.Vectors.{◌⊕◌, scale, lay}
use Rattle.rules.specs.Asked.{answered, refused}
use Rattle.rules.specs.Walk.{seen, Probe, look_at, falls_at, falls, falling, round, way, keep, choice}
use Rattle.laws.specs.Tests.{In}
use Rattle.laws.specs.Says.{Says, Few, says-answer, says-weaker, says-itself, few-bind, few-fewer, says_map}

abbrev pub As : Bool → Look
As true = Filled
As false = Empty

module _ (c : Probe) where
  -- a place outside the box
  abbrev pub IsOutside : Vector → Type 0
  IsOutside p = c.look p ≡ Outside

  -- the voxel is the only one looked at, or it is outside
  pub look-says : (p : Vector) → Says (λ b t. (c.look p ≡ As b) × (t ≡ p ∷ [])) (λ r t. (r ≡ p) × IsOutside p × (t ≡ [])) (look_at c.look p)
  unfolding look_at seen
  look-says p = go (c.look p) refl
    where
      go : (x : Look) → c.look p ≡ x → Says (λ b t. (c.look p ≡ As b) × (t ≡ p ∷ [])) (λ r t. (r ≡ p) × IsOutside p × (t ≡ [])) (seen x p)
      go Filled e = record { of = (e, refl) }
      go Empty e = record { of = (e, refl) }
      go Outside e = record { of = (refl, e, refl) }

  -- l times u from the apex
  abbrev pub along : Vector → ℕ → Vector
  along u l = c.apex ⊕ scale (pos l) u

  -- u fell, or did not, at these powers
  abbrev pub FellAt : Vector → List ℕ → Bool → Type 0
  FellAt u [] true = ⊥
  FellAt u [] false = Unit {0}
  FellAt u (l ∷ ls) true = (c.look (along u l) ≡ Filled) ⊎ ((c.look (along u l) ≡ Empty) × FellAt u ls true)
  FellAt u (l ∷ ls) false = (c.look (along u l) ≡ Empty) × FellAt u ls false

  -- p is u at one of these powers, and outside
  pub record Beyond (u : Vector) (ls : List ℕ) (p : Vector) : Type 0 where
    pub power : ℕ
    pub is_power : In power ls
    pub is : p ≡ along u power
    pub outside : IsOutside p

  falls-found : (u : Vector) (ls : List ℕ) → Says (Few (length ls) (FellAt u ls)) (Few (length ls) (Beyond u ls)) (falls_at c.look c.apex u ls)
  unfolding falls_at
  falls-found u [] = says-answer (record { holds = tt; few = omega arith })
  falls-found u (l ∷ ls) =
      few-fewer _ (omega arith)
      (few-bind {M = 1} {N = length ls} _ _ (says-weaker _ (λ b t h. record { holds = h.0; few = rw h.1 (omega arith) }) here (look-says (along u l))) (λ b e. go b e (falls-found u ls)))
    where
      here : (p : Vector) (t : List Vector) → (p ≡ along u l) × IsOutside (along u l) × (t ≡ []) → Few 1 (Beyond u (l ∷ ls)) p t
      here p t h = record { holds = record { power = l; is_power = inl refl; is = h.0; outside = rw h.0 h.1 }; few = rw h.2 (omega arith) }

      later : (b : Bool) → c.look (along u l) ≡ Empty → FellAt u ls b → FellAt u (l ∷ ls) b
      later true e f = inr (e, f)
      later false e f = (e, f)

      further : (p : Vector) → Beyond u ls p → Beyond u (l ∷ ls) p
      further p h = record { power = h.power; is_power = inr h.is_power; is = h.is; outside = h.outside }

      go : (b : Bool) → c.look (along u l) ≡ As b → Says (Few (length ls) (FellAt u ls)) (Few (length ls) (Beyond u ls)) (falls_at c.look c.apex u ls)
          → Says (Few (length ls) (FellAt u (l ∷ ls))) (Few (length ls) (Beyond u (l ∷ ls))) (elim b [ true ↦ answered true [] | false ↦ falls_at c.look c.apex u ls ])
      go true e r = says-answer (record { holds = inl e; few = omega arith })
      go false e r = says-weaker _ (λ b t f. record { holds = later b e f.holds; few = f.few }) (λ p t f. record { holds = further p f.holds; few = f.few }) r

  -- u, laid in, at all powers
  abbrev pub Fell : Vector → Bool → Type 0
  Fell u = FellAt (lay c.signs u) c.powers

  -- the question of u, laid in, was refused at p
  pub record Stopped (u p : Vector) : Type 0 where
    pub beyond : Beyond (lay c.signs u) c.powers p
    pub voxels : List Vector
    pub is : falls c (lay c.signs u) ≡ refused p voxels

  pub falls-says : (u : Vector) → Says (Few (length c.powers) (Fell u)) (Few (length c.powers) (Stopped u)) (falls c (lay c.signs u))
  falls-says u = says-weaker _ (λ b t h. h.0) (λ p t h. record { holds = record { beyond = h.0.holds; voxels = t; is = h.1 }; few = h.0.few }) (says-itself _ (falls-found (lay c.signs u) c.powers))

  -- of the pairs xs those in fs fell
  abbrev pub FellOf : Triangle → List Pair → List Pair → Type 0
  FellOf m [] fs = fs ≡ []
  FellOf m (x ∷ xs) fs = (b : Bool) × (gs : List Pair) × Fell (way m x) b × FellOf m xs gs × (fs ≡ keep b x gs)

  -- the question of one of the pairs was refused at p, those before it were answered
  pub record StoppedOf (m : Triangle) (xs : List Pair) (p : Vector) : Type 0 where
    pub before : List Pair
    pub pair : Pair
    pub behind : List Pair
    pub split : xs ≡ before ++ (pair ∷ behind)
    pub fell : (fs : List Pair) × FellOf m before fs
    pub stopped : Stopped (way m pair) p

  abbrev K : ℕ
  K = length c.powers

  falling-says : (m : Triangle) (xs : List Pair) → Says (Few (length xs * K) (FellOf m xs)) (Few (length xs * K) (StoppedOf m xs)) (falling c m xs)
  unfolding falling
  falling-says m [] = says-answer (record { holds = refl; few = omega arith })
  falling-says m (x ∷ xs) =
      few-fewer _ (omega (arith, NatL.suc-mul (length xs) K))
      (few-bind {M = K} {N = length xs * K} _ _ (says-weaker _ (λ b t h. h) here (falls-says (way m x)))
      (λ b f. says_map _ (keep b x) (says-weaker _ (λ gs t h. h) (further b f) (falling-says m xs)) (λ gs t h. record { holds = (b, gs, f, h.holds, refl); few = h.few })))
    where
      here : (p : Vector) (t : List Vector) → Few K (Stopped (way m x)) p t → Few K (StoppedOf m (x ∷ xs)) p t
      here p t h = record { holds = record { before = []; pair = x; behind = xs; split = refl; fell = ([], refl); stopped = h.holds }; few = h.few }

      further : (b : Bool) → Fell (way m x) b → (p : Vector) (t : List Vector) → Few (length xs * K) (StoppedOf m xs) p t → Few (length xs * K) (StoppedOf m (x ∷ xs)) p t
      further b f p t h =
          let o = h.holds in
          record {
            holds = record {
              before = x ∷ o.before;
              pair = o.pair;
              behind = o.behind;
              split = ap (λ (ys : List Pair). x ∷ ys) o.split;
              fell = (keep b x o.fell.0, (b, o.fell.0, f, o.fell.1, refl));
              stopped = o.stopped;
            };
            few = h.few;
          }

  -- a round of the pairs ps that chose x
  module _ (ps : List Pair) where
    abbrev pub RoundOf : Triangle → Choice → Type 0
    RoundOf m x = (fs : List Pair) × FellOf m ps fs × (x ≡ choice m fs)

    pub round-says : (m : Triangle) → Says (Few (length ps * length c.powers) (RoundOf m)) (Few (length ps * length c.powers) (StoppedOf m ps)) (round c ps m)
    unfolding round
    round-says m = says_map _ (choice m) (falling-says m ps) (λ fs t h. record { holds = (fs, h.holds, refl); few = h.few })
