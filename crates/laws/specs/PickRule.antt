-- The rule of the whole pick, over any look, of the start check and of the quick touch: what is said of its parts, in their order, is said of it. p and q are judged before they
-- are looked at, so refusal 8 is not given there. Everything is said of the voxels looked at so far, in order.
use Rattle.std.specs.Prelude.{◌≡◌, refl, Bool, not, List, [], ◌∷◌, ◌++◌, ℕ, leb, ℤ, pos, nat_abs}
use Rattle.std.proofs.Math.Bool.{true, false}
use Rattle.std.proofs.Common.{append-nil}
use Rattle.std.proofs.Math.Dec.{T}
use Rattle.rules.specs.declared.Vector.{Vector}
use Rattle.rules.specs.declared.Look.{Look}
use Rattle.rules.specs.declared.Look.TheVariants.{Filled, Empty}
use Rattle.rules.specs.declared.Levels.{Levels}
use Rattle.rules.specs.declared.Triangle.{Triangle}
use Rattle.rules.specs.Vectors.{size, origin}
use Rattle.rules.specs.Solids.{between}
use Rattle.rules.specs.Asked.{Asked, ◌>>=◌, ◌>>◌}
use Rattle.rules.specs.Walk.{Stop, stop, asked, powers, Probe, at_powers, look_at, facing, axes, start, all_corners, quick_start, levelled, normal, Found, found, rounds, end, to_the_end}
use Rattle.rules.specs.Pick.{is_inside, probe, placing, judging, check, pick}
use Rattle.rules.specs.Touch.{nearer, touch}
use Rattle.laws.specs.Says.{Says, says-answer, says-weaker, says-bind, says-asked, says-ensure, says-test}
use Rattle.laws.specs.Looks.{As, look-says}
use Rattle.laws.specs.Ranges.{not-outside}

-- ---- the rounds and the end, with the level axes v: Begun holds before them, Ended of the walk's end, Finds of what is found, Stops of every refusal
pub record EndRule (c : Probe) (R : ℕ) (v : Levels) (Begun : List Vector → Type 0) (Ended : Triangle × ℕ → List Vector → Type 0) (Finds : Found → List Vector → Type 0) (Stops : Stop → List Vector → Type 0) : Type 0 where
  pub rounds_say : (t : List Vector) → Begun t → Says (λ e s. Ended e (t ++ s)) (λ r s. Stops r (t ++ s)) (rounds c R v)
  pub ten : (e : Triangle × ℕ) (t : List Vector) → Ended e t → T (not (leb (size (levelled v (normal e.0))) R)) → Stops (stop 10 c.apex e.1) t
  pub ends : (e : Triangle × ℕ) (t : List Vector) → Ended e t → T (leb (size (levelled v (normal e.0))) R) → Finds (found c v e) t

module _ {c : Probe} {R : ℕ} {v : Levels} {Begun : List Vector → Type 0} {Ended : Triangle × ℕ → List Vector → Type 0} {Finds : Found → List Vector → Type 0} {Stops : Stop → List Vector → Type 0} (rule : EndRule c R v Begun Ended Finds Stops) where
  end-says : (e : Triangle × ℕ) (t s : List Vector) → Ended e (t ++ s) → Says (λ f w. Finds f (t ++ (s ++ w))) (λ r w. Stops r (t ++ (s ++ w))) (end c R v e)
  unfolding end
  end-says e t s k = says-ensure _ _ _ (λ n. rw (append-nil s) (rule.ten e (t ++ s) k n)) (λ n. says-answer (rw (append-nil s) (rule.ends e (t ++ s) k n)))

  pub end-by-rule : (t : List Vector) → Begun t → Says (λ f s. Finds f (t ++ s)) (λ r s. Stops r (t ++ s)) (to_the_end c R v)
  end-by-rule t h = says-bind {G = λ r s. Stops r (t ++ s)} _ _ (rule.rounds_say t h) (λ r s x. x) (λ e s x. end-says e t s x)

-- a look at a voxel that was judged inside
pub looked-inside : (c : Probe) {G : Stop → List Vector → Type 0} (a : Vector) → T (is_inside (c.look a)) → Says (λ b t. (c.look a ≡ As b) × (t ≡ a ∷ [])) G (asked 0 (look_at c.look a))
looked-inside c a i = says-asked 0 _ (λ r t h. absurd (not-outside c.look a i h.1)) (look-says c a)

-- ---- the places p and q, of a walk from the apex q of c that started at p
module _ (c : Probe) (p : Vector) {Stops : Stop → List Vector → Type 0} where
  pub placing-says : (T (not (is_inside (c.look p))) → Stops (stop 4 p 0) []) → (T (not (is_inside (c.look c.apex))) → Stops (stop 4 c.apex 0) [])
      → Says (λ _ t. T (is_inside (c.look p)) × T (is_inside (c.look c.apex)) × (t ≡ [])) Stops (placing c p)
  unfolding placing
  placing-says start apex = says-ensure _ _ _ start (λ inside. says-test _ _ apex (λ above. (inside, above, refl)))

  -- both were judged inside
  pub facing-says : T (is_inside (c.look p)) → T (is_inside (c.look c.apex)) → (c.look p ≡ Empty → Stops (stop 5 p 0) (p ∷ [])) → (c.look p ≡ Filled → c.look c.apex ≡ Filled → Stops (stop 6 c.apex 0) (p ∷ c.apex ∷ []))
      → Says (λ _ t. (c.look p ≡ Filled) × (c.look c.apex ≡ Empty) × (t ≡ p ∷ c.apex ∷ [])) Stops (facing c p)
  unfolding facing
  facing-says start apex five six =
      says-bind {G = Stops} _ _ (looked-inside c {G = Stops} p start) (λ r t k. k) (λ f t a. rw a.1
      (says-ensure f _ _ (not-filled f a.0) (λ filled.
      says-bind {G = λ r s. Stops r (p ∷ s)} _ _ (looked-inside c {G = λ r s. Stops r (p ∷ s)} c.apex apex) (λ r s k. k) (λ g s b. rw b.1
      (says-test (not g) _ (filled-apex f g a.0 filled b.0) (λ n. (is-filled f a.0 filled, is-empty g b.0 n, refl)))))))
    where
      is-filled : (b : Bool) → c.look p ≡ As b → T b → c.look p ≡ Filled
      is-filled true e t = e
      is-filled false e t = absurd t

      is-empty : (b : Bool) → c.look c.apex ≡ As b → T (not b) → c.look c.apex ≡ Empty
      is-empty true e t = absurd t
      is-empty false e t = e

      not-filled : (b : Bool) → c.look p ≡ As b → T (not b) → Stops (stop 5 p 0) (p ∷ [])
      not-filled true e t = absurd t
      not-filled false e t = five e

      filled-apex : (f g : Bool) → c.look p ≡ As f → T f → c.look c.apex ≡ As g → T (not (not g)) → Stops (stop 6 c.apex 0) (p ∷ c.apex ∷ [])
      filled-apex f true e t d n = six (is-filled f e t) d
      filled-apex f false e t d n = absurd n

-- ---- the inputs, of a walk from the apex of c that started at p
module _ (ok : Bool) (c : Probe) (p : Vector) (frame reach : ℤ) where
  -- none of the refusals 1 to 4
  pub record Passed : Type 0 where
    pub permitted_reach : T (between (pos 1) reach (pos 256))
    pub permitted_frame : T (between (pos 0) frame (pos 7))
    pub permitted_solid : T ok
    pub start_inside : T (is_inside (c.look p))
    pub apex_inside : T (is_inside (c.look c.apex))

  -- Stops holds of the refusals 1 to 4
  pub record JudgingRule (Stops : Stop → List Vector → Type 0) : Type 0 where
    pub one : T (not (between (pos 1) reach (pos 256))) → Stops (stop 1 origin 0) []
    pub two : T (not (between (pos 0) frame (pos 7))) → Stops (stop 2 origin 0) []
    pub three : T (not ok) → Stops (stop 3 origin 0) []
    pub four_start : T (not (is_inside (c.look p))) → Stops (stop 4 p 0) []
    pub four_apex : T (not (is_inside (c.look c.apex))) → Stops (stop 4 c.apex 0) []

  pub judging-says : {Stops : Stop → List Vector → Type 0} → JudgingRule Stops → Says (λ _ t. Passed × (t ≡ [])) Stops (judging ok c p frame reach)
  unfolding judging
  judging-says rule =
      says-ensure _ _ _ rule.one (λ reached.
      says-ensure _ _ _ rule.two (λ framed.
      says-ensure _ _ _ rule.three (λ permitted.
      says-weaker _ (λ _ t h. (record { permitted_reach = reached; permitted_frame = framed; permitted_solid = permitted; start_inside = h.0; apex_inside = h.1 }, h.2)) (λ r t k. k)
      (placing-says c p rule.four_start rule.four_apex))))

-- ---- the pick
module _ (ok : Bool) (look : Vector → Look) (p : Vector) (frame reach : ℤ) where
  abbrev c : Probe
  c = probe look p frame reach

  abbrev q : Vector
  q = (probe look p frame reach).apex

  abbrev R : ℕ
  R = nat_abs reach

  -- none of the refusals 1 to 6
  pub record Faced : Type 0 where
    pub passed : Passed ok (probe look p frame reach) p frame reach
    pub start_filled : look p ≡ Filled
    pub apex_empty : look (probe look p frame reach).apex ≡ Empty

  -- Stops holds of them
  pub record InputRule (Stops : Stop → List Vector → Type 0) : Type 0 where
    pub judged : JudgingRule ok (probe look p frame reach) p frame reach Stops
    pub five : Passed ok (probe look p frame reach) p frame reach → look p ≡ Empty → Stops (stop 5 p 0) (p ∷ [])
    pub six : Passed ok (probe look p frame reach) p frame reach → look p ≡ Filled → look (probe look p frame reach).apex ≡ Filled → Stops (stop 6 (probe look p frame reach).apex 0) (p ∷ (probe look p frame reach).apex ∷ [])

  -- with what is asked after p and q: Level holds of the level axes
  pub record StartRule (begin : Asked Stop Levels) (Level : Levels → List Vector → Type 0) (Stops : Stop → List Vector → Type 0) : Type 0 where
    pub inputs : InputRule Stops
    pub begin_says : Faced → Says (λ v t. Level v (p ∷ (probe look p frame reach).apex ∷ t)) (λ r t. Stops r (p ∷ (probe look p frame reach).apex ∷ t)) begin

  -- and then at the powers ls to the end
  pub record PickRule (ls : List ℕ) (begin : Asked Stop Levels) (Level : Levels → List Vector → Type 0) (Ended : Levels → Triangle × ℕ → List Vector → Type 0) (Finds : Found → List Vector → Type 0) (Stops : Stop → List Vector → Type 0) : Type 0 where
    pub started : StartRule begin Level Stops
    pub ended : Faced → (v : Levels) → EndRule (at_powers ls (probe look p frame reach)) (nat_abs reach) v (Level v) (Ended v) Finds Stops

  -- whatever the powers are
  faced-says : {Stops : Stop → List Vector → Type 0} → InputRule Stops → (ls : List ℕ) → Passed ok c p frame reach → Says (λ _ t. Faced × (t ≡ p ∷ q ∷ [])) Stops (facing (at_powers ls c) p)
  faced-says rule ls h =
      says-weaker _ (λ _ t k. (record { passed = h; start_filled = k.0; apex_empty = k.1 }, k.2)) (λ r t k. k)
      (facing-says (at_powers ls c) p h.start_inside h.apex_inside (rule.five h) (rule.six h))

  module _ {Level : Levels → List Vector → Type 0} {Stops : Stop → List Vector → Type 0} where
    start-by-rule : (ls : List ℕ) (begin : Asked Stop Levels) → StartRule begin Level Stops → Passed ok c p frame reach → Says (λ v t. Faced × Level v t) Stops (facing (at_powers ls c) p >> begin)
    start-by-rule ls begin rule h =
        says-bind {G = Stops} _ _ (faced-says rule.inputs ls h) (λ r t k. k) (λ _ t k. rw k.1 (says-weaker _ (λ v s x. (k.0, x)) (λ r s x. x) (rule.begin_says k.0)))

    pub check-by-rule : StartRule (axes (probe look p frame reach)) Level Stops → Says (λ v t. Faced × Level v t) Stops (check ok look p frame reach)
    unfolding check start
    check-by-rule rule = says-bind {G = Stops} _ _ (judging-says ok c p frame reach rule.inputs.judged) (λ r t k. k) (λ _ t h. rw h.1 (start-by-rule (powers R) (axes c) rule h.0))

    module _ {Ended : Levels → Triangle × ℕ → List Vector → Type 0} {Finds : Found → List Vector → Type 0} where
      walk-by-rule : (ls : List ℕ) {begin : Asked Stop Levels} → PickRule ls begin Level Ended Finds Stops → (x : Asked Stop Levels) → Says (λ v t. Faced × Level v t) Stops x → Says Finds Stops (x >>= λ v. to_the_end (at_powers ls c) R v)
      walk-by-rule ls rule x s = says-bind {G = Stops} x _ s (λ r t k. k) (λ v t k. end-by-rule (rule.ended k.0 v) t k.1)

      pub pick-by-rule : PickRule (powers (nat_abs reach)) (axes (probe look p frame reach)) Level Ended Finds Stops → Says Finds Stops (pick ok look p frame reach)
      unfolding pick
      pick-by-rule rule = walk-by-rule (powers R) rule _ (check-by-rule rule.started)

      pub touch-by-rule : PickRule (1 ∷ []) (all_corners (nearer (probe look p frame reach))) Level Ended Finds Stops → Says Finds Stops (touch ok look p frame reach)
      unfolding touch quick_start
      touch-by-rule rule =
          says-bind {G = Stops} _ _ (judging-says ok c p frame reach rule.started.inputs.judged) (λ r t k. k) (λ _ t h. rw h.1
          (walk-by-rule (1 ∷ []) rule _ (start-by-rule (1 ∷ []) (all_corners (nearer c)) rule.started h.0)))
