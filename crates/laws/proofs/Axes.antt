-- The axes: each was asked downward and, where nothing fell, upward too, so a level axis takes K looks more than one that remains.
use Rattle.std.specs.Prelude.{◌≡◌, refl, Bool, not, ◌&&◌, ℕ, ◌+◌, ◌*◌, ◌≤◌, length}
use Rattle.std.proofs.Math.Bool.{true, false}
use mathlib.Core.List.{List, [], ◌++◌}
use Rattle.std.proofs.Math.Nat as NatL
use native.Mathlib.Omega.{arith}
use Rattle.std.proofs.Math.Dec.{T}
use Rattle.std.proofs.Math.ListN.{length-append}
use Rattle.rules.specs.declared.Vector.{Vector}
use Rattle.rules.specs.declared.Levels.{Levels}
use Rattle.rules.specs.Vectors.{minus, lay}
use Rattle.rules.specs.Asked.{answered, ◌>>=◌, ◌>>◌}
use Rattle.rules.specs.declared.Axis.{Axis}
use Rattle.rules.specs.declared.Axis.TheVariants.{Axis0 as axis0, Axis1 as axis1, Axis2 as axis2}
use Rattle.rules.specs.Walk.{Stop, stop, ensure, asked, Probe, falls, unit, levels, level, all_level, remaining, is_level, axes}
use Rattle.laws.specs.Levels.{remains, remaining-count}
use Rattle.laws.specs.Says.{Says, Few, fewer, few-after, says-answer, says-weaker, says-itself, says-bind, says-asked, says-ensure}
use Rattle.laws.specs.Looks.{Fell, Stopped, falls-says}
use Rattle.laws.specs.Next.{EarlierAnswered, downward, opposite, next-look}
use Rattle.laws.specs.Axes.{FellAlong, AxisOf, AxesOf, axis_stop, AxisRule}

-- ---- how many looks an axis takes, and all three
abbrev asks : ℕ → Bool → ℕ
asks K true = K + K
asks K false = K

asks-one : (K : ℕ) (b : Bool) → asks K b + remains b * K ≡ 2 * K
asks-one K true = omega arith
asks-one K false = omega arith

asks-most : (K : ℕ) (b : Bool) → asks K b ≤ K + K
asks-most K true = omega arith
asks-most K false = omega arith

asks-all : (K : ℕ) (v : Levels) → asks K v.x + (asks K v.y + asks K v.z) + length (remaining v) * K ≡ 6 * K
asks-all K v =
    let x = remains v.x in let y = remains v.y in let z = remains v.z in
    rw (remaining-count v) (omega (arith, asks-one K v.x, asks-one K v.y, asks-one K v.z, NatL.add-mul x (y + z) K, NatL.add-mul y z K))

module _ (c : Probe) where
  abbrev K : ℕ
  K = length c.powers

  module _ {F : Stop → Type 0} where
    module _ (k : Axis) (rule : AxisRule c F k) (before : EarlierAnswered c k) where
      abbrev e : Vector
      e = unit k

      below : (p : Vector) (t : List Vector) → Few K (Stopped c (minus e)) p t → Few (K + K) F (stop 8 p 0) t
      below p t h = record { holds = rule.eight p (next-look c (minus e) (downward k refl before refl) h.holds); few = omega (arith, h.few) }

      above : Fell c (minus e) false → (p : Vector) (t : List Vector) → Few K (Stopped c e) p t → Few K F (stop 8 p 0) t
      above f p t h = record { holds = rule.eight p (next-look c e (opposite k refl before f refl) h.holds); few = h.few }

      fell-says : Says (λ b. Few (asks K b) (FellAlong c e) b) (Few (K + K) F) (is_level c e)
      unfolding is_level
      fell-says = says-bind {P = Few K (Fell c (minus e))} _ _ (says-asked 0 _ below (falls-says c (minus e))) (λ r t h. h) (λ b t h. go b t h.holds h.few)
        where
          judged : Fell c (minus e) false → (b : Bool) → Fell c e b → Says {E = Stop} {A = Bool} (λ b t. Few 0 (FellAlong c e) b t × T b) (Few 0 F) (ensure (not b) (axis_stop c e) >> answered true [])
          judged f true g = says-ensure false _ _ (λ _. record { holds = rule.seven f g; few = omega arith }) (λ t. absurd t)
          judged f false g = says-ensure true _ _ (λ t. absurd t) (λ _. says-answer (record { holds = (f, g); few = omega arith }, tt))

          upward : Fell c (minus e) false → Says {E = Stop} {A = Bool} (λ b t. Few K (FellAlong c e) b t × T b) (Few K F) (asked 0 (falls c (lay c.signs e)) >>= λ g. ensure (not g) (axis_stop c e) >> answered true [])
          upward f =
              says-bind {P = Few K (Fell c e)} {G = Few K F} _ _ (says-asked 0 _ (above f) (falls-says c e)) (λ r t h. h) (λ b t h.
              says-weaker _ (λ a s q. (few-after t h.few (omega arith) q.0, q.1)) (λ r s q. few-after t h.few (omega arith) q) (judged f b h.holds))

          asked-both : (b : Bool) {t : List Vector} → Few (K + K) (FellAlong c e) b t → T b → Few (asks K b) (FellAlong c e) b t
          asked-both true h t = h
          asked-both false h t = absurd t

          go : (b : Bool) (t : List Vector) → Fell c (minus e) b → length t ≤ K
              → Says {E = Stop} {A = Bool} (λ b s. Few (asks K b) (FellAlong c e) b (t ++ s)) (λ r s. Few (K + K) F r (t ++ s)) (elim b [ true ↦ answered false [] | false ↦ asked 0 (falls c (lay c.signs e)) >>= λ g. ensure (not g) (axis_stop c e) >> answered true [] ])
          go true t f l = says-answer (few-after t l (omega arith) (record { holds = f; few = NatL.le_refl 0 }))
          go false t f l = says-weaker _ (λ b s q. asked-both b (few-after t l (omega arith) q.0) q.1) (λ r s q. few-after t l (omega arith) q) (upward f)

      axis-says : Says (λ b. Few (asks K b) (AxisOf c e) b) (Few (K + K) F) (is_level c e)
      axis-says = says-weaker _ (λ b t h. record { holds = record { fell = h.0.holds; voxels = t; is = h.1 }; few = h.0.few }) (λ r t h. h.0) (says-itself _ fell-says)

    -- F of refusal 7 where all three are level too
    pub axes-says : ((k : Axis) → AxisRule c F k) → (((k : Axis) → AxisOf c (unit k) true) → F (axis_stop c (unit axis0))) → Says (λ v t. AxesOf c v × (length t + length (remaining v) * K ≤ 6 * K)) (Few (6 * K) F) (axes c)
    unfolding axes all_level
    axes-says rule all =
        says-bind {P = λ b. Few (asks K b) (AxisOf c (unit axis0)) b} _ _ (axis-says axis0 (rule axis0) none-earlier) (λ r t h. fewer (λ k. omega (arith, k)) h) (λ a s f.
        says-bind {P = λ b. Few (asks K b) (AxisOf c (unit axis1)) b} _ _ (axis-says axis1 (rule axis1) (one_earlier f.holds)) (λ r t h. few-after s f.few (omega (arith, asks-most K a)) h) (λ b t g.
        says-bind {P = λ b. Few (asks K b) (AxisOf c (unit axis2)) b} _ _ (axis-says axis2 (rule axis2) (two-earlier f.holds g.holds)) (λ r u h. fewer (λ l. omega (arith, l, f.few, asks-most K a, g.few, asks-most K b, length-append s (t ++ u), length-append t u)) h) (λ d u h.
        says-ensure _ _ _ (λ n. record { holds = none a b d f.holds g.holds h.holds n; few = omega (arith, counted a b d s t u f.few g.few h.few) })
        (λ n. says-answer (record { axis = each a b d f.holds g.holds h.holds; some = n }, counted a b d s t u f.few g.few h.few)))))
      where
        asked-so : {e : Vector} {b : Bool} → AxisOf c e b → (b : Bool) × (voxels : List Vector) × (is_level c e ≡ answered b voxels)
        asked-so {b = b} h = (b, h.voxels, h.is)

        none-earlier : EarlierAnswered c axis0
        none-earlier axis0 t = absurd t
        none-earlier axis1 t = absurd t
        none-earlier axis2 t = absurd t

        one_earlier : {a : Bool} → AxisOf c (unit axis0) a → EarlierAnswered c axis1
        one_earlier f axis0 t = asked-so f
        one_earlier f axis1 t = absurd t
        one_earlier f axis2 t = absurd t

        two-earlier : {a b : Bool} → AxisOf c (unit axis0) a → AxisOf c (unit axis1) b → EarlierAnswered c axis2
        two-earlier f g axis0 t = asked-so f
        two-earlier f g axis1 t = asked-so g
        two-earlier f g axis2 t = absurd t

        each : (a b d : Bool) → AxisOf c (unit axis0) a → AxisOf c (unit axis1) b → AxisOf c (unit axis2) d → (k : Axis) → AxisOf c (unit k) (level (levels a b d) k)
        each a b d f g h axis0 = f
        each a b d f g h axis1 = g
        each a b d f g h axis2 = h

        counted : (a b d : Bool) (s t u : List Vector) → length s ≤ asks K a → length t ≤ asks K b → length u ≤ asks K d → length (s ++ (t ++ (u ++ []))) + length (remaining (levels a b d)) * K ≤ 6 * K
        counted a b d s t u f g h = omega (arith, f, g, h, asks-all K (levels a b d), length-append s (t ++ (u ++ [])), length-append t (u ++ []), length-append u [])

        none : (a b d : Bool) → AxisOf c (unit axis0) a → AxisOf c (unit axis1) b → AxisOf c (unit axis2) d → T (not (not (a && (b && d)))) → F (axis_stop c (unit axis0))
        none true true true f g h t = all (λ k. level-each k)
          where
            level-each : (k : Axis) → AxisOf c (unit k) true
            level-each axis0 = f
            level-each axis1 = g
            level-each axis2 = h
        none true true false f g h t = absurd t
        none true false d f g h t = absurd t
        none false b d f g h t = absurd t
