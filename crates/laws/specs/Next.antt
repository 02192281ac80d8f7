-- Refusal 8, for every pick: the voxel that was to be looked at next. The pick was asking whether minus a unit vector falls, its opposite, or a way of the triangle
-- that the walk had reached; that question is refused there, at a power times the vector, laid in, from the apex, outside the box.
use Rattle.std.specs.Prelude.{◌≡◌, Bool, true, false, List, ◌∷◌, ◌++◌, ℕ, zero, suc, T, pos}
use Rattle.rules.specs.declared.Vector.{Vector}
use Rattle.rules.specs.declared.Look.TheVariants.{Outside}
use Rattle.rules.specs.declared.Levels.{Levels}
use Rattle.rules.specs.declared.Triangle.{Triangle}
use Rattle.rules.specs.declared.Pair.{Pair}
use Rattle.std.specs.Prelude.{Some as Chosen}
use Rattle.rules.specs.Vectors.{◌⊕◌, minus, scale, lay}
use Rattle.rules.specs.Asked.{answered, refused}
use Rattle.rules.specs.declared.Axis.{Axis}
use Rattle.rules.specs.declared.Axis.TheVariants.{Axis0 as axis0, Axis1 as axis1, Axis2 as axis2}
use Rattle.rules.specs.Walk.{Stop, Probe, unit, units, pairs, way, step, level, only, takes_part, falls, is_level}
use Rattle.laws.specs.Tests.{In}
use Rattle.laws.specs.Looks.{Fell, FellOf, Stopped, StoppedOf, RoundOf}

-- axis 0, 1, 2, in this order
abbrev pub earlier : Axis → Axis → Bool
earlier axis0 axis0 = false
earlier axis0 axis1 = true
earlier axis0 axis2 = true
earlier axis1 axis0 = false
earlier axis1 axis1 = false
earlier axis1 axis2 = true
earlier axis2 k = false

module _ (c : Probe) where
  -- each axis was asked, and v has those that are level
  abbrev pub LevelsAnswered : Levels → Type 0
  LevelsAnswered v = (k : Axis) → (voxels : List Vector) × (is_level c (unit k) ≡ answered (level v k) voxels)

  -- the triangle that the walk of the pairs ps has reached after n steps, each by the pair that a round chose
  abbrev pub Reached : List Pair → ℕ → Triangle → Type 0
  Reached ps zero m = m ≡ units
  Reached ps (suc n) m = (k : Triangle) × (x : Pair) × Reached ps n k × RoundOf c ps k (Chosen x) × (m ≡ step k x)

  -- the axes before k were asked, and none was refused
  abbrev pub EarlierAnswered : Axis → Type 0
  EarlierAnswered k = (j : Axis) → T (earlier j k) → (b : Bool) × (voxels : List Vector) × (is_level c (unit j) ≡ answered b voxels)

  -- the pair x is one of ps, and of those before it these fell and the others did not
  pub record TurnOf (ps : List Pair) (m : Triangle) (x : Pair) : Type 0 where
    pub before : List Pair
    pub behind : List Pair
    pub split : ps ≡ before ++ (x ∷ behind)
    pub fell : (fs : List Pair) × FellOf c m before fs

  -- why it is asked, after n steps, whether u falls: all that is asked before was answered
  pub data Question (n : ℕ) (u : Vector) : Type 0 where
    downward : (k : Axis) → n ≡ 0 → EarlierAnswered k → u ≡ minus (unit k) → Question n u
    opposite : (k : Axis) → n ≡ 0 → EarlierAnswered k → Fell c (minus (unit k)) false → u ≡ unit k → Question n u
    sideways : (v : Levels) → LevelsAnswered v → (m : Triangle) → Reached (only (takes_part v) pairs) n m → (x : Pair) → TurnOf (only (takes_part v) pairs) m x → u ≡ way m x → Question n u

  pub turn-of : {ps : List Pair} {m : Triangle} {p : Vector} (o : StoppedOf c m ps p) → TurnOf ps m o.pair
  turn-of o = record { before = o.before; behind = o.behind; split = o.split; fell = o.fell }

  pub record NextLook (r : Stop) : Type 0 where
    pub vector : Vector
    pub question : Question r.steps vector
    pub voxels : List Vector
    pub stops : falls c (lay c.signs vector) ≡ refused r.place voxels
    pub power : ℕ
    pub is_power : In power c.powers
    pub is : r.place ≡ c.apex ⊕ scale (pos power) (lay c.signs vector)
    pub outside : c.look r.place ≡ Outside

  pub next-look : {r : Stop} (u : Vector) → Question r.steps u → Stopped c u r.place → NextLook r
  next-look u a h = record { vector = u; question = a; voxels = h.voxels; stops = h.is; power = h.beyond.power; is_power = h.beyond.is_power; is = h.beyond.is; outside = h.beyond.outside }
