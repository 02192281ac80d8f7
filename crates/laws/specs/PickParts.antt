-- What an answered pick was made of: each axis was asked, then the walk ran to its end, and the voxels that they looked at are among the pick's own.
use Rattle.std.specs.Prelude.{◌≡◌, Bool, List, ℕ, ℤ, nat_abs}
use Rattle.std.proofs.Math.Path.{ap}
use Rattle.std.proofs.Common.{◌∙◌}
use Rattle.rules.specs.declared.Vector.{Vector}
use Rattle.rules.specs.declared.Look.{Look}
use Rattle.rules.specs.declared.Levels.{Levels}
use Rattle.rules.specs.declared.Triangle.{Triangle}
use Rattle.rules.specs.Asked.{answered}
use Rattle.rules.specs.declared.Axis.{Axis}
use Rattle.rules.specs.declared.Axis.TheVariants.{Axis0 as axis0, Axis1 as axis1, Axis2 as axis2}
use Rattle.rules.specs.Walk.{unit, levels, level, Probe, Found, facing, is_level, axes, start, rounds, found, end, to_the_end}
use Rattle.rules.specs.Pick.{probe, judging, check, pick}
use Rattle.laws.specs.Answered.{Among, among-more, both-answered, ensured-answered}

module _ (c : Probe) where
  -- an axis's question
  pub record AxisPart (v : Levels) (t : List Vector) (k : Axis) : Type 0 where
    pub voxels : List Vector
    pub is : is_level c (unit k) ≡ answered (level v k) voxels
    pub among : Among voxels t

  axis-among : {v : Levels} {t u : List Vector} {k : Axis} → Among t u → AxisPart v t k → AxisPart v u k
  axis-among f h = record { voxels = h.voxels; is = h.is; among = among-more h.among f }

  axes-parts : {v : Levels} {t : List Vector} → axes c ≡ answered v t → (k : Axis) → AxisPart v t k
  unfolding axes
  axes-parts {v} {t} e =
      let a = both-answered (is_level c (unit axis0)) _ e in
      let b = both-answered (is_level c (unit axis1)) _ a.second in
      let d = both-answered (is_level c (unit axis2)) _ b.second in
      let is : levels a.answer b.answer d.answer ≡ v = let h = (ensured-answered _ _ _ d.second).1 in cc in
      along (record { voxels = a.front; is = a.first ∙ ap (λ (v : Levels). answered (level v axis0) a.front) is; among = a.first_among })
      (record { voxels = b.front; is = b.first ∙ ap (λ (v : Levels). answered (level v axis1) b.front) is; among = among-more b.first_among a.second_among })
      (record { voxels = d.front; is = d.first ∙ ap (λ (v : Levels). answered (level v axis2) d.front) is; among = among-more d.first_among (among-more b.second_among a.second_among) })
    where
      along : AxisPart v t axis0 → AxisPart v t axis1 → AxisPart v t axis2 → (k : Axis) → AxisPart v t k
      along x y z axis0 = x
      along x y z axis1 = y
      along x y z axis2 = z

  start-parts : (p : Vector) {v : Levels} {t : List Vector} → start c p ≡ answered v t → (k : Axis) → AxisPart v t k
  unfolding start
  start-parts p e k = let a = both-answered (facing c p) _ e in axis-among a.second_among (axes-parts a.second k)

  -- the walk's end, and what it found
  pub record WalkPart (R : ℕ) (v : Levels) (f : Found) (t : List Vector) : Type 0 where
    pub end : Triangle × ℕ
    pub voxels : List Vector
    pub walked : rounds c R v ≡ answered end voxels
    pub among : Among voxels t
    pub is : f ≡ found c v end

  walk-among : {R : ℕ} {v : Levels} {f : Found} {t u : List Vector} → Among t u → WalkPart R v f t → WalkPart R v f u
  walk-among a h = record { end = h.end; voxels = h.voxels; walked = h.walked; among = among-more h.among a; is = h.is }

  pub walk-part : (R : ℕ) (v : Levels) {f : Found} {t : List Vector} → to_the_end c R v ≡ answered f t → WalkPart R v f t
  unfolding end
  walk-part R v e =
      let a = both-answered (rounds c R v) _ e in
      let h = (ensured-answered _ _ _ a.second).1 in
      record { end = a.answer; voxels = a.front; walked = a.first; among = a.first_among; is = cc }

  pub record PickParts (R : ℕ) (f : Found) (t : List Vector) : Type 0 where
    pub levels : Levels
    pub axis : (k : Axis) → AxisPart levels t k
    pub walk : WalkPart R levels f t

pub pick-parts : (ok : Bool) (look : Vector → Look) (p : Vector) (frame reach : ℤ) {f : Found} {t : List Vector} → pick ok look p frame reach ≡ answered f t → PickParts (probe look p frame reach) (nat_abs reach) f t
unfolding pick check
pick-parts ok look p frame reach e =
    let c = probe look p frame reach in
    let b = both-answered (check ok look p frame reach) _ e in
    let a = both-answered (judging ok c p frame reach) _ b.first in
    record {
      levels = b.answer;
      axis = λ k. axis-among c b.first_among (axis-among c a.second_among (start-parts c p a.second k));
      walk = walk-among c b.second_among (walk-part c (nat_abs reach) b.answer b.second);
    }
