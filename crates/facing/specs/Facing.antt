-- What faces the finger: what the looks at p and q tell, and what one corner more, and all three, leave of the corners.
use Rattle.std.specs.Prelude.{◌≡◌, List, [], ◌∷◌, ℕ, ◌+◌, ◌≤◌, Result, Ok as Clear, Err as IsRefused}
use Rattle.rules.specs.declared.Vector.{Vector}
use Rattle.rules.specs.declared.Refused.{Refused}
use Rattle.rules.specs.Vectors.{◌⊕◌, minus, lay}
use Rattle.rules.specs.declared.Axis.TheVariants.{Axis0 as axis0, Axis1 as axis1, Axis2 as axis2}
use Rattle.rules.specs.Walk.{Stop, unit, Probe, facing, corners_filled}
use Rattle.laws.specs.Tally.{Tally, yes, tally, Gives}
use Rattle.refusals.specs.Refusals.{refusal_tally}

-- no refusal so far, after so many looks; or a refusal
abbrev pub Cleared : Type 0
Cleared = Result ℕ Refused

abbrev pub cleared_tally : Cleared → Tally Stop (Unit {0})
cleared_tally (Clear n) = yes tt n
cleared_tally (IsRefused r) = refusal_tally r

abbrev pub cleared_looks : Cleared → ℕ
cleared_looks (Clear n) = n
cleared_looks (IsRefused r) = r.looks

-- q less the unit vector e, laid in
pub record CornerAt (q s e p : Vector) : Type 0 where
  pub is : p ≡ q ⊕ lay s (minus e)

module _ (c : Probe) where
  pub record FacingAsked (p : Vector) (r : Cleared) : Type 0 where
    pub gives : Gives 0 (facing c p) (cleared_tally r)
    pub few : cleared_looks r ≤ 2

  -- with the corner of e asked, after so many looks, the rest of the corners, those of es, gives what was left before
  abbrev pub rest : List Vector → Cleared → Tally Stop (Unit {0})
  rest es (Clear n) = tally n (corners_filled c es)
  rest es (IsRefused r) = refusal_tally r

  pub record CornerAsked (e : Vector) (looks : ℕ) (r : Cleared) : Type 0 where
    pub is : (es : List Vector) → rest es r ≡ tally looks (corners_filled c (e ∷ es))
    pub few : cleared_looks r ≤ looks + 1

  pub record CornersAsked (looks : ℕ) (r : Cleared) : Type 0 where
    pub gives : Gives looks (corners_filled c (unit axis0 ∷ unit axis1 ∷ unit axis2 ∷ [])) (cleared_tally r)
    pub few : cleared_looks r ≤ looks + 3
