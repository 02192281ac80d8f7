-- What holds on every solid, wedge or stack, for every start check and every walk from a ready start, from a check or not: the statements. The proofs are in the modules beside.
use Rattle.std.specs.Prelude.{◌≡◌, ◌⊎◌, not, List, [], ◌∷◌, ℕ, suc, ◌+◌, ◌*◌, ◌-◌, ◌≤◌, ◌<◌, max, T, length, ℤ, pos, nat_abs, ◌≤ℤ◌}
use Rattle.std.proofs.Common.{sym, subst, ◌∙◌, inl, inr, arith}
use Rattle.std.proofs.Math.Path.{ap}
use Rattle.std.proofs.Math.Nat as NatL
use Rattle.rules.specs.declared.Vector.{Vector}
use Rattle.rules.specs.declared.Solid.{Solid}
use Rattle.rules.specs.declared.Solid.TheVariants.{Stack as IsStack}
use Rattle.rules.specs.declared.Stack.{Stack}
use Rattle.rules.specs.declared.Look.TheVariants.{Filled, Empty}
use Rattle.rules.specs.declared.Pair.{Pair}
use Rattle.rules.specs.declared.ReadyStart.{ReadyStart}
use Rattle.rules.specs.declared.Accepted.{Accepted as AcceptedPick}
use Rattle.rules.specs.declared.Refused.{Refused as RefusedPick}
use Rattle.rules.specs.Answers.{Check}
use Rattle.std.specs.Prelude.{Ok as Accepted, Err as Refused, Ok as Ready, Err as CheckRefused}
use Rattle.rules.specs.Vectors.{◌⊕◌, dot, lay, origin}
use Rattle.rules.specs.Solids.{box, in_box, permitted, look}
use Rattle.rules.specs.Asked.{answered}
use Rattle.rules.specs.declared.Axis.{Axis}
use Rattle.rules.specs.Walk.{Stop, stop, signs, powers, unit, vector_of, pairs, way, level, all_level, only, remaining, takes_part, Probe, Found, laid, found}
use Rattle.rules.specs.Pick.{probe, refused_answer, pick_of}
use Rattle.rules.specs.TwoCalls.{check_of, handed, walk_on, walk_of, in_a_row}
use Rattle.rules.specs.Lean.{levels_of}
use Rattle.laws.specs.Parts.{NonNegative}
use Rattle.laws.specs.Triples.{det_of}
use Rattle.laws.specs.Flat.{product}
use Rattle.laws.specs.Generators.{Combines, generators}
use Rattle.laws.specs.Frames.{Signs, signs-are}
use Rattle.laws.specs.Boxes.{outside-box}
use Rattle.laws.specs.Next.{LevelsAnswered, NextLook}
use Rattle.laws.specs.Axes.{levels-answered}
use Rattle.laws.specs.Answered.{voxels_of}
use Rattle.laws.specs.Powers.{few-powers}
use Rattle.laws.specs.PickParts.{walk-part}
use Rattle.laws.specs.PickRule.{Passed}
use Rattle.laws.specs.Rounds.{NextRound, WalkRefusal, WalkFound}
use Rattle.laws.specs.BothWays.{BothWays}
use Rattle.laws.proofs.BothWays.{sides-looked}
use Rattle.laws.specs.Answers.{steps_of, looks_of, found_of, stop_of, found-determinant, found-signs, found-levels, found-stays}
use Rattle.laws.proofs.Answers.{found-products, found-generated}
use Rattle.laws.proofs.Handed as Handed
use Rattle.laws.specs.Handed.{NotBegunOn, accepted-walk}
use Rattle.laws.proofs.Handed.{walk-accepted, walk_refused}
use Rattle.laws.proofs.Row as Row
use Rattle.laws.proofs.Row.{CheckTold}
use Rattle.laws.proofs.Stacks as Stacks
use Rattle.laws.specs.Beyond as Beyond
use Rattle.laws.proofs.Theorems.{refused-number}
use Rattle.range.specs.Ranges.{between-naturals}

-- K, the number of powers, and 2 + 6K, the most looks of a check
abbrev pub powers_of : ℤ → ℕ
powers_of reach = length (powers (nat_abs reach))

abbrev pub most_of : ℤ → ℕ
most_of reach = 2 + 6 * powers_of reach

abbrev pub check_looks : Check → ℕ
check_looks (Ready d) = d.looks
check_looks (CheckRefused r) = r.looks

-- ---- the start check
module _ (solid : Solid) (bytes : List ℕ) (p : Vector) (frame reach : ℤ) where
  abbrev c : Probe
  c = probe (look solid bytes) p frame reach

  abbrev told : CheckTold solid bytes p frame reach (check_of solid bytes p frame reach)
  told = Row.told solid bytes p frame reach

  -- what it hands back: p and q, which are filled and empty, the axes as they were asked, of which one at least is not level, and the looks
  pub record HandedBack (d : ReadyStart) : Type 0 where
    pub start : d.start ≡ p
    pub apex : d.apex ≡ p ⊕ signs (nat_abs frame)
    pub start_filled : look solid bytes p ≡ Filled
    pub apex_empty : look solid bytes (p ⊕ signs (nat_abs frame)) ≡ Empty
    pub answered : LevelsAnswered (probe (look solid bytes) p frame reach) d.level
    pub not_all_level : T (not (all_level d.level))
    pub few_looks : d.looks + length (remaining d.level) * powers_of reach ≤ most_of reach

  pub check-ready : (d : ReadyStart) → check_of solid bytes p frame reach ≡ Ready d → HandedBack d
  check-ready d is =
      let h = subst (CheckTold solid bytes p frame reach) is told in
      let ready = h.2.1 in
      record {
        start = h.0;
        apex = h.1;
        start_filled = ready.faced.start_filled;
        apex_empty = ready.faced.apex_empty;
        answered = levels-answered c ready.asked;
        not_all_level = ready.asked.some;
        few_looks = omega (arith, ready.few, h.2.2);
      }

  -- so at most 56 looks, ready or refused
  pub check-looks-at-most-56 : check_looks (check_of solid bytes p frame reach) ≤ 56
  check-looks-at-most-56 = go (check_of solid bytes p frame reach) told
    where
      nine : nat_abs reach ≤ 256 → most_of reach ≤ 56
      nine h = omega (arith, few-powers (nat_abs reach) h)

      few : (n : ℕ) → n ≤ most_of reach → (n ≡ 0) ⊎ (nat_abs reach ≤ 256) → n ≤ 56
      few n h (inl e) = omega (arith, e)
      few n h (inr k) = omega (arith, h, nine k)

      go : (x : Check) → CheckTold solid bytes p frame reach x → check_looks x ≤ 56
      go (Ready d) h = let ready = h.2.1 in omega (arith, h.2.2, ready.few, nine (between-naturals 1 256 reach ready.faced.passed.permitted_reach).1)
      go (CheckRefused r) h = omega (arith, h.2, few (length h.0) h.1.few h.1.small)

  -- its refusals are 1 to 8, so never 13, before the first step and after at most 2 + 6K looks; 8 is given at the voxel that was to be looked at next
  module _ (r : RefusedPick) (is : check_of solid bytes p frame reach ≡ CheckRefused r) where
    abbrev stopped : CheckTold solid bytes p frame reach (CheckRefused r)
    stopped = subst (CheckTold solid bytes p frame reach) is told

    pub check-number : (1 ≤ r.number) × (r.number ≤ 8)
    check-number = stopped.1.refusal.known

    pub check-no-step : r.steps ≡ 0
    check-no-step = stopped.1.refusal.no_step

    pub check-looks : r.looks ≤ most_of reach
    check-looks = omega (arith, stopped.1.few, stopped.2)

    pub check-next : r.number ≡ 8 → NextLook (probe (look solid bytes) p frame reach) (stop_of r)
    check-next = stopped.1.refusal.next

  -- ---- the check and then the walk, in a row, are the pick: its answer and counts, refused or accepted
  pub row : in_a_row solid bytes frame reach (check_of solid bytes p frame reach) ≡ pick_of solid bytes p frame reach
  row = Row.row solid bytes p frame reach

  -- so a ready start that a check handed back is never refused with 13
  pub never-thirteen : (d : ReadyStart) → check_of solid bytes p frame reach ≡ Ready d → (r : RefusedPick) → walk_of solid bytes d frame reach ≡ Refused r → r.number ≡ 13 → ⊥
  unfolding in_a_row
  never-thirteen d e r is n = omega (arith, n, (refused-number solid bytes p frame reach r (sym row ∙ ap (in_a_row solid bytes frame reach) e ∙ is)).1)

-- ---- the walk from any ready start d
module _ (solid : Solid) (bytes : List ℕ) (d : ReadyStart) (frame reach : ℤ) where
  abbrev s : Vector
  s = signs (nat_abs frame)

  -- what it is about, from the apex that it was handed
  abbrev h : Probe
  h = handed (look solid bytes) d frame reach

  -- none of 1 to 4, on the handed start and apex
  abbrev pub NoneOf1To4 : Type 0
  NoneOf1To4 = Passed (permitted solid bytes) (handed (look solid bytes) d frame reach) d.start frame reach

  -- 13 exactly where none of 1 to 4 is given, and it has more than 2 + 6K looks or all three axes level; place and counts are zero
  pub walk-thirteen : NoneOf1To4 → (most_of reach < d.looks) ⊎ T (all_level d.level) → walk_of solid bytes d frame reach ≡ Refused (refused_answer (stop 13 origin 0) 0)
  walk-thirteen = Handed.thirteen-when solid bytes d frame reach

  module _ (r : RefusedPick) (is : walk_of solid bytes d frame reach ≡ Refused r) where
    pub walk-thirteen-only : r.number ≡ 13 → NoneOf1To4 × ((most_of reach < d.looks) ⊎ T (all_level d.level))
    walk-thirteen-only = Handed.thirteen-only solid bytes d frame reach r is

    -- before the rounds 1 to 4 and 13, all counts zero; in them 8, 9 and 10
    abbrev pub BeforeRounds : Type 0
    BeforeRounds = (((1 ≤ r.number) × (r.number ≤ 4)) ⊎ (r.number ≡ 13)) × (r.steps ≡ 0) × (r.looks ≡ 0)

    pub walk-number : BeforeRounds ⊎ ((8 ≤ r.number) × (r.number ≤ 10))
    walk-number = go (walk_refused solid bytes d frame reach r is)
      where
        go : (NotBegunOn solid bytes d frame reach (stop_of r) × (r.looks ≡ 0)) ⊎ WalkRefusal h (nat_abs reach) d.level (stop_of r) → BeforeRounds ⊎ ((8 ≤ r.number) × (r.number ≤ 10))
        go (inl ((z, inl k), l)) = inl (inl k.0, z, l)
        go (inl ((z, inr k), l)) = inl (inr (ap (λ (r : Stop). r.number) k.0), z, l)
        go (inr k) = inr k.known

    -- 8 is given at the way of a pair that takes part, of the triangle reached, at a power, from the handed apex: the voxel that was to be looked at next, outside the box
    pub walk-next : r.number ≡ 8 → NextRound (handed (look solid bytes) d frame reach) d.level (stop_of r)
    walk-next e = go (walk_refused solid bytes d frame reach r is)
      where
        go : (NotBegunOn solid bytes d frame reach (stop_of r) × (r.looks ≡ 0)) ⊎ WalkRefusal h (nat_abs reach) d.level (stop_of r) → NextRound h d.level (stop_of r)
        go (inl ((z, inl k), l)) = absurd (omega (arith, k.0.1, e))
        go (inl ((z, inr k), l)) = absurd (omega (arith, ap (λ (r : Stop). r.number) k.0, e))
        go (inr k) = k.next e

    pub walk-outside : r.number ≡ 8 → T (not (in_box (box solid) r.place))
    walk-outside e = outside-box solid bytes r.place (walk-next e).stopped.beyond.outside

  -- at most the reach less the remaining axes in steps, refused or accepted; and beside the looks handed those of so many rounds and one: at most 2 + K(6R - 6), with 3 for a smaller R
  pub walk-steps-at-most : steps_of (walk_of solid bytes d frame reach) ≤ nat_abs reach - length (remaining d.level)
  walk-steps-at-most = Handed.few-steps solid bytes d frame reach

  pub walk-looks-on : looks_of (walk_of solid bytes d frame reach) ≤ d.looks + suc (nat_abs reach - length (remaining d.level)) * (length (only (takes_part d.level) pairs) * powers_of reach)
  walk-looks-on = Handed.few-looks solid bytes d frame reach

  pub walk-looks-at-most : looks_of (walk_of solid bytes d frame reach) ≤ 2 + powers_of reach * (6 * max (nat_abs reach) 3 - 6)
  walk-looks-at-most = Handed.most-looks solid bytes d frame reach _ (λ _. NatL.le_refl _)

  pub walk-looks-at-most-13772 : looks_of (walk_of solid bytes d frame reach) ≤ 13772
  walk-looks-at-most-13772 = Handed.most-looks-13772 solid bytes d frame reach

  -- the voxels that the walk looks at, in order
  abbrev pub walked_at : List Vector
  walked_at = voxels_of (walk_on (look solid bytes) d frame reach)

  -- ---- an accepted walk: what holds of a pick's end, but for what the axes found
  module _ (a : AcceptedPick) (is : walk_of solid bytes d frame reach ≡ Accepted a) where
    abbrev walked : WalkFound (handed (look solid bytes) d frame reach) (nat_abs reach) d.level (found_of a)
    walked = (walk-accepted solid bytes d frame reach a is).1

    abbrev signed : Signs (signs (nat_abs frame))
    signed = signs-are (nat_abs frame)

    -- from the handed apex; an axis has no part in the normal exactly if it was handed as level, and the other parts have the frame's sign
    pub walk-apex : a.apex ≡ d.apex
    unfolding found
    walk-apex = ap (λ (f : Found). f.apex) walked.is

    pub walk-levels : levels_of a.normal ≡ d.level
    walk-levels = sym (found-levels walked signed)

    pub walk-signs : NonNegative (lay s a.normal)
    walk-signs = found-signs walked signed

    -- a level axis's vector stays the unit vector, laid in
    pub walk-stays : (k : Axis) → T (level d.level k) → vector_of a.triangle k ≡ lay s (unit k)
    walk-stays k t = found-stays walked signed k (rw walk-levels t)

    -- the triangle has determinant 1 in the frame; the normal's product is 0 with the vector of a level axis and 1 with every other
    pub walk-determinant : det_of (laid s a.triangle) ≡ pos 1
    walk-determinant = found-determinant walked signed

    pub walk-products : (k : Axis) → dot a.normal (vector_of a.triangle k) ≡ product (level (levels_of a.normal) k)
    walk-products = found-products walked signed

    -- the level vectors and the sides between the other corners generate every whole vector of the plane
    pub walk-generated : (v : Vector) → dot a.normal v ≡ pos 0 → Combines (generators (levels_of a.normal) a.triangle) v
    walk-generated = found-generated walked signed

    walked-so : (walk_on (look solid bytes) d frame reach ≡ answered (found_of a) walked_at) × (a.looks ≡ d.looks + length walked_at)
    unfolding walk_of
    walked-so = accepted-walk d.looks _ (walk_on (look solid bytes) d frame reach) is

    -- its looks are those that it was handed and its own
    pub walk-counted : a.looks ≡ d.looks + length walked_at
    walk-counted = walked-so.1

    -- it has looked both ways from the apex, at every power, along each side between two corners that are not level
    pub walk-sides-both-ways : (x : Pair) → T (takes_part d.level x) → BothWays (handed (look solid bytes) d frame reach) walked_at (way a.triangle x)
    unfolding walk_on
    walk-sides-both-ways x takes = sides-looked h (walk-part h (nat_abs reach) d.level walked-so.0) x takes

-- ---- on a stack no walk of a reach above 64 is accepted in which a pair takes part
pub walk-stack-reach : (stack : Stack) (bytes : List ℕ) (d : ReadyStart) (frame reach : ℤ) (a : AcceptedPick) → walk_of (IsStack stack) bytes d frame reach ≡ Accepted a → (x : Pair) → T (takes_part d.level x) → reach ≤ℤ pos 64
walk-stack-reach = Stacks.walk-stack-reach

-- but with two level axes it looks at nothing, and any reach is: so `stack-reach`, of picks, does not hold of walks
pub walk-beyond-64 : walk_of (IsStack Beyond.voxel) (0 ∷ []) Beyond.two_level (pos 0) (pos 256) ≡ Accepted Beyond.upward
walk-beyond-64 = Beyond.accepted
