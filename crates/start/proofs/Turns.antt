-- The three axes in turn: before each, those from it on give what all three give, after the levels told so far. An axis that refuses ends them, one that is
-- asked is told and passed; behind the last the levels are judged.
use Rattle.std.specs.Prelude.{◌≡◌, List, [], ◌∷◌, ℕ, zero, suc, ◌+◌, ◌*◌, ◌≤◌, ◌<◌, Ok, Err, slice_index_or}
use Rattle.std.proofs.Common.{ap, arith, refl}
use Rattle.std.proofs.Math.ListN.{drop, drop_of_length-le}
use borrow.Author.Rules.{rules}
use Rattle.rules.specs.declared.Levels.{Levels}
use Rattle.rules.specs.declared.Refused.{Refused}
use Rattle.rules.specs.Asked.{Asked, ◌>>=◌}
use Rattle.rules.specs.declared.Axis.{Axis}
use Rattle.rules.specs.Walk.{Stop, all_axes, unit, none_level, Probe, is_level, axes}
use Rattle.laws.specs.Tally.{Tally, Gives, most_looks, then-yes, then-no}
use Rattle.falls.specs.declared.Falls.{Falls}
use Rattle.falls.specs.declared.Scene.{Scene}
use Rattle.along.specs.declared.Line.{Line}
use Rattle.along.specs.Lines.{LineOf}
use Rattle.along.specs.Facts.{line-axis, line-in}
use Rattle.start.specs.declared.AxisTold.{AxisTold}
use Rattle.start.specs.Start.{Start, AxisAnswer, axis_tally, levels_judged, LevelsJudged, MinusAsked, AxisJudged, with_level, AxesAsked}

-- what a question of one axis asks
pub ruleset one-axis = (line-in, rules)

axes-from : (k : Axis) (i : ℕ) → i < 3 → drop i all_axes ≡ slice_index_or all_axes i k ∷ drop (i + 1) all_axes
axes-from k zero l = refl
axes-from k (suc zero) l = refl
axes-from k (suc (suc zero)) l = refl
axes-from k (suc (suc (suc i))) l = absurd (omega (arith, l))

-- ---- the axes in turn
module _ (c : Probe) where
  -- the axes ks, after the levels v
  pub axes_left : List Axis → Levels → Asked Stop Levels
  axes_left [] v = levels_judged c.apex c.signs v
  axes_left (k ∷ ks) v = do
    is ← is_level c (unit k)
    axes_left ks (with_level v k is)

  -- before the axis of the number i, after n looks: the axes from here on give what all give
  pub record Asking (looks i : ℕ) (v : Levels) (n : ℕ) : Type 0 where
    pub count : i ≤ 3
    pub few : n ≤ looks + most_looks (2 * i)
    pub rest : {r : Tally Stop Levels} → Gives n (axes_left (drop i all_axes) v) r → Gives looks (axes c) r

module _ {c : Probe} {looks : ℕ} where
  pub asking-begins : Asking c looks 0 none_level looks
  unfolding axes_left axes levels_judged
  asking-begins = record { count = omega arith; few = omega arith; rest = λ h. h }

  module _ {i n : ℕ} {v : Levels} (h : Asking c looks i v n) where
    pub asking-ends : {r : Start} → 3 ≤ i → LevelsJudged c.apex c.signs v n r → AxesAsked c looks r
    unfolding axes_left
    asking-ends l j = record { gives = h.rest (rw (drop_of_length-le all_axes l) j.gives); few = omega (arith, h.count, h.few, j.few) }

    module _ (o : Axis) {w : Scene} {d : Line} (l : i < 3) (u : LineOf w (slice_index_or all_axes i o) d) {f : Falls} (m : MinusAsked c (unit d.axis) n f) where
      -- this axis, and then those behind it
      onward : {a : AxisAnswer} {r : Tally Stop Levels} → AxisJudged c (unit d.axis) f a
          → (Gives n (is_level c (unit (slice_index_or all_axes i o))) (axis_tally a) → Gives n (is_level c (unit (slice_index_or all_axes i o)) >>= λ b. axes_left c (drop (i + 1) all_axes) (with_level v (slice_index_or all_axes i o) b)) r)
          → Gives looks (axes c) r
      unfolding axes_left
      onward g next = h.rest (rw (axes-from o i l) (next (rw (line-axis u) at (g.gives m))))

      pub asking-stops : {r : Refused} → AxisJudged c (unit d.axis) f (Err r) → AxesAsked c looks (Err r)
      asking-stops g = record { gives = onward g (λ a. then-no _ a); few = omega (arith, l, h.few, m.few, g.few) }

      pub asking-more : {t : AxisTold} {w : Levels} → AxisJudged c (unit d.axis) f (Ok t) → w ≡ with_level v (slice_index_or all_axes i o) t.level → Asking c looks (i + 1) w t.looks
      asking-more g e = rw e (record { count = omega (arith, l); few = omega (arith, h.few, m.few, g.few); rest = λ q. onward g (λ a. then-yes _ a q) })

pub ruleset asking = (asking-begins, asking-ends, asking-stops, asking-more)
