-- The known lean is not empty: what is assumed is proved, the answers are evaluated.
use Rattle.std.specs.Prelude.{◌≡◌, refl, T, leb, ℕ, ◌*◌, ℤ, pos}
use Rattle.std.proofs.Common.{arith, leb→le}
use Rattle.rules.specs.declared.Vector.{Vector}
use Rattle.rules.specs.declared.Accepted.{Accepted as AcceptedPick}
use Rattle.std.specs.Prelude.{Ok as Accepted}
use Rattle.rules.specs.Vectors.{vector, ◌⊕◌, ◌⊖◌, minus, scale, dot, cross, det, sphere, lay, size}
use Rattle.rules.specs.Solids.{between, permitted_wedge, filled_wedge, in_box, look}
use Rattle.rules.specs.Asked.{after, ◌>>=◌}
use Rattle.rules.specs.Walk.{ensure, sign, signs, seen, asked, powers_from, powers, normal, all_level, keep, only, remaining, takes_part, levelled, determinant, inside, any_inside, first_free, choice, look_at, falls_at, facing, is_level, axes, start, falling, round as round_of, walk, rounds, found, end}
use Rattle.rules.specs.Pick.{is_inside, placing, judging, check, pick, answer, pick_of}
use Rattle.rules.specs.Lean.{squared, longest, spread, last, last_power, bound_at}
use Rattle.slope.specs.Demands.{pick_at, at, line}
use Rattle.planes.specs.Lean.{last_of, AcceptsLine, LeanNotEmpty}
use Rattle.planes.proofs.LeanProved.{wedge-plane}

accepts-line : {a b c h reach : ℤ} {n : Vector} {tenths : ℕ} (k : AcceptedPick) → pick_at (line a b c h (at 100) (pos 0) reach) ≡ Accepted k → k.normal ≡ n
    → T (leb (tenths * ((bound_at (last_of (line a b c h (at 100) (pos 0) reach)) k).part * (squared (vector a b c) * squared n))) (10 * ((bound_at (last_of (line a b c h (at 100) (pos 0) reach)) k).whole * squared (cross (vector a b c) n))))
    → AcceptsLine a b c h reach n tenths
accepts-line k is same few = record { on_plane = wedge-plane _ _ _ _; answer = k; is = is; is_normal = same; reached = leb→le _ _ few }

pub lean-not-empty : LeanNotEmpty
unfolding accepts-line squared longest spread last last_power bound_at ◌⊕◌ ◌⊖◌ minus scale dot cross det sphere lay size between permitted_wedge filled_wedge in_box look after ◌>>=◌ ensure sign signs seen asked powers_from powers normal all_level keep only remaining takes_part levelled determinant inside any_inside first_free choice look_at falls_at facing is_level axes start falling round_of walk rounds found end is_inside placing judging check pick answer pick_of
lean-not-empty = record {
  beyond = accepts-line _ refl refl tt;
  is_beyond = omega arith;
  against = accepts-line _ refl refl tt;
  sharp = accepts-line _ refl refl tt;
  sharp_with_one_level = accepts-line _ refl refl tt;
  sharp_with_two_level = accepts-line _ refl refl tt;
  own_slope = accepts-line _ refl refl tt;
  no_lean = refl;
}
