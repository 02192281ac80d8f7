-- Demand 3 for the two calls in a row is not empty: W1, W8, W6, a stack, W7 and a check at an edge. What is assumed of them is proved, the answers are evaluated.
use Rattle.std.specs.Prelude.{◌≡◌, refl, ℕ, ℤ, pos}
use Rattle.rules.specs.declared.Vector.{Vector}
use Rattle.rules.specs.declared.Levels.{Levels}
use Rattle.rules.specs.Vectors.{◌⊕◌, ◌⊖◌, minus, scale, dot, cross, det, sphere, lay, size, unit0, unit2}
use Rattle.rules.specs.Solids.{between, permitted_wedge, filled_wedge, in_box, look, row_bytes, slice_bytes, stack_bytes, permitted_stack, voxel, filled_stack}
use Rattle.rules.specs.Asked.{after, ◌>>=◌}
use Rattle.rules.specs.Walk.{ensure, sign, signs, seen, asked, powers_from, powers, normal, all_level, keep, only, remaining, takes_part, levelled, determinant, inside, any_inside, first_free, choice, look_at, falls_at, facing, is_level, axes, start, falling, round as round_of, walk, rounds, found, end}
use Rattle.rules.specs.Pick.{is_inside, placing, judging, check}
use Rattle.rules.specs.TwoCalls.{ready_start, check_answer, check_of, is_ready, readiness, walk_on, answer_from, walk_answer, walk_of}
use Rattle.slope.specs.Stair.{row, rows, slices, stair_bytes}
use Rattle.slope.specs.Demands.{Inputs, apex_of}
use Rattle.slope.specs.Cases.{N, R, outcome, accepted-as, refused_as, on-wedge, on_line, on-stair}
use Rattle.slope.specs.Rows.{walk_at, Handing, RowAccepts, RowRefuses, RowNotEmpty}

accepts : {n : Vector} {t : ℤ} {i : Inputs} {level : Levels} {handed steps looks : ℕ} → Handing n t i level handed → outcome (walk_at i (ready_start i.start (apex_of i) level handed)) ≡ N n steps looks → RowAccepts n t i level handed steps looks
accepts {i = i} {level} {handed} h e = let a = accepted-as (walk_at i (ready_start i.start (apex_of i) level handed)) e in record { handing = h; answer = a.0; is = a.1; is_normal = a.2; steps_are = a.3; looks_are = a.4 }

refuses : {n : Vector} {t : ℤ} {i : Inputs} {level : Levels} {handed : ℕ} → Handing n t i level handed → outcome (walk_at i (ready_start i.start (apex_of i) level handed)) ≡ R 8 → RowRefuses n t i level handed
refuses {i = i} {level} {handed} h e = let r = refused_as (walk_at i (ready_start i.start (apex_of i) level handed)) e in record { handing = h; answer = r.0; is = r.1; is_eight = r.2 }

pub row-not-empty : RowNotEmpty
unfolding outcome ◌⊕◌ ◌⊖◌ minus scale dot cross det sphere lay size between permitted_wedge filled_wedge in_box look row_bytes voxel filled_stack permitted_stack stack_bytes slice_bytes stair_bytes slices rows row after ◌>>=◌ ensure sign signs seen asked powers_from powers normal all_level keep only remaining takes_part levelled determinant inside any_inside first_free choice look_at falls_at facing is_level axes start falling round_of walk rounds found end is_inside placing judging check check_answer check_of is_ready readiness walk_on answer_from walk_answer walk_of
row-not-empty = record {
  W1 = accepts (record { on_slope = on_line (on-wedge (pos 1) unit0 tt tt tt tt tt tt refl tt tt refl refl refl) tt tt; checked = refl }) refl;
  W8 = accepts (record { on_slope = on_line (on-wedge (pos 1) (minus unit0) tt tt tt tt tt tt refl tt tt refl refl refl) tt tt; checked = refl }) refl;
  W6 = accepts (record { on_slope = on_line (on-wedge (pos 1) unit2 tt tt tt tt tt tt refl tt tt refl refl refl) tt tt; checked = refl }) refl;
  on_stack = accepts (record { on_slope = on-stair; checked = refl }) refl;
  W7 = refuses (record { on_slope = on_line (on-wedge (pos 1) unit0 tt tt tt tt tt tt refl tt tt refl refl refl) tt tt; checked = refl }) refl;
  edge = record { on_slope = on_line (on-wedge (pos 1) unit2 tt tt tt tt tt tt refl tt tt refl refl refl) tt tt; answer = _; is = refl; is_eight = refl };
}
