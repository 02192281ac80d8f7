-- A walk from a ready start with two level axes is accepted on a stack at reach 256, which no pick is: it asks no pair, so it looks at nothing.
use Rattle.std.specs.Prelude.{◌≡◌, refl, true, false, [], ◌∷◌, pos}
use Rattle.rules.specs.declared.Stack.{Stack}
use Rattle.rules.specs.declared.Solid.TheVariants.{Stack as IsStack}
use Rattle.rules.specs.declared.ReadyStart.{ReadyStart}
use Rattle.rules.specs.declared.Accepted.{Accepted as AcceptedPick}
use Rattle.std.specs.Prelude.{Ok as Accepted}
use Rattle.rules.specs.Vectors.{◌⊕◌, cross, lay, size, origin, unit2}
use Rattle.rules.specs.Solids.{between, row_bytes, slice_bytes, stack_bytes, permitted_stack, voxel as voxel_of, filled_stack, in_box, look}
use Rattle.rules.specs.Asked.{after, ◌>>=◌}
use Rattle.rules.specs.Walk.{ensure, sign, signs, asked, powers_from, powers, units, levels, all_level, keep, only, remaining, takes_part, levelled, normal, first_free, choice, falling, round, walk, rounds, found, end}
use Rattle.rules.specs.Pick.{is_inside, placing, judging}
use Rattle.rules.specs.TwoCalls.{ready_start, is_ready, readiness, walk_on, answer_from, walk_answer, walk_of}

-- one voxel, empty
abbrev pub voxel : Stack
voxel = record { width = pos 1; height = pos 1; depth = pos 1 }

abbrev pub two_level : ReadyStart
two_level = ready_start origin origin (levels true true false) 0

abbrev pub upward : AcceptedPick
upward = record { normal = unit2; triangle = units; apex = origin; steps = 0; looks = 0 }

pub accepted : walk_of (IsStack voxel) (0 ∷ []) two_level (pos 0) (pos 256) ≡ Accepted upward
unfolding ◌⊕◌ cross lay size between row_bytes slice_bytes stack_bytes permitted_stack voxel_of filled_stack in_box look after ◌>>=◌ ensure sign signs asked powers_from powers all_level keep only remaining takes_part levelled normal first_free choice falling round walk rounds found end is_inside placing judging is_ready readiness walk_on answer_from walk_answer walk_of
accepted = refl
