-- Document 02's 2026-05, two calls out of one: the start check, which hands back a ready start, and the walk from any ready start; their answers and promises, for every input.
-- These are definitions: nothing here is proved.
use Rattle.std.specs.Prelude.{◌≡◌, Bool, not, ◌&&◌, List, [], ℕ, ◌+◌, ◌*◌, leb, ℤ, nat_abs, length}
use Rattle.rules.specs.declared.Vector.{Vector}
use Rattle.rules.specs.declared.Wedge.{Wedge}
use Rattle.rules.specs.declared.Stack.{Stack}
use Rattle.rules.specs.declared.Solid.{Solid}
use Rattle.rules.specs.declared.Solid.TheVariants.{Wedge as IsWedge, Stack as IsStack}
use Rattle.rules.specs.declared.Look.{Look}
use Rattle.rules.specs.declared.Levels.{Levels}
use Rattle.rules.specs.declared.ReadyStart.{ReadyStart}
use Rattle.rules.specs.Answers.{Check, Pick}
use Rattle.std.specs.Prelude.{Ok as Ready, Err as CheckRefused, Ok as Accepted, Err as Refused}
use Rattle.rules.specs.Vectors.{◌⊕◌, origin}
use Rattle.rules.specs.Solids.{permitted, look}
use Rattle.rules.specs.Asked.{Asked, answered, refused, ◌>>=◌, ◌>>◌}
use Rattle.rules.specs.Walk.{Stop, stop, ensure, signs, powers, all_level, Probe, Found, to_the_end}
use Rattle.rules.specs.Pick.{probe_from, judging, check, accepted_answer, refused_answer}

-- ---- the start check covers refusals 1 to 8 up to the axis questions and hands back a ready start with its looks
abbrev pub ready_start : Vector → Vector → Levels → ℕ → ReadyStart
ready_start p q v looks = record { start = p; apex = q; level = v; looks = looks }

unfoldable pub check_answer : Vector → Vector → Asked Stop Levels → Check
check_answer p q (answered v t) = Ready (ready_start p q v (length t))
check_answer p q (refused r t) = CheckRefused (refused_answer r (length t))

-- a check of a solid with its lent bytes
unfoldable pub check_of : Solid → List ℕ → Vector → ℤ → ℤ → Check
check_of solid bytes p frame reach = check_answer p (p ⊕ signs (nat_abs frame)) (check (permitted solid bytes) (look solid bytes) p frame reach)

-- ---- the walk takes any ready start
-- at most 2 + 6K looks, and not all three axes level: else refusal 13
unfoldable pub is_ready : ℕ → ReadyStart → Bool
is_ready K d = leb d.looks (2 + 6 * K) && not (all_level d.level)

-- from the ready start d
module _ (look : Vector → Look) (d : ReadyStart) (frame reach : ℤ) where
  -- what it is about: the apex is the one that it was handed
  abbrev pub handed : Probe
  handed = probe_from look d.apex frame reach

  -- it judges 1 to 4 again, 4 on the handed start and apex, then 13
  unfoldable pub readiness : Bool → Asked Stop (Unit {0})
  readiness permitted = do
    judging permitted handed d.start frame reach
    ensure (is_ready (length (powers (nat_abs reach))) d) (stop 13 origin 0)

  -- it asks p, q and the axes no more, and begins its rounds from the apex and the level axes that it was handed
  unfoldable pub walk_on : Asked Stop Found
  walk_on = to_the_end handed (nat_abs reach) d.level

-- the answer, counted on from so many looks
unfoldable pub answer_from : ℕ → Asked Stop Found → Pick
answer_from n (answered f t) = Accepted (accepted_answer f (n + length t))
answer_from n (refused r t) = Refused (refused_answer r (n + length t))

-- before the rounds all counts are zero; in them the looks go on from those that it was handed
unfoldable pub walk_answer : ℕ → Asked Stop (Unit {0}) → Asked Stop Found → Pick
walk_answer n (answered _ t) walked = answer_from n walked
walk_answer n (refused r t) walked = Refused (refused_answer r 0)

-- a walk of a solid with its lent bytes
unfoldable pub walk_of : Solid → List ℕ → ReadyStart → ℤ → ℤ → Pick
walk_of solid bytes d frame reach =
    walk_answer d.looks (readiness (look solid bytes) d frame reach (permitted solid bytes)) (walk_on (look solid bytes) d frame reach)

-- ---- the two in a row: what the check refuses, or the walk from its ready start
unfoldable pub in_a_row : Solid → List ℕ → ℤ → ℤ → Check → Pick
in_a_row solid bytes frame reach (Ready d) = walk_of solid bytes d frame reach
in_a_row solid bytes frame reach (CheckRefused r) = Refused r

-- ---- the promises of a check and of a walk, and as they are for each solid
pub record CheckPromise (solid : Solid) (bytes : List ℕ) (p : Vector) (frame reach : ℤ) (r : Check) : Type 0 where
  pub is : r ≡ check_of solid bytes p frame reach

pub record WalkPromise (solid : Solid) (bytes : List ℕ) (d : ReadyStart) (frame reach : ℤ) (r : Pick) : Type 0 where
  pub is : r ≡ walk_of solid bytes d frame reach

pub record WedgeCheckPromise (wedge : Wedge) (p : Vector) (frame reach : ℤ) (r : Check) : Type 0 where
  pub is : r ≡ check_of (IsWedge wedge) [] p frame reach

pub record StackCheckPromise (stack : Stack) (bytes : List ℕ) (p : Vector) (frame reach : ℤ) (r : Check) : Type 0 where
  pub is : r ≡ check_of (IsStack stack) bytes p frame reach

pub record WedgeWalkPromise (wedge : Wedge) (d : ReadyStart) (frame reach : ℤ) (r : Pick) : Type 0 where
  pub is : r ≡ walk_of (IsWedge wedge) [] d frame reach

pub record StackWalkPromise (stack : Stack) (bytes : List ℕ) (d : ReadyStart) (frame reach : ℤ) (r : Pick) : Type 0 where
  pub is : r ≡ walk_of (IsStack stack) bytes d frame reach
