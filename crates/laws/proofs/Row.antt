-- The two calls in a row are the pick: what the check answered the walk judges as the check did, finds ready and goes on from, so that nothing is left but to count on.
use Rattle.std.specs.Prelude.{◌≡◌, not, List, ℕ, ◌+◌, ◌*◌, T, leb, length, ℤ, nat_abs}
use Rattle.std.proofs.Math.Path.{refl}
use Rattle.std.proofs.Common.{◌∙◌, arith, le→leb, length-append}
use Rattle.std.proofs.Math.Facts.{yes_and}
use Rattle.rules.specs.declared.Vector.{Vector}
use Rattle.rules.specs.declared.Solid.{Solid}
use Rattle.rules.specs.declared.Levels.{Levels}
use Rattle.rules.specs.Answers.{Check}
use Rattle.std.specs.Prelude.{Ok as Ready, Err as CheckRefused}
use Rattle.rules.specs.Solids.{permitted, look}
use Rattle.rules.specs.Asked.{Asked, answered, refused, after, ◌>>=◌}
use Rattle.rules.specs.Walk.{Stop, powers, all_level, Probe, Found, to_the_end}
use Rattle.rules.specs.Pick.{probe, check, pick, answer, pick_of}
use Rattle.rules.specs.TwoCalls.{ready_start, check_answer, check_of, is_ready, walk_on, answer_from, in_a_row}
use Rattle.laws.specs.Says.{Says}
use Rattle.laws.specs.Checks.{CheckReady, CheckStopped}
use Rattle.laws.proofs.Checks.{check-says}
use Rattle.laws.specs.Answers.{stop_of}
use Rattle.laws.proofs.Handed.{ready-walks}

-- after the voxels t the looks are counted on from their number
answer-after : (t : List Vector) (x : Asked Stop Found) → answer_from (length t) x ≡ answer (after t x)
unfolding answer answer_from after
answer-after t (answered f s) = rw (length-append t s)
answer-after t (refused r s) = rw (length-append t s)

module _ (solid : Solid) (bytes : List ℕ) (p : Vector) (frame reach : ℤ) where
  abbrev c : Probe
  c = probe (look solid bytes) p frame reach

  abbrev K : ℕ
  K = length (powers (nat_abs reach))

  abbrev ReadyOn : Levels → List Vector → Type 0
  ReadyOn = CheckReady (permitted solid bytes) (look solid bytes) p frame reach

  abbrev StoppedOn : Stop → List Vector → Type 0
  StoppedOn = CheckStopped (permitted solid bytes) (look solid bytes) p frame reach

  is-ready : (v : Levels) (t : List Vector) → ReadyOn v t → T (is_ready K (ready_start p c.apex v (length t)))
  unfolding is_ready
  is-ready v t h = yes_and (leb (length t) (2 + 6 * K)) (not (all_level v)) (le→leb (length t) (2 + 6 * K) (omega (arith, h.few))) h.asked.some

  pub row : in_a_row solid bytes frame reach (check_of solid bytes p frame reach) ≡ pick_of solid bytes p frame reach
  unfolding in_a_row check_of check_answer pick_of pick answer walk_on ◌>>=◌
  row = go (check (permitted solid bytes) (look solid bytes) p frame reach) (check-says (permitted solid bytes) (look solid bytes) p frame reach)
    where
      go : (x : Asked Stop Levels) → Says ReadyOn StoppedOn x → in_a_row solid bytes frame reach (check_answer p c.apex x) ≡ answer (x >>= λ v. to_the_end c (nat_abs reach) v)
      go (answered v t) s =
          let d = ready_start p c.apex v (length t) in
          ready-walks solid bytes d frame reach s.of.faced.passed (is-ready v t s.of) ∙ answer-after t (to_the_end c (nat_abs reach) v)
      go (refused r t) s = refl

  -- what the check's answer tells
  abbrev pub CheckTold : Check → Type 0
  CheckTold (Ready d) = (d.start ≡ p) × (d.apex ≡ (probe (look solid bytes) p frame reach).apex) × ((t : List Vector) × CheckReady (permitted solid bytes) (look solid bytes) p frame reach d.level t × (d.looks ≡ length t))
  CheckTold (CheckRefused r) = (t : List Vector) × CheckStopped (permitted solid bytes) (look solid bytes) p frame reach (stop_of r) t × (r.looks ≡ length t)

  pub told : CheckTold (check_of solid bytes p frame reach)
  unfolding check_of check_answer
  told = go (check (permitted solid bytes) (look solid bytes) p frame reach) (check-says (permitted solid bytes) (look solid bytes) p frame reach)
    where
      go : (x : Asked Stop Levels) → Says ReadyOn StoppedOn x → CheckTold (check_answer p c.apex x)
      go (answered v t) s = (refl, refl, (t, s.of, refl))
      go (refused r t) s = (t, s.of, refl)
