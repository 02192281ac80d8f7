-- What a check hands to a host and the host hands to a walk is the same ready start; a pick that is handed back is the pick that was.
use Rattle.std.specs.Prelude.{◌≡◌, refl, Bool, true, false, ◌≤◌}
use Rattle.std.proofs.Common.{ap, arith, ne_eqb}
use Rattle.rules.specs.declared.Levels.{Levels}
use Rattle.rules.specs.declared.ReadyStart.{ReadyStart}
use Rattle.rules.specs.Answers.{Pick}
use Rattle.std.specs.Prelude.{Ok as Accepted, Err as Refused}
use Rattle.rules.specs.Walk.{levels}
use Rattle.rules.specs.TwoCalls.{ready_start}
use Rattle.flat.specs.Flat.{flat_pick, handed_pick, mask_of, levels_of, flat_ready, ready_of}

levels-back : (x y z : Bool) → levels_of (mask_of (levels x y z)) ≡ levels x y z
levels-back true true true = refl
levels-back true true false = refl
levels-back true false true = refl
levels-back true false false = refl
levels-back false true true = refl
levels-back false true false = refl
levels-back false false true = refl
levels-back false false false = refl

pub ready-back : (d : ReadyStart) → ready_of (flat_ready d) ≡ d
ready-back d = ap (λ (v : Levels). ready_start d.start d.apex v d.looks) (levels-back d.level.x d.level.y d.level.z)

-- a refusal has a number
abbrev pub Numbered : Pick → Type 0
Numbered (Accepted a) = Unit {0}
Numbered (Refused r) = 1 ≤ r.number

pub pick-back : (r : Pick) → Numbered r → handed_pick (flat_pick r) ≡ r
unfolding handed_pick
pick-back (Accepted a) h = refl
pick-back (Refused r) h = rw (ne_eqb r.number 0 (λ e. omega arith), handed_pick)
