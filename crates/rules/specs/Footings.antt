-- Cases of the known lean and the firm footing, worked out by hand as `tests/second/listed.rs` tells (it has more): answers as a host may hand them, on a wedge, those of W1, W6 and W8 among them.
-- One statement over a list, by evaluation. It rests on no round of a walk, so an edit of the rounds breaks one list alone.
use Rattle.std.specs.Prelude.{◌≡◌, refl, [], ◌∷◌, map, ℕ, ℤ, pos, negsuc}
use Rattle.rules.specs.declared.Vector.{Vector}
use Rattle.rules.specs.declared.Solid.TheVariants.{Wedge as IsWedge}
use Rattle.rules.specs.declared.Triangle.{Triangle}
use Rattle.rules.specs.Answers.{Pick, Lean, Firm, refused_input}
use Rattle.std.specs.Prelude.{Ok as Accepted, Err as Refused, Ok as Known, Ok as Stands, Err as FirmRefused}
use Rattle.rules.specs.Vectors.{vector, ◌⊕◌, ◌⊖◌, minus, scale, dot, lay, origin}
use Rattle.rules.specs.Solids.{between, permitted_wedge, filled_wedge, in_box, look}
use Rattle.rules.specs.Asked.{after, ◌>>=◌}
use Rattle.rules.specs.Walk.{ensure, sign, signs, seen, asked, powers_from, powers, triangle, units, all_level, keep, only, takes_part, look_at, facing}
use Rattle.rules.specs.Pick.{is_inside, placing}
use Rattle.rules.specs.Lean.{squared, longest, spread, last, last_power, bound_at, within, measurable, lean_of}
use Rattle.rules.specs.Firm.{footing, stands, all_stand, firm_from, held, start_under, firm_under, firm, firm_answer, firm_of}

-- an answer: its normal, triangle vectors and apex; a refused one
data Handed : Type 0 where
  answer : Vector → Triangle → Vector → Handed
  none : Handed

pick_of : Handed → Pick
pick_of (answer n m q) = Accepted (record { normal = n; triangle = m; apex = q; steps = 0; looks = 0 })
pick_of none = Refused (record { number = 9; place = origin; steps = 0; looks = 0 })

-- a wedge a b c h, an answer, the frame and the reach
data Case : Type 0 where
  on : ℤ → ℤ → ℤ → ℤ → Handed → ℤ → ℤ → Case

run : Case → Lean × Firm
run (on a b c h handed frame reach) = (lean_of (pick_of handed) reach, firm_of (IsWedge (record { a = a; b = b; c = c; h = h })) [] (pick_of handed) frame reach)

-- part and whole of the bound at the last power; F, the looks and the whole at F
known : ℕ → ℕ → ℕ → ℕ → ℕ → Lean × Firm
known part whole power looks firmly = (Known (record { part = part; whole = whole }), Stands (record { power = power; looks = looks; bound = record { part = part; whole = firmly } }))

-- known of an answer that has no footing
refused : ℕ → ℕ → ℕ → Vector → ℕ → Lean × Firm
refused part whole number place looks = (Known (record { part = part; whole = whole }), FirmRefused (record { number = number; place = place; steps = 0; looks = looks }))

unknown : ℕ → Lean × Firm
unknown number = (refused_input 35, FirmRefused (record { number = number; place = origin; steps = 0; looks = 0 }))

at : ℕ → Vector
at k = vector (pos k) (pos k) (pos k)

W1 : Handed
W1 = answer (vector (pos 1) (pos 2) (pos 5)) (triangle (vector (pos 1) (pos 0) (pos 0)) (vector (negsuc 0) (pos 1) (pos 0)) (vector (negsuc 1) (negsuc 0) (pos 1))) (at 101)

W6 : Handed
W6 = answer (vector (pos 0) (pos 1) (pos 1)) units (at 101)

W8 : Handed
W8 = answer (vector (negsuc 0) (pos 2) (pos 5)) (triangle (vector (negsuc 0) (pos 0) (pos 0)) (vector (pos 1) (pos 1) (pos 0)) (vector (pos 2) (negsuc 0) (pos 1))) (vector (pos 99) (pos 101) (pos 101))

-- 1 1 1 with the unit vectors, at an apex
ones : Vector → Handed
ones q = answer (at 1) units q

footing-cases : map run (
    on (pos 1) (pos 2) (pos 5) (pos 808) W1 (pos 0) (pos 8)
    ∷ on (pos 1) (pos 2) (pos 5) (pos 808) W1 (pos 0) (pos 5)
    ∷ on (negsuc 0) (pos 2) (pos 5) (pos 608) W8 (pos 1) (pos 8)
    ∷ on (pos 0) (pos 1) (pos 1) (pos 202) W6 (pos 0) (pos 8)
    ∷ on (pos 0) (pos 0) (pos 1) (pos 101) (answer (vector (pos 0) (pos 0) (pos 1)) units (at 101)) (pos 0) (pos 8)
    ∷ on (pos 5) (pos 6) (pos 7) (pos 1801) (ones (at 101)) (pos 0) (pos 8)
    ∷ on (pos 10) (pos 11) (pos 12) (pos 3313) (ones (at 101)) (pos 0) (pos 4)
    ∷ on (pos 10) (pos 11) (pos 12) (pos 3305) (ones (at 101)) (pos 0) (pos 4)
    ∷ on (pos 10) (pos 11) (pos 12) (pos 3303) (ones (at 101)) (pos 0) (pos 4)
    ∷ on (pos 10) (pos 11) (pos 12) (pos 3301) (ones (at 101)) (pos 0) (pos 4)
    ∷ on (pos 1) (pos 1) (pos 1) (pos 206) (ones (vector (pos 4) (pos 101) (pos 101))) (pos 0) (pos 3)
    ∷ on (pos 1) (pos 1) (pos 1) (pos 206) (ones (vector (pos 101) (pos 101) (pos 4))) (pos 0) (pos 3)
    ∷ on (pos 0) (pos 1) (pos 1) (pos 202) (answer (vector (pos 0) (pos 1) (pos 1)) units (vector (pos 1015) (pos 101) (pos 101))) (pos 1) (pos 8)
    ∷ on (pos 1) (pos 1) (pos 1) (pos 303) none (pos 0) (pos 0)
    ∷ on (pos 1) (pos 1) (pos 1) (pos 303) none (pos 8) (pos 8)
    ∷ on (pos 1001) (pos 1) (pos 1) (pos 303) none (pos 7) (pos 3)
    ∷ on (pos 1) (pos 2) (pos 5) (pos 808) none (pos 0) (pos 8)
    ∷ on (pos 1) (pos 2) (pos 5) (pos 808) (answer origin units (at 101)) (pos 0) (pos 8)
    ∷ on (pos 1) (pos 2) (pos 5) (pos 808) (answer (vector (pos 257) (pos 0) (pos 0)) units (at 101)) (pos 0) (pos 8)
    ∷ on (pos 1) (pos 2) (pos 5) (pos 808) (answer (at 1) (triangle (vector (pos 2047) (pos 0) (pos 0)) (at 0) (at 0)) (at 101)) (pos 0) (pos 8)
    ∷ on (pos 1) (pos 2) (pos 5) (pos 808) (ones (vector (pos 0) (pos 5) (pos 5))) (pos 0) (pos 8)
    ∷ on (pos 1) (pos 2) (pos 5) (pos 808) (ones (vector (pos 1024) (pos 5) (pos 5))) (pos 0) (pos 8)
    ∷ on (pos 1) (pos 2) (pos 5) (pos 808) (ones (vector (pos 2147483647) (pos 5) (negsuc 2147483647))) (pos 0) (pos 8)
    ∷ on (pos 1) (pos 2) (pos 5) (pos 808) (ones (at 200)) (pos 0) (pos 8)
    ∷ on (pos 1) (pos 2) (pos 5) (pos 808) (ones (at 50)) (pos 0) (pos 8)
    ∷ on (pos 1) (pos 2) (pos 5) (pos 808) (answer (vector (pos 0) (pos 0) (pos 1)) (triangle (at 0) (vector (pos 3) (pos 0) (pos 0)) (vector (pos 0) (pos 4) (pos 0))) (at 101)) (pos 2) (pos 8)
    ∷ []
    )
    ≡ known 33 1920 8 26 1920
    ∷ known 33 1920 8 26 1920
    ∷ known 33 1920 8 26 1920
    ∷ known 9 128 8 18 128
    ∷ known 6 64 8 18 64
    ∷ known 6 192 0 3 0
    ∷ known 6 48 4 20 48
    ∷ known 6 48 2 16 12
    ∷ known 6 48 1 10 3
    ∷ known 6 48 0 3 0
    ∷ known 6 48 2 14 12
    ∷ known 6 48 2 18 12
    ∷ known 9 128 4 17 32
    ∷ unknown 1
    ∷ unknown 2
    ∷ unknown 3
    ∷ unknown 35
    ∷ unknown 35
    ∷ unknown 35
    ∷ unknown 35
    ∷ refused 6 192 4 (vector (negsuc 0) (pos 4) (pos 4)) 0
    ∷ refused 6 192 4 (vector (pos 1024) (pos 5) (pos 5)) 0
    ∷ refused 6 192 4 (vector (pos 2147483646) (pos 4) (negsuc 2147483647)) 0
    ∷ refused 6 192 5 (at 199) 1
    ∷ refused 6 192 6 (at 50) 2
    ∷ known 6 64 1 10 1
    ∷ []
unfolding pick_of run known refused unknown at W1 W6 W8 ones footing stands all_stand firm_from held start_under firm_under firm firm_answer firm_of squared longest spread last last_power bound_at within measurable lean_of ◌⊕◌ ◌⊖◌ minus scale dot lay between permitted_wedge filled_wedge in_box look after ◌>>=◌ ensure sign signs seen asked powers_from powers all_level keep only takes_part look_at facing is_inside placing
footing-cases = refl
