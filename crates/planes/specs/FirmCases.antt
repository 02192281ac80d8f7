-- The firm footing is not empty: the answers are evaluated.
use Rattle.std.specs.Prelude.{◌≡◌, refl, ℕ}
use Rattle.std.proofs.Common.{leb→le}
use Rattle.std.specs.Int.Signed.{le_z_yes, lt_z_yes}
use Rattle.rules.specs.declared.Accepted.{Accepted as AcceptedPick}
use Rattle.rules.specs.declared.Footing.{Footing}
use Rattle.std.specs.Prelude.{Ok as Accepted, Ok as Stands}
use Rattle.rules.specs.Vectors.{◌⊕◌, ◌⊖◌, minus, scale, dot, cross, det, sphere, lay, size}
use Rattle.rules.specs.Solids.{between, permitted_wedge, filled_wedge, in_box, look}
use Rattle.rules.specs.Asked.{after, ◌>>=◌}
use Rattle.rules.specs.Walk.{ensure, sign, signs, seen, asked, powers_from, powers, normal, all_level, keep, only, remaining, takes_part, levelled, determinant, inside, any_inside, first_free, choice, look_at, falls_at, facing, is_level, axes, start, falling, round as round_of, walk, rounds, found, end}
use Rattle.rules.specs.Pick.{is_inside, placing, judging, check, pick, answer, pick_of}
use Rattle.rules.specs.Lean.{squared, longest, spread, last, last_power, bound_at, within, measurable}
use Rattle.rules.specs.Firm.{footing, stands, all_stand, firm_from, held, start_under, firm_under, firm, firm_answer, firm_of}
use Rattle.slope.specs.Demands.{Inputs, pick_at}
use Rattle.slope.specs.Cases.{not-empty}
use Rattle.planes.specs.Firm.{firm_at, FirmOn, FirmNotEmpty}

firm-on : {i : Inputs} {power looks : ℕ} (a : AcceptedPick) (f : Footing) → pick_at i ≡ Accepted a → firm_at i a ≡ Stands f → f.power ≡ power → f.looks ≡ looks → FirmOn i power looks
firm-on a f is firmly p l = record { answer = a; is = is; footed = f; firmly = firmly; power_is = p; looks_are = l }

pub firm-not-empty : FirmNotEmpty
unfolding firm-on footing stands all_stand firm_from held start_under firm_under firm firm_answer firm_of squared longest spread last last_power bound_at within measurable ◌⊕◌ ◌⊖◌ minus scale dot cross det sphere lay size between permitted_wedge filled_wedge in_box look after ◌>>=◌ ensure sign signs seen asked powers_from powers normal all_level keep only remaining takes_part levelled determinant inside any_inside first_free choice look_at falls_at facing is_level axes start falling round_of walk rounds found end is_inside placing judging check pick answer pick_of
firm-not-empty = record {
  W1 = firm-on _ _ refl refl refl refl;
  W1Slope = not-empty.W1.on_slope;
  W1Room = record { inside = (tt, (tt, (tt, (tt, (tt, (tt, tt)))))) };
  W6 = firm-on _ _ refl refl refl refl;
  by_the_wall = firm-on _ _ refl refl refl refl;
  sharp = record { answer = _; is = refl; is_normal = refl; touches = record { start_below = lt_z_yes tt; ways_below = (lt_z_yes tt, (lt_z_yes tt, (lt_z_yes tt, (lt_z_yes tt, (lt_z_yes tt, (lt_z_yes tt, tt)))))); apex_above = le_z_yes tt } };
  is_sharp = leb→le _ _ tt;
  two_needed = record { answer = _; is = refl; is_normal = refl; touches = record { start_below = lt_z_yes tt; ways_below = (lt_z_yes tt, (lt_z_yes tt, (lt_z_yes tt, (lt_z_yes tt, tt)))); apex_above = le_z_yes tt } };
  is_turned_away = lt_z_yes tt;
}
