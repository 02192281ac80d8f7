-- The lean of an accepted pick, by the tests of the reach and of the answer; the reach is read back from bits.
use mathlib.Core.Path.{◌≡◌, refl, sym, ◌∙◌}
use mathlib.Core.Bool.{Bool, true, false, ◌&&◌}
use Prim.Native.Nat.{ℕ, ◌≤◌}
use native.Mathlib.Omega.{arith}
use lib.IntN.{ℤ, pos, nat_abs}
use mir.Syntax.{w32}
use mir.Val.{SFits, to_z, of_z}
use mir.Facts.{to_z-of_z}
use Rattle.rules.specs.declared.Accepted.{Accepted as AcceptedPick}
use Rattle.rules.specs.declared.Refused.{Refused as RefusedPick}
use Rattle.rules.specs.Answers.{Pick, refused_input}
use Rattle.std.specs.Prelude.{Ok as Accepted, Err as Refused, Ok as Known}
use Rattle.rules.specs.declared.Bound.{Bound}
use Rattle.rules.specs.Solids.{between}
use Rattle.rules.specs.Lean.{measurable, last_power, bound_at, lean_of, LeanPromise}
use Rattle.range.specs.Ranges.{between-naturals}
use Rattle.lean.specs.Sizes.{last-power-low}

abbrev bits : ℤ → ℤ
bits z = to_z w32 (of_z w32 z)

pub refused-promised : {pick : Pick} {reach : ℤ} {r : RefusedPick} → pick ≡ Refused r → LeanPromise pick reach (refused_input 35)
unfolding lean_of
refused-promised p = record { is = rw p refl }

module _ (reach : ℤ) {b : Bool} (e : b ≡ between (pos 1) (bits reach) (pos 256)) where
  pub reach-low : {n : ℕ} → b ≡ true → n ≡ nat_abs (bits reach) → n ≤ 256
  reach-low t q = let h = between-naturals 1 256 (bits reach) (rw (sym e ∙ t) tt) in omega (arith, h.1, q)

  pub power-low : {n power : ℕ} → b ≡ true → n ≡ nat_abs (bits reach) → power ≡ last_power n → power ≤ 512
  power-low {n} t q l = omega (arith, l, last-power-low n (reach-low t q))

  module _ {pick : Pick} {a : AcceptedPick} (p : pick ≡ Accepted a) (s : SFits w32 reach) where
    tested : {x : Bool} → b ≡ x → between (pos 1) reach (pos 256) ≡ x
    tested t = sym (rw (to_z-of_z s) at e) ∙ t

    pub unreached-promised : b ≡ false → LeanPromise pick reach (refused_input 35)
    unfolding lean_of
    unreached-promised t = record { is = rw (p, lean_of, ◌&&◌, tested t) refl }

    module _ (t : b ≡ true) {m : Bool} (k : m ≡ measurable a) where
      pub unmeasured-promised : m ≡ false → LeanPromise pick reach (refused_input 35)
      unfolding lean_of
      unmeasured-promised u = record { is = rw (p, lean_of, ◌&&◌, tested t, sym k ∙ u) refl }

      pub known-promised : m ≡ true → {n power : ℕ} {r : Bound} → n ≡ nat_abs (bits reach) → power ≡ last_power n → r ≡ bound_at power a → LeanPromise pick reach (Known r)
      unfolding lean_of
      known-promised u q l i = record { is = rw (p, lean_of, ◌&&◌, tested t, sym k ∙ u, i, l, q, to_z-of_z s) refl }

pub ruleset promised = (refused-promised, unreached-promised, unmeasured-promised, known-promised)
