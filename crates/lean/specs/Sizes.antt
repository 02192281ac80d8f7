-- What a caller may take for granted of an answer that can be measured, of its squares and of the last power: they are low.
use Rattle.std.specs.Prelude.{◌≡◌, true, List, [], ◌∷◌, ℕ, ◌+◌, ◌*◌, ◌≤◌, T, leb, nat_abs}
use Rattle.std.proofs.Common.{arith, leb→le, lit≤}
use Rattle.std.proofs.Math.Facts.{and_yes}
use Rattle.rules.specs.declared.Vector.{Vector}
use Rattle.rules.specs.declared.Accepted.{Accepted as AcceptedPick}
use Rattle.rules.specs.Walk.{powers}
use Rattle.rules.specs.Lean.{squared, last, last_power, within, measurable}
use Rattle.laws.specs.Triples.{All}
use Rattle.laws.specs.Bounds.{Bounded, within-dot}
use Rattle.laws.specs.Powers.{UpTo, powers-reach}

-- ---- measurable answers
within-bounded : {most : ℕ} {v : Vector} → T (within most v) → Bounded most v
unfolding within
within-bounded {most} {v} t =
    let h = and_yes (leb (nat_abs v.x) most) _ t in
    let k = and_yes (leb (nat_abs v.y) most) (leb (nat_abs v.z) most) h.1 in
    record { in-x = record { size = leb→le _ most h.0 }; in-y = record { size = leb→le _ most k.0 }; in-z = record { size = leb→le _ most k.1 } }

pub record Measured (a : AcceptedPick) : Type 0 where
  pub normal-low : Bounded 256 a.normal
  pub triangle-low : All (Bounded 2046) a.triangle

pub measured : {a : AcceptedPick} → measurable a ≡ true → Measured a
unfolding measurable
measured {a} e =
    let all : T (measurable a) = rw e tt in
    let n = and_yes (within 256 a.normal) _ all in
    let k = and_yes (within 2046 a.triangle.m0) _ n.1 in
    let l = and_yes (within 2046 a.triangle.m1) _ k.1 in
    let m = and_yes (within 2046 a.triangle.m2) _ l.1 in
    record { normal-low = within-bounded n.0; triangle-low = record { of0 = within-bounded k.0; of1 = within-bounded l.0; of2 = within-bounded m.0 } }

-- ---- squares
pub squared-low : {n : ℕ} {v : Vector} → Bounded n v → squared v ≤ n * n + n * n + n * n
unfolding squared
squared-low h = (within-dot h h).size

-- ---- the last power
last-low : (R l : ℕ) (ls : List ℕ) → UpTo R l ls → l ≤ 512 → R ≤ 256 → last ls ≤ 512
unfolding last
last-low R l [] h i r = absurd h
last-low R l (k ∷ []) h i r = omega (arith, h.0)
last-low R l (k ∷ j ∷ ks) h i r = last-low R (l + l) (j ∷ ks) h.2 (omega (arith, h.0, h.1)) r

pub last-power-low : (R : ℕ) → R ≤ 256 → last_power R ≤ 512
unfolding last_power
last-power-low R h = last-low R 1 (powers R) (powers-reach R) (lit≤ tt) h
