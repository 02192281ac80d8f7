-- The normal of a sound triangle: the size of its sum as it is computed, and of its level parts.
use mathlib.Core.Path.{◌≡◌, ◌∙◌}
use mathlib.Core.Bool.{Bool, true, false}
use Prim.Native.Nat.{ℕ}
use native.Mathlib.Omega.{arith}
use lib.Dec.{lit≤}
use lib.IntN.{ℤ}
use Rattle.integers.specs.Sizes.{Within}
use Rattle.rules.specs.declared.Vector.{Vector}
use Rattle.rules.specs.declared.Levels.{Levels}
use Rattle.rules.specs.declared.Triangle.{Triangle}
use Rattle.rules.specs.Vectors.{◌⊕◌, cross}
use Rattle.rules.specs.Walk.{unless_level, levelled, normal, laid}
use Rattle.laws.specs.Triples.{All}
use Rattle.laws.specs.Frames.{Signs}
use Rattle.laws.specs.Bounds.{Bounded, bounded-is, bounded-wider, bounded-sum, bounded-cross, bounded-lay}
use Rattle.falls.specs.Sizes.{signs-bounded}
use Rattle.choice.specs.Sound.{Sound}
use Rattle.round.specs.Corners.{laid-laid}

module _ (m : Triangle) {a b c : Vector} (ea : a ≡ cross m.m0 m.m1) (eb : b ≡ cross m.m1 m.m2) (ec : c ≡ cross m.m2 m.m0) where
  module _ (h : Sound m) where
    pub two-fit : Bounded 1000000000 a × Bounded 1000000000 b
    two-fit = (bounded-is ea (bounded-wider (bounded-cross h.in0 h.in1) (lit≤ tt)), bounded-is eb (bounded-wider (bounded-cross h.in1 h.in2) (lit≤ tt)))

    pub three-fit : {d : Vector} → d ≡ a ⊕ b → Bounded 1000000000 d × Bounded 1000000000 c
    three-fit ed =
        (bounded-is (ed ∙ (λ i. ea i ⊕ eb i)) (bounded-wider (bounded-sum (bounded-cross h.in0 h.in1) (bounded-cross h.in1 h.in2)) (lit≤ tt)), bounded-is ec (bounded-wider (bounded-cross h.in2 h.in0) (lit≤ tt)))

normal-bounded : {m : Triangle} → Sound m → Bounded 1000000000 (normal m)
unfolding normal
normal-bounded h =
    bounded-wider (bounded-sum (bounded-sum (bounded-cross h.in0 h.in1) (bounded-cross h.in1 h.in2)) (bounded-cross h.in2 h.in0)) (lit≤ tt)

-- with 0 for the parts of level axes
part-bounded : (b : Bool) {k : ℕ} {z : ℤ} → Within k z → Within k (unless_level b z)
part-bounded true h = record { size = omega arith }
part-bounded false h = h

levelled-bounded : (v : Levels) {k : ℕ} {n : Vector} → Bounded k n → Bounded k (levelled v n)
unfolding levelled
levelled-bounded v h = record { in-x = part-bounded v.x h.in-x; in-y = part-bounded v.y h.in-y; in-z = part-bounded v.z h.in-z }

-- as it is computed
pub frame-sound : {m t : Triangle} → t ≡ m → Sound m → Sound t
frame-sound e h = rw e h

pub whole-fits : {m : Triangle} {whole : Vector} → Sound m → whole ≡ normal m → Bounded 1000000000 whole
whole-fits h e = bounded-is e (normal-bounded h)

pub levelled-fits : (v : Levels) {m : Triangle} {whole n : Vector} → Sound m → whole ≡ normal m → n ≡ levelled v whole → Bounded 1000000000 n
levelled-fits v h e f = bounded-is f (levelled-bounded v (whole-fits h e))

-- a triangle that is sound once it is laid back
pub laid-fits : {s : Vector} (m : Triangle) → Signs s → Sound (laid s m) → All (Bounded 1023) m
laid-fits {s} m g h =
    let b = signs-bounded g in
    let twice : All (Bounded 1023) (laid s (laid s m)) = record { of0 = bounded-lay b h.in0; of1 = bounded-lay b h.in1; of2 = bounded-lay b h.in2 } in
    rw (laid-laid s m g) at twice

pub ruleset ends-fit = (signs-bounded, laid-fits, frame-sound, whole-fits, levelled-fits)
