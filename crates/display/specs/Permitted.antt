-- Three numbers that are permitted have sizes up to 1023, so their squares are small parts of a sum that is not zero.
use Rattle.std.specs.Prelude.{◌≡◌, refl, true, not, ◌&&◌, ◌≤◌, eqb, ℤ, nat_abs}
use Rattle.std.proofs.Common.{mul-le-mul, arith}
use Rattle.std.proofs.lemmas.Bool.{eqb-false, not-true}
use Rattle.integers.specs.Tests.{first_of, second-of}
use Rattle.rules.specs.Display.{square, squares, permitted_normal}
use Rattle.range.specs.Ranges.{between-within}
use Rattle.display.specs.Parts.{in_range, Part, Parts}

pub permitted-parts : (x y z : ℤ) → permitted_normal x y z ≡ true → Parts (squares x y z) x y z
unfolding permitted_normal
permitted-parts x y z e =
    let S = squares x y z in
    let size : (n : ℤ) → in_range n ≡ true → nat_abs n ≤ 1023 = λ n h. (between-within 1022 n (rw h tt)).size in
    let nonzero = first_of (not (eqb S 0)) (in_range x && (in_range y && in_range z)) e in
    let within = second-of (not (eqb S 0)) (in_range x && (in_range y && in_range z)) e in
    let rest = second-of (in_range x) (in_range y && in_range z) within in
    let a = size x (first_of (in_range x) (in_range y && in_range z) within) in
    let b = size y (first_of (in_range y) (in_range z) rest) in
    let c = size z (second-of (in_range y) (in_range z) rest) in
    let some = eqb-false S 0 (not-true (eqb S 0) nonzero) in
    let small : S ≤ 3139587 = let f = mul-le-mul a a in let g = mul-le-mul b b in let i = mul-le-mul c c in omega arith in
    let of : (n : ℤ) → square n ≤ S → Part S n = λ n part. record { some = omega arith; small = small; part = part } in
    record { is = refl; first = of x (omega arith); second = of y (omega arith); third = of z (omega arith) }
