-- What a permitted solid and a point of its box give, as sizes. Every box lies in the cube of side 1024, so whatever is looked at inside lies there.
use Rattle.std.specs.Prelude.{◌≡◌, false, List, ℕ, T, ℤ, pos, negsuc}
use Rattle.std.proofs.Common.{sym, ◌∙◌, arith}
use Rattle.std.proofs.Math.Facts.{and_yes}
use Rattle.integers.specs.Order.{parts}
use Rattle.integers.specs.Sizes.{Within, sizes}
use Rattle.rules.specs.declared.Vector.{Vector}
use Rattle.rules.specs.declared.Wedge.{Wedge}
use Rattle.rules.specs.declared.Solid.{Solid}
use Rattle.rules.specs.declared.Solid.TheVariants.{Wedge as IsWedge}
use Rattle.rules.specs.declared.Look.{Look}
use Rattle.rules.specs.declared.Look.TheVariants.{Empty}
use Rattle.rules.specs.Solids.{between, permitted_wedge, look}
use Rattle.range.specs.Ranges.{between-within}
use Rattle.laws.specs.Bounds.{Bounded}
use Rattle.laws.specs.Ranges.{Between}
use Rattle.laws.specs.Tests.{is_true}
use Rattle.laws.specs.Boxes.{look-inside, look-as, solid-cube}
use Rattle.solid.specs.Asks.{PermittedSolid, InBoxOf, WedgeAsks}

pub wedge-asks : {w : Wedge} {bytes : List ℕ} → PermittedSolid (IsWedge w) bytes → WedgeAsks w
unfolding permitted_wedge
wedge-asks {w} h =
    let t : T (permitted_wedge w) = rw h.is tt in
    let a = and_yes (between (negsuc 999) w.a (pos 1000)) _ t in
    let b = and_yes (between (negsuc 999) w.b (pos 1000)) _ a.1 in
    let c = and_yes (between (negsuc 999) w.c (pos 1000)) _ b.1 in
    record {
      in-a = between-within 999 w.a a.0;
      in_b = between-within 999 w.b b.0;
      in_c = between-within 999 w.c c.0;
      in-h = between-within 3999999 w.h c.1;
    }

-- ---- a point of the box lies in the cube of side 1024
pub inside-bounded : {s : Solid} {bytes : List ℕ} {p : Vector} → PermittedSolid s bytes → InBoxOf s p → Bounded 1023 p
inside-bounded {s} {bytes} {p} h i =
    let c = solid-cube s bytes (rw h.is tt) p (rw (look-inside s bytes p, i.is) tt) in
    record { in-x = size c.of_x; in-y = size c.of_y; in-z = size c.of_z }
  where
    size : {x : ℤ} → Between 1023 x → Within 1023 x
    size h = omega (arith, parts, sizes)

-- and what is looked at and empty is a point of the box
pub empty-bounded : {s : Solid} {bytes : List ℕ} {p : Vector} {l : Look} → PermittedSolid s bytes → l ≡ look s bytes p → l ≡ Empty → Bounded 1023 p
empty-bounded {s} {bytes} {p} h e f = inside-bounded h (record { is = is_true _ (look-as s bytes p false (sym e ∙ f)).0 })
