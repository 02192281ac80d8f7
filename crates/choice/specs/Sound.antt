-- What the walk keeps of its triangle: each part within 1023, and determinant 1.
use Rattle.std.specs.Prelude.{◌≡◌, pos}
use Rattle.rules.specs.declared.Triangle.{Triangle}
use Rattle.laws.specs.Triples.{All, det_of}
use Rattle.laws.specs.Bounds.{Bounded}

pub record Sound (m : Triangle) : Type 0 where
  pub in0 : Bounded 1023 m.m0
  pub in1 : Bounded 1023 m.m1
  pub in2 : Bounded 1023 m.m2
  pub unimodular : det_of m ≡ pos 1

pub all-bounded : {m : Triangle} → Sound m → All (Bounded 1023) m
all-bounded h = record { of0 = h.in0; of1 = h.in1; of2 = h.in2 }
