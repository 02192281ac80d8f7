-- A component: its size by the root, and its sign by the divisor.
use mathlib.Core.Path.{◌≡◌, refl, sym, ap, ◌∙◌}
use mathlib.Core.Bool.{Bool, true, false}
use Prim.Native.Nat.{ℕ, ◌*◌}
use native.Mathlib.Omega.{arith}
use lib.IntN.{ℤ, pos, negsuc}
use lib.Signed.{lt_z}
use lib.Ieee.{Float, binary32, round, div, neg, of_bits, fin}
use mir.Syntax.{w32}
use mir.Val.{SFits}
use mir.Facts.{to_z-of_z}
use Rattle.integers.specs.Order.{parts}
use Rattle.integers.specs.Machine.{lt_yes, lt_no}
use Rattle.rules.specs.Display.{square, largest, size_of, component, is_negative}
use Rattle.display.specs.Parts.{Square, Size, Whole, Shown}
use Rattle.display.specs.Roots.{largest-within}
use Rattle.display.specs.Floats.{divided}
use Rattle.display.proofs.Bits.{read_back}

pub size_is : {s r m : ℕ} {n : ℤ} → SFits w32 n → Square (read_back n) r → m ≡ largest s (r * 1073741824) 32768 → Size s n m
unfolding size_of
size_is {s} {r} {m} {n} b Q e = record {
  is = e ∙ ap (λ (q : ℕ). largest s (q * 1073741824) 32768) (Q.is ∙ ap square (to_z-of_z b));
  within = rw e (largest-within s (r * 1073741824) 32768);
}

negative : (n : ℤ) → lt_z n (pos 0) ≡ true → is_negative n ≡ true
negative (pos k) e = let h = lt_yes (pos k) (pos 0) e in absurd (omega (arith, parts))
negative (negsuc k) e = refl

positive : (n : ℤ) → lt_z n (pos 0) ≡ false → is_negative n ≡ false
positive (pos k) e = refl
positive (negsuc k) e = let h = lt_no (negsuc k) (pos 0) e in absurd (omega (arith, parts))

module _ {s m : ℕ} {n : ℤ} {f : Float} (b : SFits w32 n) (e : Size s (read_back n) m) (v : Whole m f) where
  with-sign : (sign : Bool) → is_negative n ≡ sign → div binary32 f (fin sign 1 (pos 15)) ≡ component s n
  unfolding component
  with-sign sign g =
      divided sign f m v.value
      ∙ ap (λ (k : ℕ). round binary32 sign k 32768) (e.is ∙ ap (size_of s) (to_z-of_z b))
      ∙ ap (λ (t : Bool). round binary32 t (size_of s n) 32768) (sym g)

  pub shown-below : lt_z (read_back n) (pos 0) ≡ true → Shown s n (div binary32 f (neg (of_bits binary32 1191182336)))
  unfolding neg of_bits
  shown-below t = record { is = with-sign true (negative n (rw (to_z-of_z b) at t)) }

  pub shown-from-zero : lt_z (read_back n) (pos 0) ≡ false → Shown s n (div binary32 f (of_bits binary32 1191182336))
  unfolding of_bits
  shown-from-zero t = record { is = with-sign false (positive n (rw (to_z-of_z b) at t)) }
