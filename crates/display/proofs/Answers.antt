-- Each way out of `lit` and of `display_normal`.
use mathlib.Core.Path.{◌≡◌, sym, ap, subst, subst₃, ◌∙◌}
use mathlib.Core.Bool.{Bool, true, false, not, ◌&&◌}
use mathlib.Core.Logic.{◌≢◌}
use Prim.Native.Nat.{ℕ}
use lib.Dec.{eqb}
use lib.Ieee.{Float}
use lib.IntN.{ℤ}
use borrow.Author.Tests.{eq-eqb, ne_eqb}
use mir.Syntax.{w32}
use mir.Val.{SFits}
use mir.Facts.{to_z-of_z}
use Rattle.integers.specs.Tests.{not-second}
use Rattle.rules.specs.declared.Light.{Light}
use Rattle.rules.specs.Answers.{Display, refused_input}
use Rattle.std.specs.Prelude.{Ok as Lit}
use Rattle.rules.specs.Display.{squares, component, permitted_normal, light, display, DisplayPromise}
use Rattle.display.specs.Parts.{in_range, Shown, Parts}
use Rattle.display.specs.Permitted.{permitted-parts}
use Rattle.display.proofs.Bits.{read_back}

abbrev light-of : Float → Float → Float → Light
light-of a b c = record { x = a; y = b; z = c }

-- ---- `lit`
module _ {x y z : ℤ} (p : SFits w32 x) (q : SFits w32 y) (r : SFits w32 z) where
  pub lit_is : {s : ℕ} {a b c : Float} → Parts s x y z → Shown s (read_back x) a → Shown s (read_back y) b → Shown s (read_back z) c → light-of a b c ≡ light x y z
  unfolding light
  lit_is {s} P A B C = λ i. light-of (of p A i) (of q B i) (of r C i)
    where
      of : {n : ℤ} {f : Float} → SFits w32 n → Shown s (read_back n) f → f ≡ component (squares x y z) n
      of {n} fits F = F.is ∙ ap (component s) (to_z-of_z fits) ∙ ap (λ (S : ℕ). component S n) P.is

  -- ---- `display_normal`: what holds of the bits holds of the numbers
  pub promise-back : {d : Display} → DisplayPromise (read_back x) (read_back y) (read_back z) d → DisplayPromise x y z d
  promise-back {d} P = subst₃ (λ (a b c : ℤ). DisplayPromise a b c d) (to_z-of_z p) (to_z-of_z q) (to_z-of_z r) P

permitted : (x y z : ℤ) {s : ℕ} → s ≡ squares x y z → s ≢ 0 → (in_range x && (in_range y && in_range z)) ≡ true → permitted_normal x y z ≡ true
unfolding permitted_normal
permitted x y z e some h = ap (λ (b : Bool). not b && (in_range x && (in_range y && in_range z))) (ne_eqb (squares x y z) 0 (λ f. some (e ∙ f))) ∙ h

module _ {x y z : ℤ} {s : ℕ} (e : s ≡ squares x y z) where
  dark : permitted_normal x y z ≡ false → DisplayPromise x y z (refused_input 30)
  unfolding display
  dark h = record { is = rw (h, display) }

  pub dark-zero : s ≡ 0 → DisplayPromise x y z (refused_input 30)
  unfolding permitted_normal
  dark-zero h = dark (ap (λ (b : Bool). not b && (in_range x && (in_range y && in_range z))) (eq-eqb (squares x y z) 0 (sym e ∙ h)))

  module _ {t : Bool} (k : t ≡ (in_range x && (in_range y && in_range z))) where
    pub dark-outside : t ≡ false → DisplayPromise x y z (refused_input 30)
    unfolding permitted_normal
    dark-outside h = dark (not-second (not (eqb (squares x y z) 0)) (sym k ∙ h))

    module _ (some : s ≢ 0) (h : t ≡ true) where
      pub lit-asks : Parts s x y z
      lit-asks = subst (λ (S : ℕ). Parts S x y z) (sym e) (permitted-parts x y z (permitted x y z e some (sym k ∙ h)))

      pub shows : {l : Light} → l ≡ light x y z → DisplayPromise x y z (Lit l)
      unfolding display
      shows d = record { is = ap Lit d ∙ sym (rw (permitted x y z e some (sym k ∙ h), display)) }
