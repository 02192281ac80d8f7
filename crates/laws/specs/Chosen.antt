-- The pair that a round chose is one of those that it asked.
use Rattle.std.proofs.Common.{sym, inl}
use Rattle.std.proofs.Math.Path.{refl, subst}
use Rattle.std.proofs.Math.Logic.{inr}
use Rattle.std.specs.Prelude.{Bool, T}
use Rattle.std.proofs.Math.Bool.{true, false}
use mathlib.Core.List.{List, [], ◌∷◌}
use Rattle.rules.specs.declared.Triangle.{Triangle}
use Rattle.rules.specs.declared.Pair.{Pair}
use Rattle.std.specs.Prelude.{Some as Chosen}
use Rattle.rules.specs.Walk.{Probe, keep, only}
use Rattle.laws.specs.Tests.{Each, In}
use Rattle.laws.specs.Only.{each_of, only-in}
use Rattle.laws.specs.Choosing.{Chose, choice-is}
use Rattle.laws.specs.Looks.{FellOf, RoundOf}

module _ (c : Probe) (m : Triangle) where
  fell-in : (xs fs : List Pair) → FellOf c m xs fs → Each (λ x. In x xs) fs
  unfolding keep
  fell-in [] fs f = subst (Each (λ x. In x [])) (sym f) tt
  fell-in (x ∷ xs) fs f = subst (Each (λ y. In y (x ∷ xs))) (sym f.4) (go f.0 (each_of (λ y. In y xs) (λ y. In y (x ∷ xs)) f.1 (λ y i. inr i) (fell-in xs f.1 f.3)))
    where
      go : (b : Bool) → Each (λ y. In y (x ∷ xs)) f.1 → Each (λ y. In y (x ∷ xs)) (keep b x f.1)
      go true r = (inl refl, r)
      go false r = r

  pub chosen-in : (ps : List Pair) (x : Pair) → RoundOf c ps m (Chosen x) → In x ps
  chosen-in ps x w = subst (Chose (λ y. In y ps) (Unit {0})) (sym w.2) (choice-is (λ y. In y ps) m w.0 (fell-in ps w.0 w.1))

  -- so it passes the test that let them through
  pub chosen-only : (test : Pair → Bool) (xs : List Pair) (x : Pair) → RoundOf c (only test xs) m (Chosen x) → T (test x)
  chosen-only test xs x w = only-in test x xs (chosen-in (only test xs) x w)
