-- Identities over ℤ in a line: `byring (x ∷ y ∷ []) (search sides depth 40 fits 5000) tt`, where the list has the atoms of both sides.
-- `search` writes the term of their difference: by a rule for each operation, and from the atoms, which it is handed (`Given`).
use Rattle.std.specs.Prelude.{◌≡◌, List, [], ◌∷◌, T, ℤ, ◌+ℤ◌, ◌-ℤ◌, ◌*ℤ◌}
use Rattle.std.proofs.Common.{sym, ap, ◌∙◌}
use Rattle.std.proofs.Math.IntN.{+ℤ-neg_ℤ_cancel}
use Rattle.integers.specs.Laws.{same-of-difference}
use Rattle.integers.specs.Ring.{Place, here, there, Term, atom, literal, negative, sum, product, opposite, vanishes?, vanishes}

pub ruleset sides = (sum, product, opposite, literal, negative)

module _ (ρ : List ℤ) (x : ℤ) where
  -- a term for x, from one for each of the atoms σ
  abbrev pub Given : List ℤ → Type 0
  Given [] = Term ρ x
  Given (z ∷ σ) = Term ρ z → Given σ

  abbrev pub supply : (σ : List ℤ) → ((z : ℤ) → Place σ z → Place ρ z) → Given σ → Term ρ x
  supply [] f e = e
  supply (z ∷ σ) f e = supply σ (λ u p. f u (there p)) (e (atom (f z here)))

pub byring : (ρ : List ℤ) {x y : ℤ} (e : Given ρ (x -ℤ y) ρ) → T (vanishes? (supply ρ (x -ℤ y) ρ (λ z p. p) e)) → x ≡ y
byring ρ {x} {y} e t = same-of-difference x y (vanishes (supply ρ (x -ℤ y) ρ (λ z p. p) e) t)

-- an equation that follows from p ≡ q: x − y is k times p − q. For two hypotheses, twice
pub by-eq : {x y p q : ℤ} (k : ℤ) → p ≡ q → x +ℤ k *ℤ q ≡ y +ℤ k *ℤ p → x ≡ y
by-eq {x} {y} {p} {q} k h e =
    sym (+ℤ-neg_ℤ_cancel x (k *ℤ q)) ∙ ap (λ z. z -ℤ k *ℤ q) (e ∙ ap (λ z. y +ℤ k *ℤ z) h) ∙ +ℤ-neg_ℤ_cancel y (k *ℤ q)
