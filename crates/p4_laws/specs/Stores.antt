-- Runs of bytes stored in a list.
use Rattle.std.specs.Prelude.{◌≡◌, refl, List, [], ◌∷◌, ℕ, suc, ◌+◌, ◌<◌, length, get_or, drop, set}
use Rattle.std.proofs.Common.{sym, ap, ◌∙◌, arith, length-drop}
use Rattle.std.proofs.lemmas.List.Edits.{sets}
use Rattle.std.proofs.lemmas.List.{set_comm}
use Rattle.text.specs.Places.{drop_here}

-- what stands at a place, and behind it
pub dropped : (s : List ℕ) (i : ℕ) {b : ℕ} {l : List ℕ} → drop i s ≡ b ∷ l → (get_or s i 0 ≡ b) × (drop (i + 1) s ≡ l)
dropped s i {b} {l} e =
    let n = sym (length-drop i s) ∙ ap length e in
    let h : get_or s i 0 ∷ drop (i + 1) s ≡ b ∷ l = sym (drop_here s i (omega arith)) ∙ e in
    (cc, cc)

-- a byte and a run behind it, in either order
pub set-sets : (l : List ℕ) (i j : ℕ) (x : ℕ) (b : List ℕ) → i < j → sets (set l i x) j b ≡ set (sets l j b) i x
set-sets l i j x [] h = refl
set-sets l i j x (y ∷ b) h =
    ap (λ (m : List ℕ). sets m (suc j) b) (set_comm l i j x y (omega arith)) ∙ set-sets (set l j y) i (suc j) x b (omega arith)
