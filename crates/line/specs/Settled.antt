-- What `find` ensures settles its answer: the first part of the text from `at` on ends there,
-- and that part is as long as its end is distant. `read_line` has an equation.
use Rattle.std.specs.Prelude.{◌≡◌, Bool, ℕ, ◌-◌, length, drop}
use Rattle.std.proofs.Math.Path.{refl, ap}
use Rattle.std.proofs.Common.{sym, ◌∙◌, arith, length-drop, length-take-le, ltb-true, ltb-false}
use Rattle.std.proofs.Math.Bool.{true, false}
use mathlib.Core.List.{List, [], ◌∷◌}
use Rattle.std.proofs.Math.Dec.{ltb}
use Rattle.rules.specs.Session.{parts, always}
use Rattle.line.specs.Reading.{stretch, PartEnds}

first : List (List ℕ) → List ℕ
first [] = []
first (part ∷ more) = part

module _ {s : List ℕ} {at mark end : ℕ} (F : PartEnds s at mark end) where
  first_part : first (parts always mark [] (drop at s)) ≡ stretch s at end
  unfolding first
  first_part = by (ltb end (length s)) refl
    where
      by : (t : Bool) → ltb end (length s) ≡ t → first (parts always mark [] (drop at s)) ≡ stretch s at end
      by true e = ap first (F.at_mark (ltb-true end (length s) e) always)
      by false e = ap first (F.at-end (ltb-false end (length s) e) always)

  distance : length (stretch s at end) ≡ end - at
  distance = let w = F.within in length-take-le (end - at) (drop at s) (simp length-drop (omega arith))

pub part-ends-settled : {s : List ℕ} {at mark m n : ℕ} → PartEnds s at mark m → PartEnds s at mark n → m ≡ n
part-ends-settled F G = omega (arith, F.from, G.from, sym (distance F) ∙ ap length (sym (first_part F) ∙ first_part G) ∙ distance G)
