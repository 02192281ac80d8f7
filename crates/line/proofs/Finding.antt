-- The first mark parts a text as the definition does.
use mathlib.Core.Path.{◌≡◌, refl, sym, ap, subst, ◌∙◌}
use mathlib.Core.Bool.{Bool, true, false}
use mathlib.Core.List.{List, [], ◌∷◌, ◌++◌}
use Prim.Native.Nat.{ℕ, suc, ◌+◌, ◌-◌, ◌≤◌, ◌<◌}
use native.Mathlib.Omega.{arith}
use lib.Dec.{eqb}
use lib.ListN.{length, take, drop, length-drop}
use lib.Seq.{take_all}
use Rattle.std.specs.List.{position_or_len}
use Rattle.std.proofs.lemmas.List.{append-nil, append_assoc, drop-drop}
use Rattle.rules.specs.Session.{parts}
use Rattle.line.specs.Reading.{PartEnds}

abbrev first_place : ℕ → List ℕ → ℕ
first_place mark s = position_or_len (λ b. eqb b mark) s

record Parted (last : List ℕ → List (List ℕ)) (mark : ℕ) (begun s : List ℕ) (n : ℕ) : Type 0 where
  pub within : n ≤ length s
  pub at_mark : n < length s → parts last mark begun s ≡ (begun ++ take n s) ∷ parts last mark [] (drop (suc n) s)
  pub at-end : length s ≤ n → parts last mark begun s ≡ last (begun ++ take n s)

module _ (last : List ℕ → List (List ℕ)) (mark : ℕ) where
  parted : (begun s : List ℕ) → Parted last mark begun s (first_place mark s)
  unfolding parts
  parted begun [] = record { within = omega arith; at_mark = λ h. absurd (omega arith); at-end = λ h. ap last (sym (append-nil begun)) }
  parted begun (b ∷ more) = by (eqb b mark) refl (parted (begun ++ (b ∷ [])) more)
    where
      by : (t : Bool) → eqb b mark ≡ t → Parted last mark (begun ++ (b ∷ [])) more (first_place mark more) → Parted last mark begun (b ∷ more) (first_place mark (b ∷ more))
      by true e rest =
          let none : 0 ≡ first_place mark (b ∷ more) = rw e refl in
          let here : Parted last mark begun (b ∷ more) 0 = record {
            within = omega arith;
            at_mark = λ h. rw (e, parts) (ap (λ (p : List ℕ). p ∷ parts last mark [] more) (sym (append-nil begun)));
            at-end = λ h. absurd (omega arith);
          } in
          subst (Parted last mark begun (b ∷ more)) none here
      by false e rest =
          let n = first_place mark more in
          let longer = append_assoc begun (b ∷ []) (take n more) in
          let one-more : suc n ≡ first_place mark (b ∷ more) = rw e (omega arith) in
          let here : Parted last mark begun (b ∷ more) (suc n) = record {
            within = let w = rest.within in omega arith;
            at_mark = λ h. rw (e, parts) (rest.at_mark (omega arith) ∙ ap (λ (p : List ℕ). p ∷ parts last mark [] (drop (suc n) more)) longer);
            at-end = λ h. rw (e, parts) (rest.at-end (omega arith) ∙ ap last longer);
          } in
          subst (Parted last mark begun (b ∷ more)) one-more here

pub part-ends : {s : List ℕ} {at mark n : ℕ} → at ≤ length s → n ≡ first_place mark (take (length s - at) (drop at s)) → PartEnds s at mark (at + n)
part-ends {s} {at} {mark} {n} h found =
    let l = length-drop at s in
    let first = first_place mark (drop at s) in
    let e : n ≡ first = found ∙ ap (first_place mark) (take_all (length s - at) (drop at s) (omega arith)) in
    let within = (parted (λ p. p ∷ []) mark [] (drop at s)).within in
    let same : at + n - at ≡ first = omega arith in
    let behind : drop (suc first) (drop at s) ≡ drop (at + n + 1) s = drop-drop (suc first) at s ∙ ap (λ (k : ℕ). drop k s) (omega arith) in
    record {
      from = omega arith;
      within = omega arith;
      at_mark = λ k last. rw same ((parted last mark [] (drop at s)).at_mark (omega arith) ∙ ap (λ (t : List ℕ). take first (drop at s) ∷ parts last mark [] t) behind);
      at-end = λ k last. rw same ((parted last mark [] (drop at s)).at-end (omega arith));
    }
