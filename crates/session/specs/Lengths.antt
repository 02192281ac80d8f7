-- A line that asks has 17 bytes at least: nine numbers of a digit each and eight spaces. Fields weigh what they are long, and one each for what parts them;
-- every number that is read makes the rest lighter by two.
use Rattle.std.specs.Prelude.{◌≡◌, refl, Bool, true, false, List, [], ◌∷◌, ◌++◌, ℕ, suc, ◌+◌, ◌≤◌, eqb, ℤ, length}
use Rattle.std.proofs.Common.{ap, ◌∙◌, zero-add, arith, length-append}
use Rattle.rules.specs.Answers.{Number, Line}
use Rattle.std.specs.Prelude.{Some as Whole, None as NoNumber, Some as Asks, None as OtherForm}
use Rattle.rules.specs.declared.Question.{Question}
use Rattle.rules.specs.Session.{parts, always, few_digits, signed, number, if_whole, next, question}

weigh : List (List ℕ) → ℕ
weigh [] = 0
weigh (part ∷ others) = suc (length part) + weigh others

weigh-fields : (mark : ℕ) (begun s : List ℕ) → weigh (parts always mark begun s) ≡ suc (length begun + length s)
unfolding weigh parts
weigh-fields mark begun [] = omega arith
weigh-fields mark begun (b ∷ more) = by (eqb b mark) refl (weigh-fields mark [] more) (weigh-fields mark (begun ++ (b ∷ [])) more)
  where
    by : (t : Bool) → eqb b mark ≡ t → weigh (parts always mark [] more) ≡ suc (0 + length more) → weigh (parts always mark (begun ++ (b ∷ [])) more) ≡ suc (length (begun ++ (b ∷ [])) + length more)
        → weigh (parts always mark begun (b ∷ more)) ≡ suc (length begun + suc (length more))
    by true e cut on = rw (e, parts) (omega arith)
    by false e cut on = let l = length-append begun (b ∷ []) in rw (e, parts) (omega arith)

-- ---- one number is read
record Read (fs : List (List ℕ)) (k : ℤ → List (List ℕ) → Line) (q : Question) : Type 0 where
  z : ℤ
  others : List (List ℕ)
  goes : k z others ≡ Asks q
  lighter : suc (suc (weigh others)) ≤ weigh fs

other-form : {A : Type 0} {q : Question} → OtherForm ≡ Asks q → A
other-form e = let z : ◌≡◌ {A = ℕ} 0 1 = cc in absurd (omega arith)

reads : (fs : List (List ℕ)) (k : ℤ → List (List ℕ) → Line) (q : Question) → next fs k ≡ Asks q → Read fs k q
unfolding next weigh number signed few_digits
reads [] k q e = other-form e
reads ([] ∷ others) k q e = other-form e
reads ((b ∷ more) ∷ others) k q e = by (number (b ∷ more)) e
  where
    by : (n : Number) → if_whole n (λ z. k z others) ≡ Asks q → Read ((b ∷ more) ∷ others) k q
    by (Whole z) h = record { z = z; others = others; goes = h; lighter = omega arith }
    by NoNumber h = other-form h

nine : {a b c d e f g h i j n : ℕ} → suc (suc b) ≤ a → suc (suc c) ≤ b → suc (suc d) ≤ c → suc (suc e) ≤ d → suc (suc f) ≤ e → suc (suc g) ≤ f → suc (suc h) ≤ g → suc (suc i) ≤ h → suc (suc j) ≤ i → a ≡ suc n → 17 ≤ n
nine p q r s t u v w x y = omega arith

pub asks-long : (line : List ℕ) (q : Question) → question line ≡ Asks q → 17 ≤ length line
unfolding question
asks-long line q e =
    let a = reads _ _ q e in
    let b = reads _ _ q a.goes in
    let c = reads _ _ q b.goes in
    let d = reads _ _ q c.goes in
    let f = reads _ _ q d.goes in
    let g = reads _ _ q f.goes in
    let h = reads _ _ q g.goes in
    let i = reads _ _ q h.goes in
    let j = reads _ _ q i.goes in
    nine a.lighter b.lighter c.lighter d.lighter f.lighter g.lighter h.lighter i.lighter j.lighter (weigh-fields 32 [] line ∙ ap suc (zero-add (length line)))
