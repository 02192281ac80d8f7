-- Each way out of `read_line`: a question, with a field behind it or without, or none.
use mathlib.Core.Path.{◌≡◌, refl, sym, subst, ◌∙◌}
use mathlib.Core.Bool.{Bool, true, false}
use mathlib.Core.List.{List, [], ◌∷◌, ◌++◌}
use Prim.Native.Nat.{ℕ}
use lib.Dec.{eqb}
use Rattle.std.proofs.Common.{Bor}
use Rattle.std.specs.Prelude.{T, Option, Some, None}
use Rattle.std.specs.Option.{is_some}
use Rattle.rules.specs.declared.Question.{Question}
use Rattle.rules.specs.Answers.{Line}
use Rattle.rules.specs.Session.{parts, always, only_these, question}
use Rattle.line.specs.declared.Fields.{Fields}
use Rattle.line.specs.Reading.{then_read, no_more, next_wedge, next_three, next_question, fields_of, Reads, LineRead}

-- a text has a field always
some-field : (mark : ℕ) (begun s : List ℕ) (l : Line) → only_these (parts always mark begun s) l ≡ None
unfolding parts only_these
some-field mark begun [] l = refl
some-field mark begun (b ∷ more) l = by (eqb b mark) refl (some-field mark (begun ++ (b ∷ [])) more l)
  where
    by : (t : Bool) → eqb b mark ≡ t → only_these (parts always mark (begun ++ (b ∷ [])) more) l ≡ None → only_these (parts always mark begun (b ∷ more)) l ≡ None
    by true e rec = rw (e, parts)
    by false e rec = rw (e, parts) rec

only-the-rest : (rest : Option (Bor (List ℕ))) (l : Line) → is_some rest ≡ true → only_these (fields_of rest) l ≡ None
only-the-rest None l e = absurd (subst T (sym e) tt)
only-the-rest (Some rest) l e = some-field 32 [] rest.now l

no-rest : (rest : Option (Bor (List ℕ))) (l : Line) → is_some rest ≡ false → only_these (fields_of rest) l ≡ l
unfolding only_these
no-rest None l e = refl
no-rest (Some rest) l e = absurd (subst T e tt)

module _ {line : Bor (List ℕ)} {t : Fields} where
  pub no_question : {r : Line} → Reads next_question (record { rest = Some line }) None t → r ≡ None → LineRead line.now r
  unfolding question then_read no_more next_wedge next_three next_question
  no_question R e = record { is = e ∙ sym (R.is (λ q others. only_these others (Some q))) }

  module _ {q : Question} (R : Reads next_question (record { rest = Some line }) (Some q) t) where
    asked : question line.now ≡ only_these (fields_of t.rest) (Some q)
    unfolding question then_read no_more next_wedge next_three next_question
    asked = R.is (λ q others. only_these others (Some q))

    pub more_behind : is_some t.rest ≡ true → LineRead line.now None
    more_behind e = record { is = sym (asked ∙ only-the-rest t.rest (Some q) e) }

    pub asks : is_some t.rest ≡ false → LineRead line.now (Some q)
    asks e = record { is = sym (asked ∙ no-rest t.rest (Some q) e) }
