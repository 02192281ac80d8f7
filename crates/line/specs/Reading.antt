-- What the functions that read a line find, told by the session's definitions.
use Rattle.std.specs.Prelude.{◌≡◌, true, false, List, [], ◌∷◌, ℕ, ◌+◌, ◌-◌, ◌≤◌, ◌<◌, ℤ, pos, Option, Some, None, length, take, drop}
use Rattle.std.proofs.Common.{Bor}
use Rattle.rules.specs.declared.Wedge.{Wedge}
use Rattle.rules.specs.declared.Vector.{Vector}
use Rattle.rules.specs.declared.Question.{Question}
use Rattle.rules.specs.Answers.{Number, Line}
use Rattle.std.specs.Prelude.{None as OtherForm}
use Rattle.rules.specs.Vectors.{vector}
use Rattle.rules.specs.Decimals.{value}
use Rattle.rules.specs.Session.{parts, few_digits, number, fields, next, question}
use Rattle.line.specs.declared.Fields.{Fields}

-- the bytes from place `at` up to place `end`
abbrev pub stretch : List ℕ → ℕ → ℕ → List ℕ
stretch s at end = take (end - at) (drop at s)

-- ---- the part that begins at place `at` ends at place `end`: at a mark, or with the text
pub record PartEnds (s : List ℕ) (at mark end : ℕ) : Type 0 where
  pub from : at ≤ end
  pub within : end ≤ length s
  pub at_mark : end < length s → (last : List ℕ → List (List ℕ)) → parts last mark [] (drop at s) ≡ stretch s at end ∷ parts last mark [] (drop (end + 1) s)
  pub at-end : length s ≤ end → (last : List ℕ → List (List ℕ)) → parts last mark [] (drop at s) ≡ last (stretch s at end)

-- ---- numbers
unfoldable pub digits_of : List ℕ → Option ℤ
digits_of part = elim (few_digits part) [ true ↦ Some (pos (value 0 part)) | false ↦ None ]

pub record NumberRead (part : List ℕ) (r : Number) : Type 0 where
  pub is : r ≡ number part

-- ---- what is read of a line's fields goes on with what was read and the other fields, or the line is of another form
abbrev pub Reading : Type 0 → Type 0
Reading A = List (List ℕ) → (A → List (List ℕ) → Line) → Line

unfoldable pub then_read : {A B : Type 0} → Reading A → (A → Reading B) → Reading B
then_read first second fs k = first fs λ a others. second a others k

unfoldable pub no_more : {A : Type 0} → A → Reading A
no_more a fs k = k a fs

unfoldable pub next_wedge : Reading Wedge
next_wedge = then_read next λ a. then_read next λ b. then_read next λ c. then_read next λ h. no_more (record { a = a; b = b; c = c; h = h })

unfoldable pub next_three : Reading Vector
next_three = then_read next λ x. then_read next λ y. then_read next λ z. no_more (vector x y z)

unfoldable pub next_question : Reading Question
next_question =
    then_read next_wedge λ wedge. then_read next_three λ p. then_read next λ frame. then_read next λ reach.
    no_more (record { wedge = wedge; p = p; frame = frame; reach = reach })

-- the fields that are left to read
abbrev pub fields_of : Option (Bor (List ℕ)) → List (List ℕ)
fields_of None = []
fields_of (Some rest) = fields rest.now

abbrev pub left : Fields → List (List ℕ)
left fs = fields_of fs.rest

abbrev pub going-on : {A : Type 0} → Option A → (A → Line) → Line
going-on None k = OtherForm
going-on (Some a) k = k a

pub record Reads {A : Type 0} (reading : Reading A) (before : Fields) (r : Option A) (after : Fields) : Type 0 where
  pub is : (k : A → List (List ℕ) → Line) → reading (left before) k ≡ going-on r (λ a. k a (left after))

pub record LineRead (line : List ℕ) (r : Line) : Type 0 where
  pub is : r ≡ question line
