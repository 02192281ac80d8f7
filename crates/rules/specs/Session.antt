-- Document 01, "The wedge program and its session", in its order and words. Bytes: 10 is LF, 32 a space, 45 a minus.
-- These are definitions: nothing here is proved.
use Rattle.std.specs.Prelude.{◌≡◌, Bool, true, false, ◌&&◌, List, [], ◌∷◌, ◌++◌, ℕ, eqb, leb, ℤ, pos, negsuc, neg_ℤ, length, get_or, take, drop}
use Rattle.rules.specs.declared.Vector.{Vector}
use Rattle.rules.specs.declared.Solid.TheVariants.{Wedge as IsWedge}
use Rattle.rules.specs.declared.Accepted.{Accepted}
use Rattle.rules.specs.declared.Refused.{Refused}
use Rattle.rules.specs.Answers.{Pick, Number, Line}
use Rattle.std.specs.Prelude.{Ok as IsAccepted, Err as IsRefused, Some as Whole, None as NoNumber, Some as Asks, None as OtherForm}
use Rattle.rules.specs.Vectors.{vector}
use Rattle.rules.specs.Solids.{between}
use Rattle.rules.specs.Pick.{pick_of}
use Rattle.rules.specs.Decimals.{are_digits, value, signed_decimal}

-- ---- It reads at most 65,536 bytes; what follows is not read, and a line cut there is judged by the bytes that were read
abbrev pub bytes_read : List ℕ → List ℕ
bytes_read input = take 65536 input

-- the parts of a text between its marks, one part begun; `last` says what stands behind the last mark
unfoldable pub parts : (List ℕ → List (List ℕ)) → ℕ → List ℕ → List ℕ → List (List ℕ)
parts last mark begun [] = last begun
parts last mark begun (b ∷ more) = elim (eqb b mark) [
  | true ↦ begun ∷ parts last mark [] more
  | false ↦ parts last mark (begun ++ (b ∷ [])) more
]

-- a last line without LF counts if not empty
abbrev pub if_not_empty : List ℕ → List (List ℕ)
if_not_empty [] = []
if_not_empty (b ∷ more) = (b ∷ more) ∷ []

abbrev pub lines : List ℕ → List (List ℕ)
lines text = parts if_not_empty 10 [] text

-- ---- A line is nine whole numbers parted by single spaces
abbrev pub always : List ℕ → List (List ℕ)
always part = part ∷ []

abbrev pub fields : List ℕ → List (List ℕ)
fields line = parts always 32 [] line

-- 1 to 10 digits
unfoldable pub few_digits : List ℕ → Bool
few_digits part = leb 1 (length part) && (leb (length part) 10 && are_digits part)

-- within 32 signed bits
unfoldable pub within32 : ℤ → Number
within32 z = elim (between (negsuc 2147483647) z (pos 2147483647)) [ true ↦ Whole z | false ↦ NoNumber ]

-- a number is an optional minus and 1 to 10 digits
unfoldable pub signed : (ℕ → ℤ) → List ℕ → Number
signed sign part = elim (few_digits part) [ true ↦ within32 (sign (value 0 part)) | false ↦ NoNumber ]

abbrev pub minus : ℕ → ℤ
minus n = neg_ℤ (pos n)

unfoldable pub number : List ℕ → Number
number part = elim (eqb (get_or part 0 0) 45) [ true ↦ signed minus (drop 1 part) | false ↦ signed pos part ]

-- the first of these fields is a number: go on with it and the others
abbrev pub if_whole : Number → (ℤ → Line) → Line
if_whole (Whole z) k = k z
if_whole NoNumber k = OtherForm

unfoldable pub next : List (List ℕ) → (ℤ → List (List ℕ) → Line) → Line
next [] k = OtherForm
next (part ∷ others) k = if_whole (number part) (λ z. k z others)

-- there is no field behind the ninth
unfoldable pub only_these : List (List ℕ) → Line → Line
only_these [] line = line
only_these (part ∷ others) line = OtherForm

-- a b c h, p, frame, R
unfoldable pub question : List ℕ → Line
question line =
    next (fields line) λ a others. next others λ b others. next others λ c others. next others λ h others.
    next others λ x others. next others λ y others. next others λ z others. next others λ frame others. next others λ reach others.
    only_these others
    (Asks record { wedge = record { a = a; b = b; c = c; h = h }; p = vector x y z; frame = frame; reach = reach })

-- ---- It prints one line for each: "N", normal, steps, looks; or "R", number, place, steps, looks; or "B"
-- a number behind its space
abbrev pub word : ℤ → List ℕ
word z = 32 ∷ signed_decimal z

unfoldable pub three : Vector → List ℕ
three v = word v.x ++ (word v.y ++ word v.z)

unfoldable pub counts : ℕ → ℕ → List ℕ
counts steps looks = word (pos steps) ++ (word (pos looks) ++ (10 ∷ []))

unfoldable pub told_accepted : Accepted → List ℕ
told_accepted a = 78 ∷ (three a.normal ++ counts a.steps a.looks)

unfoldable pub told_refused : Refused → List ℕ
told_refused r = 82 ∷ (word (pos r.number) ++ (three r.place ++ counts r.steps r.looks))

unfoldable pub told : Pick → List ℕ
told (IsAccepted a) = told_accepted a
told (IsRefused r) = told_refused r

-- "B" for a line of another form
unfoldable pub reply : Line → List ℕ
reply (Asks q) = told (pick_of (IsWedge q.wedge) [] q.p q.frame q.reach)
reply OtherForm = 66 ∷ 10 ∷ []

unfoldable pub replies : List (List ℕ) → List ℕ
replies [] = []
replies (line ∷ others) = reply (question line) ++ replies others

unfoldable pub session : List ℕ → List ℕ
session input = replies (lines (bytes_read input))

-- ---- the promise: what is printed stands at the front of the lent output, bytes behind keep their values, and the answer counts them
pub record SessionPromise (input before after : List ℕ) (count : ℕ) : Type 0 where
  pub prints : after ≡ session input ++ drop (length (session input)) before
  pub counted : count ≡ length (session input)
