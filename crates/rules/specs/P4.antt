-- Document 01, "P4 stacks", in its order and words, with document 02's comments that touch (2026-02). These are definitions: nothing here is proved.
use Rattle.std.specs.Prelude.{◌≡◌, Bool, true, false, not, ◌||◌, ◌&&◌, List, [], ◌∷◌, ◌++◌, ℕ, zero, suc, ◌+◌, ◌-◌, ◌*◌, ◌/◌, ◌^◌, leb, ltb, eqb, pos, nat_abs, length, get_or, take, drop}
use Rattle.rules.specs.declared.Stack.{Stack}
use Rattle.rules.specs.Answers.{Reading, Writing, refused_stack}
use Rattle.std.specs.Prelude.{Ok as Read, Ok as Written}
use Rattle.rules.specs.Solids.{row_bytes, slice_bytes, stack_bytes, permitted_stack}
use Rattle.rules.specs.Decimals.{is_digit, decimal}

-- what is read or judged: a value, or a refusal with its number and the number returned
pub data Judged (A : Type 0) : Type 0 where
  good : A → Judged A
  wrong : ℕ → ℕ → Judged A

infixr 1 ◌>>=◌ ◌>>◌
-- one after another, front to back: the first refusal is given
unfoldable pub ◌>>=◌ : {A B : Type 0} → Judged A → (A → Judged B) → Judged B
good a >>= k = k a
wrong number place >>= k = wrong number place

abbrev pub ◌>>◌ : {A B : Type 0} → Judged A → Judged B → Judged B
a >> b = a >>= λ _. b

-- go on if the test holds, else refuse
unfoldable pub judge : Bool → ℕ → ℕ → Judged (Unit {0})
judge true number place = good tt
judge false number place = wrong number place

-- ---- A header. A place is an offset in the whole input s; behind its end `get_or` gives 0, which no header has,
-- so the place of a byte that is missing is the input's length (theorem `refusal-inside`)

-- the word stands at the front of some bytes
unfoldable pub stands : List ℕ → List ℕ → Bool
stands [] bytes = true
stands (b ∷ bs) [] = false
stands (b ∷ bs) (c ∷ cs) = eqb c b && stands bs cs

-- the bytes "P4"
abbrev pub magic : List ℕ
magic = 80 ∷ 52 ∷ []

-- CR, LF
unfoldable pub is_end : ℕ → Bool
is_end b = eqb b 13 || eqb b 10

-- White space is space, TAB, CR, LF
unfoldable pub is_white : ℕ → Bool
is_white b = eqb b 32 || (eqb b 9 || is_end b)

-- a comment, in bytes that begin with its # at place `at`: through the next CR or LF, and the place past that.
-- One that never ends is refused where the bytes end
unfoldable pub comment_at : List ℕ → ℕ → Judged ℕ
comment_at [] at = wrong 22 at
comment_at (b ∷ bs) at = elim (is_end b) [ true ↦ good (at + 1) | false ↦ comment_at bs (at + 1) ]

-- the white space required at a place, and the place past it: one white space byte or, by document 02's 2026-02,
-- a comment that begins there, whose line end counts as that byte
unfoldable pub white : List ℕ → ℕ → Judged ℕ
white s at = elim (is_white (get_or s at 0)) [
  | true ↦ good (at + 1)
  | false ↦ do
    judge (eqb (get_or s at 0) 35) 22 at
    comment_at (drop at s) at
]

-- any mix of white space and comments, in bytes that begin at place `at`: the place past it.
-- A comment runs from # through the next CR or LF; the first argument says whether one is open
unfoldable pub mix : Bool → List ℕ → ℕ → ℕ
mix comment [] at = at
mix true (b ∷ bs) at = mix (not (is_end b)) bs (at + 1)
mix false (b ∷ bs) at = elim (is_white b) [
  | true ↦ mix false bs (at + 1)
  | false ↦ elim (eqb b 35) [ true ↦ mix true bs (at + 1) | false ↦ at ]
]

-- Numbers are decimal digits; leading zeros may stand: the value of the digits at the front, after those of value v, and the place past them
unfoldable pub digits_at : ℕ → List ℕ → ℕ → ℕ × ℕ
digits_at v [] at = (v, at)
digits_at v (b ∷ bs) at = elim (is_digit b) [ true ↦ digits_at (v * 10 + (b - 48)) bs (at + 1) | false ↦ (v, at) ]

pub record Field : Type 0 where
  pub value : ℕ
  pub next : ℕ

-- what follows the white space that a gap begins with: the rest of the gap, digits and the white space required behind them.
-- The number is judged once that was seen: from 1 to `most`, else refused with this refusal number at its first digit
unfoldable pub field_at : ℕ → ℕ → List ℕ → ℕ → Judged Field
field_at most number s at =
    let first = mix false (drop at s) at in
    let digits = digits_at 0 (drop first s) first in do
      judge (ltb first digits.1) 22 first
      next ← white s digits.1
      judge (leb 1 digits.0 && leb digits.0 most) number first
      good (record { value = digits.0; next = next })

pub record Header : Type 0 where
  pub width : ℕ
  pub height : ℕ
  pub next : ℕ

-- "P4", a gap, width, a gap, height, one white space byte: each gap's first and that last one are what `white` takes
unfoldable pub header_at : List ℕ → ℕ → Judged Header
header_at s at = do
  judge (stands magic (drop at s)) 21 at
  gap ← white s (at + 2)
  width ← field_at 256 23 s gap
  height ← field_at 256 23 s width.next
  good (record { width = width.value; height = height.value; next = height.next })

-- ---- Rows with padding bits zero

-- the bits that pad a row
unfoldable pub padding : ℕ → ℕ
padding width = row_bytes width * 8 - width

-- a row's last byte: the highest bit is leftmost, so its lowest bits pad
unfoldable pub cut : ℕ → ℕ → ℕ
cut width b = b / 2 ^ padding width * 2 ^ padding width

-- the row at the front of some bytes
unfoldable pub row : ℕ → List ℕ → List ℕ
row width bytes = let last = row_bytes width - 1 in take last bytes ++ (cut width (get_or bytes last 0) ∷ [])

-- so many rows
unfoldable pub rows : ℕ → ℕ → List ℕ → List ℕ
rows zero width bytes = []
rows (suc more) width bytes = row width bytes ++ rows more width (drop (row_bytes width) bytes)

-- ---- A stack is 1 to 256 images of equal size, nothing between or after them

-- the image at a place, in a stack whose first has this width and height: the place of its rows
unfoldable pub image_at : ℕ → ℕ → List ℕ → ℕ → Judged ℕ
image_at width height s at = do
  header ← header_at s at
  judge (eqb header.width width && eqb header.height height) 24 at
  judge (leb (header.next + slice_bytes width height) (length s)) 25 (length s)
  good header.next

-- how many images follow and their rows, if `left` more are allowed
unfoldable pub images_at : ℕ → ℕ → ℕ → List ℕ → ℕ → Judged (ℕ × List ℕ)
images_at zero width height s at = do
  judge (eqb at (length s)) 26 at
  good (0, [])
images_at (suc left) width height s at = elim (eqb at (length s)) [
  | true ↦ good (0, [])
  | false ↦ do
    place ← image_at width height s at
    more ← images_at left width height s (place + slice_bytes width height)
    good (suc more.0, rows height width (drop place s) ++ more.1)
]

abbrev pub sizes : ℕ → ℕ → ℕ → Stack
sizes width height depth = record { width = pos width; height = pos height; depth = pos depth }

pub record Contents : Type 0 where
  pub stack : Stack
  pub bytes : List ℕ

-- an input's stack
unfoldable pub contents : List ℕ → Judged Contents
contents s = do
  first ← header_at s 0
  images ← images_at 256 first.width first.height s 0
  good (record { stack = sizes first.width first.height images.0; bytes = images.1 })

-- the reader, lent so many bytes: their number is judged last
unfoldable pub reading : List ℕ → ℕ → Judged Contents
reading s lent = do
  found ← contents s
  judge (leb (stack_bytes found.stack) lent) 27 (stack_bytes found.stack)
  good found

-- ---- The plain form

-- "P4", LF, width, space, height, LF without leading zeros
unfoldable pub plain_header : ℕ → ℕ → List ℕ
plain_header width height = magic ++ (10 ∷ (decimal width ++ (32 ∷ (decimal height ++ (10 ∷ [])))))

-- per slice, then the rows, padding zero
unfoldable pub slices : ℕ → ℕ → ℕ → List ℕ → List ℕ
slices zero width height bytes = []
slices (suc more) width height bytes =
    plain_header width height
    ++ (rows height width bytes ++ slices more width height (drop (slice_bytes width height) bytes))

unfoldable pub plain : Stack → List ℕ → List ℕ
plain k bytes = slices (nat_abs k.depth) (nat_abs k.width) (nat_abs k.height) bytes

-- the writer refuses 3, then 27
unfoldable pub writing : Stack → List ℕ → ℕ → Judged (List ℕ)
writing k bytes lent = do
  judge (permitted_stack k bytes) 3 0
  judge (leb (length (plain k bytes)) lent) 27 (length (plain k bytes))
  good (plain k bytes)

-- ---- Their answers, and the lent buffer afterwards

-- the three sizes
unfoldable pub read_answer : Judged Contents → Reading
read_answer (good found) = Read found.stack
read_answer (wrong number place) = refused_stack number place

-- the number of bytes written
unfoldable pub write_answer : Judged (List ℕ) → Writing
write_answer (good bytes) = Written (length bytes)
write_answer (wrong number place) = refused_stack number place

-- what is given goes to the front, and bytes behind keep their values; a refusal writes nothing
unfoldable pub stored : {A : Type 0} → (A → List ℕ) → Judged A → List ℕ → List ℕ
stored bytes (good a) out = bytes a ++ drop (length (bytes a)) out
stored bytes (wrong number place) out = out

pub record ReadPromise (input before after : List ℕ) (r : Reading) : Type 0 where
  pub answers : r ≡ read_answer (reading input (length before))
  pub leaves : after ≡ stored (λ found. found.bytes) (reading input (length before)) before

pub record WritePromise (k : Stack) (bytes before after : List ℕ) (r : Writing) : Type 0 where
  pub answers : r ≡ write_answer (writing k bytes (length before))
  pub leaves : after ≡ stored (λ written. written) (writing k bytes (length before)) before
