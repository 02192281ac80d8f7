-- The reader as document 01 alone has it, before 2026-02: the white space required is one white space byte. It is the reader of
-- `rules/specs/P4` with another rule for that (`reading-now`), so its text stands here over the rule. `Stays` says what stayed.
use Rattle.std.specs.Prelude.{◌≡◌, true, false, ◌&&◌, List, [], ◌++◌, ℕ, zero, suc, ◌+◌, leb, ltb, eqb, length, get_or, drop}
use Rattle.rules.specs.Answers.{Reading}
use Rattle.rules.specs.Solids.{slice_bytes, stack_bytes}
use Rattle.rules.specs.P4.{Judged, good, ◌>>=◌, ◌>>◌, judge, stands, magic, is_white, mix, digits_at, Field, Header, rows, sizes, Contents, read_answer, stored}

module _ (white : List ℕ → ℕ → Judged ℕ) where
  unfoldable pub field_by : ℕ → ℕ → List ℕ → ℕ → Judged Field
  field_by most number s at =
      let first = mix false (drop at s) at in
      let digits = digits_at 0 (drop first s) first in do
        judge (ltb first digits.1) 22 first
        next ← white s digits.1
        judge (leb 1 digits.0 && leb digits.0 most) number first
        good (record { value = digits.0; next = next })

  unfoldable pub header_by : List ℕ → ℕ → Judged Header
  header_by s at = do
    judge (stands magic (drop at s)) 21 at
    gap ← white s (at + 2)
    width ← field_by 256 23 s gap
    height ← field_by 256 23 s width.next
    good (record { width = width.value; height = height.value; next = height.next })

  unfoldable pub image_by : ℕ → ℕ → List ℕ → ℕ → Judged ℕ
  image_by width height s at = do
    header ← header_by s at
    judge (eqb header.width width && eqb header.height height) 24 at
    judge (leb (header.next + slice_bytes width height) (length s)) 25 (length s)
    good header.next

  unfoldable pub images_by : ℕ → ℕ → ℕ → List ℕ → ℕ → Judged (ℕ × List ℕ)
  images_by zero width height s at = do
    judge (eqb at (length s)) 26 at
    good (0, [])
  images_by (suc left) width height s at = elim (eqb at (length s)) [
    | true ↦ good (0, [])
    | false ↦ do
      place ← image_by width height s at
      more ← images_by left width height s (place + slice_bytes width height)
      good (suc more.0, rows height width (drop place s) ++ more.1)
  ]

  unfoldable pub contents_by : List ℕ → Judged Contents
  contents_by s = do
    first ← header_by s 0
    images ← images_by 256 first.width first.height s 0
    good (record { stack = sizes first.width first.height images.0; bytes = images.1 })

  unfoldable pub reading_by : List ℕ → ℕ → Judged Contents
  reading_by s lent = do
    found ← contents_by s
    judge (leb (stack_bytes found.stack) lent) 27 (stack_bytes found.stack)
    good found

-- one white space byte, and the place past it
unfoldable pub one_white : List ℕ → ℕ → Judged ℕ
one_white s at = do
  judge (is_white (get_or s at 0)) 22 at
  good (at + 1)

-- what the reader promised
pub record BasePromise (input before after : List ℕ) (r : Reading) : Type 0 where
  pub answers : r ≡ read_answer (reading_by one_white input (length before))
  pub leaves : after ≡ stored (λ found. found.bytes) (reading_by one_white input (length before)) before
