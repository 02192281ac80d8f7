-- What the header's functions answer, in the words of the definitions.
use Rattle.std.specs.Prelude.{◌≡◌, false, List, ℕ, min, drop, Result, Ok, Err}
use Rattle.rules.specs.declared.RefusedStack.{RefusedStack}
use Rattle.rules.specs.P4.{Judged, good, wrong, comment_at, white, mix, digits_at, Field, field_at, Header, header_at}
use Rattle.p4_header.specs.declared.Field.{Field as FieldRead}
use Rattle.p4_header.specs.declared.Header.{Header as HeaderRead}

-- ---- the answers' cases
abbrev pub judged : {A B : Type 0} → (A → B) → Result A RefusedStack → Judged B
judged read (Ok a) = good (read a)
judged read (Err e) = wrong e.number e.value

abbrev pub judged_place : Result ℕ RefusedStack → Judged ℕ
judged_place = judged (λ i. i)

abbrev pub judged_field : Result FieldRead RefusedStack → Judged Field
judged_field = judged (λ f. record { value = f.value; next = f.next })

abbrev pub judged_header : Result HeaderRead RefusedStack → Judged Header
judged_header = judged (λ h. record { width = h.width; height = h.height; next = h.next })

-- ---- the contracts
pub record Comment (s : List ℕ) (at : ℕ) (r : Result ℕ RefusedStack) : Type 0 where
  pub is : judged_place r ≡ comment_at (drop at s) at

pub record White (s : List ℕ) (at : ℕ) (r : Result ℕ RefusedStack) : Type 0 where
  pub is : judged_place r ≡ white s at

pub record Mix (s : List ℕ) (at r : ℕ) : Type 0 where
  pub is : r ≡ mix false (drop at s) at

-- values of 100000 and above are told as 100000
pub record Digits (s : List ℕ) (at value next : ℕ) : Type 0 where
  pub value-is : value ≡ min 100000 (digits_at 0 (drop at s) at).0
  pub next-is : next ≡ (digits_at 0 (drop at s) at).1

pub record FieldIs (s : List ℕ) (at : ℕ) (r : Result FieldRead RefusedStack) : Type 0 where
  pub is : judged_field r ≡ field_at 256 23 s at

pub record HeaderIs (s : List ℕ) (at : ℕ) (r : Result HeaderRead RefusedStack) : Type 0 where
  pub is : judged_header r ≡ header_at s at
