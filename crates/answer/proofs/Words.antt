-- What each function writes, in one piece, and how long it is: a number of 32 bits has ten digits at most, and a minus and a space at most before them.
use mathlib.Core.Path.{◌≡◌, ◌∙◌}
use mathlib.Core.List.{List, [], ◌∷◌, ◌++◌}
use Prim.Native.Nat.{ℕ, ◌+◌, ◌≤◌}
use native.Mathlib.Omega.{arith}
use lib.IntN.{ℤ, pos}
use lib.Signed.{nat_abs-le}
use lib.ListN.{length, length-append}
use mir.Syntax.{w32}
use mir.Val.{Fits, SFits, to_z, of_z}
use mir.Facts.{to_z-of_z}
use Rattle.rules.specs.declared.Vector.{Vector}
use Rattle.rules.specs.declared.Accepted.{Accepted}
use Rattle.rules.specs.declared.Refused.{Refused}
use Rattle.std.specs.Prelude.{Ok as IsAccepted, Err as IsRefused}
use Rattle.rules.specs.Answers.{Pick}
use Rattle.rules.specs.Decimals.{decimal, signed_decimal}
use Rattle.rules.specs.Session.{word, three, counts, told_accepted, told_refused, told}
use Rattle.text.specs.declared.Writer.{Writer}
use Rattle.text.specs.Put.{Room, Put}
use Rattle.text.specs.Puts.{put_then, put-length}
use Rattle.text.specs.Decimals.{decimal-length, signed-length}
use Rattle.answer.specs.Wrote.{Space, Wrote}

abbrev read_back : ℤ → ℤ
read_back z = to_z w32 (of_z w32 z)

-- ---- writes in a row
then : {m n : ℕ} {u v w : Writer} {a b : List ℕ} → Wrote m u a v → Wrote n v b w → Wrote (m + n) u (a ++ b) w
then {a = a} {b = b} p q = record { put = put_then p.put q.put; kept = q.kept ∙ p.kept; few = let x = p.few in let y = q.few in simp length-append (omega arith) }

one : {u v : Writer} {b : ℕ} → Put u (b ∷ []) v → Wrote 1 u (b ∷ []) v
one p = record { put = p; kept = put-length p; few = omega arith }

-- ---- words
unsigned-short : {n : ℕ} → Fits w32 n → length (decimal n) ≤ 10
unsigned-short {n} f = let h = f.fits in decimal-length 9 n (omega arith)

signed-short : {z : ℤ} → SFits w32 z → length (signed_decimal z) ≤ 11
signed-short {z} s = let h = nat_abs-le z s.sfits in signed-length 9 z (omega arith)

module _ {u v : Writer} (p : Put u (32 ∷ []) v) where
  room : {n : ℕ} (bytes : List ℕ) → length bytes ≤ n → Space (1 + n) u → Room v bytes
  room bytes few s = record { fits = let a = s.enough in let c = p.past in let d = put-length p in omega arith }

  pub count_room : {n : ℕ} → Space 11 u → Fits w32 n → Room v (decimal n)
  count_room {n} s f = room {n = 10} (decimal n) (unsigned-short f) s

  pub wrote_count : {n : ℕ} {w : Writer} → Fits w32 n → Put v (decimal n) w → Wrote 11 u (word (pos n)) w
  wrote_count f q = then (one p) (record { put = q; kept = put-length q; few = unsigned-short f })

  pub word_room : {z : ℤ} → Space 12 u → SFits w32 z → Room v (signed_decimal (read_back z))
  word_room {z} s f = room {n = 11} (signed_decimal (read_back z)) (rw (to_z-of_z f) (signed-short f)) s

  pub wrote-word : {z : ℤ} {w : Writer} → SFits w32 z → Put v (signed_decimal (read_back z)) w → Wrote 12 u (word z) w
  wrote-word {z} f q = then (one p) (record { put = rw (to_z-of_z f) at q; kept = put-length q; few = signed-short f })

-- ---- lines
module _ {u v w x : Writer} where
  pub wrote-three : {p : Vector} → SFits w32 p.x → SFits w32 p.y → SFits w32 p.z
      → Wrote 12 u (word (read_back p.x)) v → Wrote 12 v (word (read_back p.y)) w → Wrote 12 w (word (read_back p.z)) x → Wrote 36 u (three p) x
  unfolding three
  wrote-three f g h p q r = then (rw (to_z-of_z f) at p) (then (rw (to_z-of_z g) at q) (rw (to_z-of_z h) at r))

  pub wrote-counts : (steps looks : ℕ) → Wrote 11 u (word (pos steps)) v → Wrote 11 v (word (pos looks)) w → Put w (10 ∷ []) x → Wrote 23 u (counts steps looks) x
  unfolding counts
  wrote-counts steps looks p q r = then p (then q (one r))

  pub wrote-accepted : (r : Accepted) → Put u (78 ∷ []) v → Wrote 36 v (three r.normal) w → Wrote 23 w (counts r.steps r.looks) x → Wrote 60 u (told_accepted r) x
  unfolding told_accepted
  wrote-accepted r p q s = then (one p) (then q s)

  pub wrote-refused : (r : Refused) {y : Writer} → Put u (82 ∷ []) v → Wrote 11 v (word (pos r.number)) w → Wrote 36 w (three r.place) x → Wrote 23 x (counts r.steps r.looks) y → Wrote 71 u (told_refused r) y
  unfolding told_refused
  wrote-refused r p q s t = then (one p) (then q (then s t))

module _ {p : Pick} {u v : Writer} where
  pub told-accepted : {a : Accepted} → p ≡ IsAccepted a → Wrote 60 u (told_accepted a) v → Wrote 71 u (told p) v
  unfolding told
  told-accepted e w = rw e (record { put = w.put; kept = w.kept; few = let h = w.few in omega arith })

  pub told-refused : {r : Refused} → p ≡ IsRefused r → Wrote 71 u (told_refused r) v → Wrote 71 u (told p) v
  unfolding told
  told-refused e w = rw e (record { put = w.put; kept = w.kept; few = w.few })
