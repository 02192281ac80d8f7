-- What rests on the reading of a comment that touches: the rest of a gap, and the header, go on behind its line end as they do behind a
-- comment after white space. The reading itself is in `specs/Touching`; a must-fail edit breaks it.
use Rattle.std.specs.Prelude.{◌≡◌, Bool, not, ◌&&◌, List, ℕ, ◌+◌, ◌-◌, ◌<◌, leb, get_or, drop}
use Rattle.std.proofs.Math.Path.{ap}
use Rattle.std.proofs.Common.{sym, ◌∙◌, arith, drop-drop}
use Rattle.std.proofs.Math.Bool.{true, false}
use borrow.Author.Tests.{lt-ltb}
use Rattle.rules.specs.P4.{good, ◌>>=◌, judge, stands, magic, is_end, is_white, mix, digits_at, field_at, header_at}
use Rattle.p4_laws.specs.Judging.{on, pass}
use Rattle.text.specs.Places.{drop_here}
use Rattle.p4_laws.specs.Scans.{mix-in, mix-hash}
use Rattle.p4_laws.specs.White.{there, comment-reads}
use Rattle.p4_laws.specs.Touching.{Touching, comment-once, touching-reads}

-- so the rest of a gap is the same behind a comment that touches as behind that comment after white space
pub touching-gap : {s : List ℕ} {at end : ℕ} → Touching s at end → mix false (drop at s) at ≡ mix false (drop (end + 1) s) (end + 1)
unfolding is_white is_end
touching-gap {s} {at} {end} T =
    let h = T.runs.hash in
    let b = T.behind in
    let l = there s at (λ z. omega arith) in
    let n : at + (end + 1 - at) ≡ end + 1 = omega arith in
    let e : is_end (get_or s at 0) ≡ false = ap is_end h in
    ap (λ (x : List ℕ). mix false x at) (drop_here s at l)
    ∙ mix-hash (get_or s at 0) (drop (at + 1) s) at (ap is_white h) h
    ∙ sym (mix-in (get_or s at 0) (drop (at + 1) s) at ∙ ap (λ (x : Bool). mix (not x) (drop (at + 1) s) (at + 1)) e)
    ∙ ap (λ (x : List ℕ). mix true x at) (sym (drop_here s at l))
    ∙ comment-once (drop at s) at (sym (comment-reads s at h) ∙ touching-reads T)
    ∙ ap (λ (x : List ℕ). mix false x (end + 1)) (drop-drop (end + 1 - at) at s ∙ ap (λ (x : ℕ). drop x s) n)

-- after the magic: width and height follow the comment
pub after-magic : (s : List ℕ) (at : ℕ) {end : ℕ} → stands magic (drop at s) ≡ true → Touching s (at + 2) end
    → header_at s at ≡ (field_at 256 23 s (end + 1) >>= λ width. field_at 256 23 s width.next >>= λ height. good (record { width = width.value; height = height.value; next = height.next }))
unfolding header_at
after-magic s at m T = pass 21 at _ m ∙ on _ (touching-reads T)

-- after the width or the height: the number is judged once the line end was seen, and the gap's rest, or the rows, begin past it
pub after-number : (most number : ℕ) (s : List ℕ) (at : ℕ) {first value past end : ℕ} → mix false (drop at s) at ≡ first → digits_at 0 (drop first s) first ≡ (value, past) → first < past → Touching s past end
    → field_at most number s at ≡ (judge (leb 1 value && leb value most) number first >>= λ _. good (record { value = value; next = end + 1 }))
unfolding field_at
after-number most number s at {first} {past = past} m d l T = rw m (rw d (pass 22 first _ (lt-ltb first past l) ∙ on _ (touching-reads T)))
