-- What a header that is read holds: sizes in range, and a place of rows inside the input.
use Rattle.std.specs.Prelude.{◌≡◌, Bool, true, false, ◌&&◌, List, ℕ, ◌+◌, ◌≤◌, length, get_or, drop, leb, ltb, eqb}
use Rattle.std.proofs.Common.{sym, ap, subst, ◌∙◌, arith, length-drop, leb-true}
use Rattle.integers.specs.Tests.{first_of, second-of}
use Rattle.rules.specs.Solids.{slice_bytes}
use Rattle.rules.specs.P4.{good, is_end, is_white, white, mix, digits_at, Field, field_at, Header, header_at, stands, magic, image_at}
use Rattle.stack.specs.Sides.{Side}
use Rattle.p4_laws.specs.White.{Byte, is_space, is_hash, is_other, byte, there, space-reads, other-refused, comment-reads, Ends, comment-ends}
use Rattle.p4_laws.specs.Judging.{made, passed}

-- white space that is read is there
pub white-in : (s : List ℕ) (q : ℕ) {i : ℕ} → white s q ≡ good i → i ≤ length s
unfolding is_white is_end
white-in s q {i} e = by (byte (get_or s q 0))
  where
    by : Byte (get_or s q 0) → i ≤ length s
    by (is_space w) =
        let n : q + 1 ≡ i = let x = sym (space-reads s q w) ∙ e in cc in
        let l = there s q (λ z. (let y : ◌≡◌ {A = Bool} false true = sym (ap is_white z) ∙ w in let m : ◌≡◌ {A = ℕ} 0 1 = cc in omega arith)) in
        omega arith
    by (is_hash h) =
        let k = subst (Ends (drop q s) q) (sym (comment-reads s q h) ∙ e) (comment-ends (drop q s) q) in
        let b = k.1 in
        let l = there s q (λ z. omega arith) in
        let n = length-drop q s in
        omega arith
    by (is_other w n) = let x = sym (other-refused s q w n) ∙ e in let z : ◌≡◌ {A = ℕ} 0 1 = cc in absurd (omega arith)

pub record FieldIn (most : ℕ) (s : List ℕ) (f : Field) : Type 0 where
  pub some : 1 ≤ f.value
  pub most-is : f.value ≤ most
  pub inside : f.next ≤ length s

pub field_in : (most number : ℕ) (s : List ℕ) (at : ℕ) {f : Field} → field_at most number s at ≡ good f → FieldIn most s f
unfolding field_at
field_in most number s at {f} e =
    let first = mix false (drop at s) at in
    let d = digits_at 0 (drop first s) first in
    let p = passed 22 first _ (ltb first d.1) e in
    let w = made _ (white s d.1) p.1 in
    let q = passed number first _ (leb 1 d.0 && leb d.0 most) w.2 in
    let g : record { value = d.0; next = w.0 } ≡ f = let x = q.1 in cc in
    let a = first_of (leb 1 d.0) (leb d.0 most) q.0 in
    let b = second-of (leb 1 d.0) (leb d.0 most) q.0 in
    subst (FieldIn most s) g (record { some = leb-true 1 d.0 a; most-is = leb-true d.0 most b; inside = white-in s d.1 w.1 })

side-in : {s : List ℕ} {f : Field} → FieldIn 256 s f → Side f.value
side-in h = record { some = h.some; most = h.most-is }

pub record HeaderIn (s : List ℕ) (h : Header) : Type 0 where
  pub wide : Side h.width
  pub high : Side h.height
  pub inside : h.next ≤ length s

pub header-in : (s : List ℕ) (at : ℕ) {h : Header} → header_at s at ≡ good h → HeaderIn s h
unfolding header_at
header-in s at {h} e =
    let p = passed 21 at _ (stands magic (drop at s)) e in
    let g = made _ (white s (at + 2)) p.1 in
    let w = made _ (field_at 256 23 s g.0) g.2 in
    let v = made _ (field_at 256 23 s w.0.next) w.2 in
    let q : record { width = w.0.value; height = v.0.value; next = v.0.next } ≡ h = let x = v.2 in cc in
    let a = field_in 256 23 s g.0 w.1 in
    let b = field_in 256 23 s w.0.next v.1 in
    subst (HeaderIn s) q (record { wide = side-in a; high = side-in b; inside = b.inside })

-- an image's rows are inside
pub image-in : (w h : ℕ) (s : List ℕ) (at : ℕ) {i : ℕ} → image_at w h s at ≡ good i → i + slice_bytes w h ≤ length s
unfolding image_at
image-in w h s at {i} e =
    let x = made _ (header_at s at) e in
    let p = passed 24 at _ (eqb x.0.width w && eqb x.0.height h) x.2 in
    let q = passed 25 (length s) _ (leb (x.0.next + slice_bytes w h) (length s)) p.1 in
    let n : x.0.next ≡ i = let y = q.1 in cc in
    let l = leb-true (x.0.next + slice_bytes w h) (length s) q.0 in
    omega arith
