-- What is written in the plain form reads back: digits, a field, a header, the images, the stack.
use Rattle.std.specs.Prelude.{◌≡◌, Bool, true, false, ltb}
use Rattle.std.proofs.Math.Path.{refl, sym, ap}
use Rattle.std.proofs.Common.{◌∙◌, zero-mul, arith, drop-drop, eq-eqb, ne_eqb, le-leb, lt-ltb, ltb-true, ltb-false}
use mathlib.Core.List.{List, [], ◌∷◌, ◌++◌, append_assoc}
use Prim.Native.Nat.{ℕ, zero, suc, ◌+◌, ◌-◌, ◌*◌, ◌/◌, ◌%◌, ◌≤◌, ◌<◌}
use Rattle.std.proofs.Math.Nat.{suc-mul}
use Rattle.std.proofs.Math.ListN.{length, drop, length-append, length-drop}
use Rattle.std.proofs.Math.Seq.{drop-append_seam}
use Rattle.integers.specs.Tests.{both}
use Rattle.rules.specs.Solids.{slice_bytes}
use Rattle.rules.specs.Decimals.{is_digit, figure, decimal}
use Rattle.rules.specs.P4.{good, stands, magic, is_end, is_white, white, mix, digits_at, field_at, header_at, rows, image_at, images_at, sizes, contents, plain_header, slices}
use Rattle.text.specs.Decimals.{decimal-one, decimal-more}
use Rattle.stack.specs.Sides.{Side}
use Rattle.p4_laws.specs.Judging.{on, pass}
use Rattle.p4_laws.specs.Scans.{mix-stop, digit-more, digit-stop}
use Rattle.p4_laws.specs.Stores.{dropped}
use Rattle.p4_laws.specs.White.{space-reads}
use Rattle.p4_laws.specs.Rows.{rows-twice, rows_more}
use Rattle.p4_laws.specs.Images.{images-end, images-more}
use Rattle.p4_laws.specs.Plain.{header-length, slices-more, slice_rows}

-- ---- digits
figure-digit : (n : ℕ) → is_digit (figure n) ≡ true
unfolding is_digit figure
figure-digit n = both (le-leb 48 (figure n) (omega arith)) (le-leb (figure n) 57 (omega arith))

figure-white : (n : ℕ) → is_white (figure n) ≡ false
unfolding is_white is_end figure
figure-white n =
    let a = ne_eqb (figure n) 32 (λ e. omega arith) in
    let b = ne_eqb (figure n) 9 (λ e. omega arith) in
    let c = ne_eqb (figure n) 13 (λ e. omega arith) in
    let d = ne_eqb (figure n) 10 (λ e. omega arith) in
    simp (a, b, c, d)

figure-value : (v n i : ℕ) (t : List ℕ) → digits_at v (figure n ∷ t) i ≡ digits_at (v * 10 + n % 10) t (i + 1)
unfolding figure
figure-value v n i t =
    let e : v * 10 + (figure n - 48) ≡ v * 10 + n % 10 = omega arith in
    digit-more (figure n) t i v (figure-digit n) ∙ ap (λ (x : ℕ). digits_at x t (i + 1)) e

-- what the scans give of a number's digits
record Scanned (n : ℕ) : Type 0 where
  value : (t : List ℕ) (i : ℕ) → digits_at 0 (decimal n ++ t) i ≡ digits_at n t (i + length (decimal n))
  starts : (t : List ℕ) (i : ℕ) → mix false (decimal n ++ t) i ≡ i
  some : 1 ≤ length (decimal n)

one : (n : ℕ) → n < 10 → Scanned n
unfolding figure
one n h =
    let d = decimal-one n h in
    let v : 0 * 10 + n % 10 ≡ n = omega arith in
    record {
      value = λ t i.
          ap (λ (l : List ℕ). digits_at 0 (l ++ t) i) d
          ∙ figure-value 0 n i t
          ∙ (λ k. digits_at (v k) t (i + length (sym d k)));
      starts = λ t i. ap (λ (l : List ℕ). mix false (l ++ t) i) d ∙ mix-stop (figure n) t i (figure-white n) (λ e. omega arith);
      some = omega (arith, ap length d);
    }

more : (n : ℕ) → 10 ≤ n → Scanned (n / 10) → Scanned n
more n h T =
    let d = decimal-more n h in
    let l = ap length d ∙ length-append (decimal (n / 10)) (figure n ∷ []) in
    let v : n / 10 * 10 + n % 10 ≡ n = omega arith in
    record {
      value = λ t i.
          let q : i + length (decimal (n / 10)) + 1 ≡ i + length (decimal n) = omega arith in
          ap (λ (x : List ℕ). digits_at 0 (x ++ t) i) d
          ∙ ap (λ (x : List ℕ). digits_at 0 x i) (append_assoc (decimal (n / 10)) (figure n ∷ []) t)
          ∙ T.value (figure n ∷ t) i
          ∙ figure-value (n / 10) n (i + length (decimal (n / 10))) t
          ∙ (λ k. digits_at (v k) t (q k));
      starts = λ t i.
          ap (λ (x : List ℕ). mix false (x ++ t) i) d
          ∙ ap (λ (x : List ℕ). mix false x i) (append_assoc (decimal (n / 10)) (figure n ∷ []) t)
          ∙ T.starts (figure n ∷ t) i;
      some = let s = T.some in omega arith;
    }

scanned : (f n : ℕ) → n ≤ f → Scanned n
scanned zero n h = one n (omega arith)
scanned (suc f) n h = by (ltb n 10) refl (scanned f (n / 10))
  where
    by : (t : Bool) → ltb n 10 ≡ t → (n / 10 ≤ f → Scanned (n / 10)) → Scanned n
    by true e T = one n (ltb-true n 10 e)
    by false e T = let l = ltb-false n 10 e in more n l (T (omega arith))

-- ---- a place by what stands behind it
behind : (s : List ℕ) (at : ℕ) (a b : List ℕ) → drop at s ≡ a ++ b → drop (at + length a) s ≡ b
behind s at a b e = sym (drop-drop (length a) at s) ∙ ap (drop (length a)) e ∙ drop-append_seam a b

white-here : (s : List ℕ) (at b : ℕ) (t : List ℕ) → is_white b ≡ true → drop at s ≡ b ∷ t → white s at ≡ good (at + 1)
white-here s at b t w e = space-reads s at (ap is_white (dropped s at e).0 ∙ w)

-- a number in its plain form, with white space behind it
field-reads : (most number : ℕ) (s : List ℕ) (p n b : ℕ) (t : List ℕ) → is_digit b ≡ false → is_white b ≡ true → 1 ≤ n → n ≤ most
    → drop p s ≡ decimal n ++ (b ∷ t) → field_at most number s p ≡ good (record { value = n; next = p + length (decimal n) + 1 })
unfolding field_at
field-reads most number s p n b t d w g l E =
    let T = scanned n n (omega arith) in
    let q = p + length (decimal n) in
    let P : mix false (drop p s) p ≡ p = ap (λ (x : List ℕ). mix false x p) E ∙ T.starts (b ∷ t) p in
    let M : digits_at 0 (drop p s) p ≡ (n, q) = ap (λ (x : List ℕ). digits_at 0 x p) E ∙ T.value (b ∷ t) p ∙ digit-stop b t q n d in
    let W = white-here s q b t w (behind s p (decimal n) (b ∷ t) E) in
    let h = T.some in
    rw P (rw M (pass 22 p _ (lt-ltb p q (omega arith)) ∙ on _ W ∙ pass number p _ (both (le-leb 1 n g) (le-leb n most l))))

-- ---- a header in its plain form
module _ (w h : ℕ) (wide : Side w) (high : Side h) where
  header-reads : (s : List ℕ) (at : ℕ) (t : List ℕ) → drop at s ≡ plain_header w h ++ t
      → header_at s at ≡ good (record { width = w; height = h; next = at + length (plain_header w h) })
  unfolding header_at plain_header stands is_white is_end is_digit
  header-reads s at t E =
      let F : drop at s ≡ 80 ∷ 52 ∷ 10 ∷ (decimal w ++ (32 ∷ (decimal h ++ (10 ∷ t)))) = E ∙ simp append_assoc in
      let a = at + 2 in
      let b = at + 2 + 1 in
      let c = b + length (decimal w) in
      let d = c + 1 + length (decimal h) in
      let G = behind s at (80 ∷ 52 ∷ []) _ F in
      let W = behind s a (10 ∷ []) _ G in
      let S = behind s b (decimal w) _ W in
      let H = behind s c (32 ∷ []) _ S in
      let k : d + 1 ≡ at + length (plain_header w h) = omega (arith, header-length w h) in
      pass 21 at _ (ap (stands magic) F)
      ∙ on _ (white-here s a 10 _ refl G)
      ∙ on _ (field-reads 256 23 s b w 32 _ refl refl wide.some wide.most W)
      ∙ on _ (field-reads 256 23 s (c + 1) h 10 t refl refl high.some high.most H)
      ∙ ap (λ (x : ℕ). good (record { width = w; height = h; next = x })) k

  -- ---- images in their plain form
  image-reads : (s : List ℕ) (at : ℕ) (r t : List ℕ) → length r ≡ slice_bytes w h → at ≤ length s → drop at s ≡ plain_header w h ++ (r ++ t)
      → image_at w h s at ≡ good (at + length (plain_header w h))
  unfolding image_at
  image-reads s at r t n l E =
      let m = sym (length-drop at s) ∙ ap length E ∙ length-append (plain_header w h) (r ++ t) ∙ ap (λ (x : ℕ). length (plain_header w h) + x) (length-append r t) in
      let i = at + length (plain_header w h) in
      on _ (header-reads s at (r ++ t) E)
      ∙ pass 24 at _ (both (eq-eqb w w refl) (eq-eqb h h refl))
      ∙ pass 25 (length s) _ (le-leb (i + slice_bytes w h) (length s) (omega (arith, header-length w h)))

  slice-more : (k : ℕ) (bs : List ℕ) → rows (suc k * h) w bs ≡ rows h w bs ++ rows (k * h) w (drop (slice_bytes w h) bs)
  unfolding slice_bytes
  slice-more k bs = rows_more h k w bs

  rows-once : (bs t : List ℕ) → slice_bytes w h ≤ length bs → rows h w (rows h w bs ++ t) ≡ rows h w bs
  unfolding slice_bytes
  rows-once bs t l = rows-twice w wide.some h bs t l

  images-read : (s : List ℕ) (K k at : ℕ) (bs : List ℕ) → k ≤ K → k * slice_bytes w h ≤ length bs → at ≤ length s → drop at s ≡ slices k w h bs
      → images_at K w h s at ≡ good (k, rows (k * h) w bs)
  unfolding slices rows
  images-read s K zero at bs f g l E =
      let m = sym (length-drop at s) ∙ ap length E in
      images-end w h s at K (omega arith) ∙ ap (λ (x : ℕ). good (0, rows x w bs)) (sym (zero-mul h))
  images-read s zero (suc k) at bs f g l E = absurd (omega arith)
  images-read s (suc K) (suc k) at bs f g l E =
      let S = slice_bytes w h in
      let R = rows h w bs in
      let T = slices k w h (drop S bs) in
      let i = at + length (plain_header w h) in
      let p = suc-mul k S in
      let n = slice_rows w h wide.some bs (omega arith) in
      let m = sym (length-drop at s) ∙ ap length E ∙ length-append (plain_header w h) (R ++ T) ∙ ap (λ (x : ℕ). length (plain_header w h) + x) (length-append R T) in
      let D : drop i s ≡ R ++ T = behind s at (plain_header w h) (R ++ T) E in
      let N : drop (i + S) s ≡ T = ap (λ (x : ℕ). drop (i + x) s) (sym n) ∙ behind s i R T D in
      images-more w h s at (λ q. omega (arith, header-length w h)) K
      ∙ on _ (image-reads s at R T n l E)
      ∙ on _ (images-read s K k (i + S) (drop S bs) (omega arith) (simp length-drop (omega arith)) (omega (arith, header-length w h)) N)
      ∙ ap (λ (x : List ℕ). good (suc k, x)) (ap (λ (x : List ℕ). rows h w x ++ rows (k * h) w (drop S bs)) D ∙ ap (λ (x : List ℕ). x ++ rows (k * h) w (drop S bs)) (rows-once bs T (omega arith)) ∙ sym (slice-more k bs))

  -- ---- a stack in its plain form
  pub stack-reads : (d : ℕ) (bs : List ℕ) → Side d → d * slice_bytes w h ≤ length bs
      → contents (slices d w h bs) ≡ good (record { stack = sizes w h d; bytes = rows (d * h) w bs })
  unfolding contents
  stack-reads d bs deep l =
      let s = slices d w h bs in
      on _ (header-reads s 0 (rows h w bs ++ slices (d - 1) w h (drop (slice_bytes w h) bs)) (slices-more w h d bs deep.some))
      ∙ on _ (images-read s 256 d 0 bs deep.most l (omega arith) refl)
