-- What document 01's reader answered stays, but for 22 at a #. The two readers differ in the white space required, and there in a # alone:
-- where that is met the base refuses, and till then both go the same way.
use Rattle.std.specs.Prelude.{◌≡◌, Bool, true, false, List, [], ◌++◌, leb, eqb, length, get_or, drop}
use Rattle.std.proofs.Math.Path.{refl, sym, subst}
use Rattle.std.proofs.Common.{ap, ◌∙◌, arith}
use Prim.Native.Nat.{ℕ, zero, suc, ◌+◌}
use Rattle.rules.specs.Answers.{Reading, refused_stack}
use Rattle.rules.specs.Solids.{slice_bytes, stack_bytes}
use Rattle.rules.specs.P4.{Judged, good, wrong, ◌>>=◌, judge, is_end, is_white, white, field_at, header_at, image_at, images_at, rows, sizes, Contents, contents, reading, read_answer, stored, ReadPromise}
use Rattle.p4_laws.specs.Judging.{off, pass, fail}
use Rattle.p4_laws.specs.White.{Byte, is_space, is_hash, is_other, byte, space-reads, other-refused}
use Rattle.p4_laws.specs.Base.{field_by, header_by, image_by, images_by, contents_by, reading_by, one_white, BasePromise}

-- the answer stays, or was 22 at a #
data Stays {A : Type 0} (s : List ℕ) (x y : Judged A) : Type 0 where
  same : x ≡ y → Stays s x y
  touched : (place : ℕ) → x ≡ wrong 22 place → get_or s place 0 ≡ 35 → Stays s x y

module _ (s : List ℕ) where
  then : {A B : Type 0} {x y : Judged A} (k l : A → Judged B) → Stays s x y → ((a : A) → Stays s (k a) (l a)) → Stays s (x >>= k) (y >>= l)
  unfolding ◌>>=◌
  then {A} {B} {x} {y} k l (same e) f = subst (λ (z : Judged A). Stays s (x >>= k) (z >>= l)) e (by x)
    where
      by : (z : Judged A) → Stays s (z >>= k) (z >>= l)
      by (good a) = f a
      by (wrong n p) = same refl
  then k l (touched p e h) f = touched p (off k e) h

  either : {A : Type 0} (t : Bool) (z : Judged A) {x y : Judged A} → Stays s x y → Stays {A = A} s (elim t [ true ↦ z | false ↦ x ]) (elim t [ true ↦ z | false ↦ y ])
  either true z h = same refl
  either false z h = h

  -- ---- over two rules
  module _ (v w : List ℕ → ℕ → Judged ℕ) (alike : (at : ℕ) → Stays s (v s at) (w s at)) where
    field-stays : (most number at : ℕ) → Stays s (field_by v most number s at) (field_by w most number s at)
    unfolding field_by
    field-stays most number at = then _ _ (same refl) (λ _. then _ _ (alike _) (λ _. same refl))

    header-stays : (at : ℕ) → Stays s (header_by v s at) (header_by w s at)
    unfolding header_by
    header-stays at =
        then _ _ (same refl) (λ _. then _ _ (alike _) (λ gap. then _ _ (field-stays 256 23 gap) (λ width. then _ _ (field-stays 256 23 width.next) (λ _. same refl))))

    image-stays : (width height at : ℕ) → Stays s (image_by v width height s at) (image_by w width height s at)
    unfolding image_by
    image-stays width height at = then _ _ (header-stays at) (λ _. same refl)

    images-stay : (left width height at : ℕ) → Stays s (images_by v left width height s at) (images_by w left width height s at)
    unfolding images_by
    images-stay zero width height at = same refl
    images-stay (suc left) width height at =
        either (eqb at (length s)) _ (then _ _ (image-stays width height at) (λ place. then _ _ (images-stay left width height (place + slice_bytes width height)) (λ _. same refl)))

    reading-stays : (lent : ℕ) → Stays s (reading_by v s lent) (reading_by w s lent)
    unfolding reading_by contents_by
    reading-stays lent = then _ _ (then _ _ (header-stays 0) (λ f. then _ _ (images-stay 256 f.width f.height 0) (λ _. same refl))) (λ _. same refl)

  -- ---- the base's and document 02's
  white-stays : (at : ℕ) → Stays s (one_white s at) (white s at)
  unfolding one_white is_white is_end
  white-stays at = by (byte (get_or s at 0))
    where
      by : Byte (get_or s at 0) → Stays s (one_white s at) (white s at)
      by (is_space w) = same (pass 22 at _ w ∙ sym (space-reads s at w))
      by (is_hash h) = touched at (fail 22 at _ (ap is_white h)) h
      by (is_other w n) = same (fail 22 at _ w ∙ sym (other-refused s at w n))

-- the reader of `rules/specs/P4` is the one over `white`
images-now : (left width height : ℕ) (s : List ℕ) (at : ℕ) → images_by white left width height s at ≡ images_at left width height s at
unfolding images_by images_at image_by image_at header_by header_at field_by field_at
images-now zero width height s at = refl
images-now (suc left) width height s at =
    λ j. elim (eqb at (length s)) [
      | true ↦ good (0, [])
      | false ↦ image_at width height s at >>= λ place. images-now left width height s (place + slice_bytes width height) j >>= λ more. good (suc more.0, rows height width (drop place s) ++ more.1)
    ]

pub reading-now : (s : List ℕ) (lent : ℕ) → reading_by white s lent ≡ reading s lent
unfolding reading_by reading contents_by contents header_by header_at field_by field_at
reading-now s lent =
    λ j. (header_at s 0 >>= λ first. images-now 256 first.width first.height s 0 j >>= λ images. good (record { stack = sizes first.width first.height images.0; bytes = images.1 }))
    >>= λ found. judge (leb (stack_bytes found.stack) lent) 27 (stack_bytes found.stack) >>= λ _. good found

-- ---- so what was not 22 at a # is as it was
pub unless-touched : (s : List ℕ) (lent : ℕ) → ((place : ℕ) → reading_by one_white s lent ≡ wrong 22 place → get_or s place 0 ≡ 35 → ⊥) → reading_by one_white s lent ≡ reading s lent
unless-touched s lent n = by (reading-stays s one_white white (white-stays s) lent) ∙ reading-now s lent
  where
    by : Stays s (reading_by one_white s lent) (reading_by white s lent) → reading_by one_white s lent ≡ reading_by white s lent
    by (same e) = e
    by (touched p e h) = absurd (n p e h)

-- an input that was read is read alike
pub read_stays : (s : List ℕ) (lent : ℕ) {c : Contents} → reading_by one_white s lent ≡ good c → reading s lent ≡ good c
read_stays s lent {c} e = sym (unless-touched s lent (λ p f _. (let x = sym e ∙ f in let z : ◌≡◌ {A = ℕ} 0 1 = cc in omega arith))) ∙ e

-- a refusal other than 22 at a # stays
pub refusal-stays : (s : List ℕ) (lent : ℕ) {number place : ℕ} → reading_by one_white s lent ≡ wrong number place → (number ≡ 22 → get_or s place 0 ≡ 35 → ⊥) → reading s lent ≡ wrong number place
refusal-stays s lent {number} {place} e n = sym (unless-touched s lent was) ∙ e
  where
    was : (p : ℕ) → reading_by one_white s lent ≡ wrong 22 p → get_or s p 0 ≡ 35 → ⊥
    was p f h =
        let x : wrong number place ≡ wrong 22 p = sym e ∙ f in
        let m : number ≡ 22 = cc in
        let q : place ≡ p = cc in
        n m (ap (λ (j : ℕ). get_or s j 0) q ∙ h)

-- and what kept the base's promise, buffer and all, keeps today's
pub promise-stays : {input before after : List ℕ} {r : Reading} → BasePromise input before after r → ((place : ℕ) → r ≡ refused_stack 22 place → get_or input place 0 ≡ 35 → ⊥) → ReadPromise input before after r
unfolding read_answer
promise-stays {input} {before} B n =
    let e = unless-touched input (length before) (λ p f. n p (B.answers ∙ ap read_answer f)) in
    record { answers = B.answers ∙ ap read_answer e; leaves = B.leaves ∙ ap (λ (x : Judged Contents). stored (λ found. found.bytes) x before) e }
