-- The loop that judges the images: what is left is judged to, with the images before it, is what all are judged to.
use Rattle.std.specs.Prelude.{◌≡◌, refl, List, ◌++◌, ℕ, suc, ◌+◌, ◌-◌, ◌≤◌, ◌<◌, length, drop, Result, Ok, Err}
use Rattle.std.proofs.Common.{sym, ap, ◌∙◌, arith, zero-add, Fits, w64}
use Rattle.rules.specs.declared.RefusedStack.{RefusedStack}
use Rattle.rules.specs.Solids.{slice_bytes}
use Rattle.rules.specs.P4.{Judged, good, wrong, ◌>>=◌, rows, image_at, images_at}
use Rattle.p4_laws.specs.Judging.{on, off}
use Rattle.p4_laws.specs.Headers.{image-in}
use Rattle.p4_laws.specs.Images.{followed, images-end, images-full, images-more}
use Rattle.stack.specs.Bytes.{SliceBytes}
use Rattle.p4_header.specs.Reads.{judged_place}
use Rattle.p4_read.specs.Images.{ImageIs, depth_read, ImagesAre}

-- ---- so many images, before those that follow
unfoldable pub preceded : ℕ → Result ℕ RefusedStack → Result ℕ RefusedStack
preceded z (Ok d) = Ok (z + d)
preceded z (Err e) = Err e

preceded-none : (r : Result ℕ RefusedStack) → preceded 0 r ≡ r
unfolding preceded
preceded-none (Ok d) = ap Ok (zero-add d)
preceded-none (Err e) = refl

preceded-more : (z left w h : ℕ) (s : List ℕ) (i : ℕ)
    → preceded z (depth_read (followed left w h s i)) ≡ preceded (z + 1) (depth_read (images_at left w h s (i + slice_bytes w h)))
unfolding preceded ◌>>=◌
preceded-more z left w h s i = by (images_at left w h s (i + slice_bytes w h))
  where
    by : (x : Judged (ℕ × List ℕ)) → preceded z (depth_read (x >>= λ f. good (suc f.0, rows h w (drop i s) ++ f.1))) ≡ preceded (z + 1) (depth_read x)
    by (good (d, l)) = let e : z + suc d ≡ z + 1 + d = omega arith in ap Ok e
    by (wrong n p) = refl

-- an image's rows are inside
pub rows_in : {w h : ℕ} {s : List ℕ} {at i : ℕ} {r : Result ℕ RefusedStack} → ImageIs w h s at r → r ≡ Ok i → i + slice_bytes w h ≤ length s
rows_in {w} {h} {s} {at} F e = image-in w h s at (sym F.is ∙ ap judged_place e)

pub place_fits : {w h c : ℕ} {s : List ℕ} {at i : ℕ} {r : Result ℕ RefusedStack} → ImageIs w h s at r → r ≡ Ok i → SliceBytes w h c → Fits w64 (length s) → Fits w64 (i + c)
place_fits F e C k = let x = rows_in F e in omega (arith, x, C.is, k.fits)

-- ---- the images at a place and behind it, by the first of them
pub images-next : (w h : ℕ) (s : List ℕ) {at z : ℕ} → z < 256 → (at ≡ length s → ⊥) → images_at (256 - z) w h s at ≡ (image_at w h s at >>= followed (256 - (z + 1)) w h s)
images-next w h s {at} {z} few more =
    let k : 256 - z ≡ suc (256 - (z + 1)) = omega arith in
    ap (λ (x : ℕ). images_at x w h s at) k ∙ images-more w h s at more (256 - (z + 1))

-- ---- the loop
pub record Keeping (w h : ℕ) (s : List ℕ) (at z : ℕ) : Type 0 where
  pub inside : at ≤ length s
  pub rest : preceded z (depth_read (images_at (256 - z) w h s at)) ≡ depth_read (images_at 256 w h s 0)

pub keeping_start : (w h : ℕ) (s : List ℕ) → Keeping w h s 0 0
keeping_start w h s = record { inside = omega arith; rest = preceded-none (depth_read (images_at 256 w h s 0)) }

module _ {w h : ℕ} {s : List ℕ} {at z : ℕ} (K : Keeping w h s at z) where
  judged-to : {r : Result ℕ RefusedStack} {x : Judged (ℕ × List ℕ)} → images_at (256 - z) w h s at ≡ x → r ≡ preceded z (depth_read x) → ImagesAre w h s r
  judged-to e q = record { is = q ∙ ap (λ (y : Judged (ℕ × List ℕ)). preceded z (depth_read y)) (sym e) ∙ K.rest }

  pub keeping-end : at ≡ length s → ImagesAre w h s (Ok z)
  unfolding preceded
  keeping-end e = let k : z ≡ z + 0 = omega arith in judged-to (images-end w h s at (256 - z) e) (ap Ok k)

  pub keeping-all : 256 ≤ z → z ≤ 256 → length s ≤ at → ImagesAre w h s (Ok 256)
  keeping-all k l m = let e : 256 ≡ z = omega arith in let n = K.inside in record { is = ap Ok e ∙ (keeping-end (omega arith)).is }

  pub keeping-full : 256 ≤ z → at < length s → {x : RefusedStack} → x ≡ record { number = 26; value = at } → ImagesAre w h s (Err x)
  unfolding preceded
  keeping-full e l q =
      let k : 256 - z ≡ 0 = omega arith in
      judged-to (ap (λ (x : ℕ). images_at x w h s at) k ∙ images-full w h s at (λ n. omega arith)) (ap Err q)

  module _ (few : z < 256) (more : at ≡ length s → ⊥) where
    pub keeping-not : {x : RefusedStack} → ImageIs w h s at (Err x) → ImagesAre w h s (Err x)
    unfolding preceded
    keeping-not F = judged-to (images-next w h s few more ∙ off _ (sym F.is)) refl

    pub keeping-next : {i c : ℕ} {r : Result ℕ RefusedStack} → ImageIs w h s at r → r ≡ Ok i → SliceBytes w h c → Keeping w h s (i + c) (z + 1)
    keeping-next {i} {c} F e C =
        let size = C.is in
        let left = 256 - (z + 1) in
        record {
          inside = let x = rows_in F e in omega arith;
          rest =
              (λ j. preceded (z + 1) (depth_read (images_at left w h s (i + size j))))
              ∙ sym (preceded-more z left w h s i)
              ∙ ap (λ (x : Judged (ℕ × List ℕ)). preceded z (depth_read x)) (sym (images-next w h s few more ∙ on _ (sym F.is ∙ ap judged_place e)))
              ∙ K.rest;
        }

pub ruleset images_refused = (keeping-not)
