-- Every place that a refusal of the format gives is inside the input or its length, so reading 0 behind the end tells "or input length" rightly;
-- and no 22 is at a #, since a comment is taken wherever white space may stand.
use Rattle.std.specs.Prelude.{◌≡◌, Bool, not, ◌&&◌, ltb, drop}
use Rattle.std.proofs.Math.Path.{refl, sym, ap, subst}
use Rattle.std.proofs.Common.{◌∙◌, eqb-true}
use Rattle.std.proofs.Math.Bool.{true, false}
use mathlib.Core.List.{List, [], ◌∷◌}
use Prim.Native.Nat.{ℕ, zero, suc, ◌+◌, ◌*◌, ◌-◌, ◌≤◌}
use native.Mathlib.Omega.{arith}
use Rattle.std.proofs.Math.Dec.{eqb, leb}
use Rattle.std.proofs.Math.ListN.{length, get_or, length-drop, get_or-eq_default}
use Rattle.std.proofs.lemmas.Bool.{eqb-false}
use Rattle.integers.specs.Tests.{second-of}
use Rattle.rules.specs.Solids.{slice_bytes}
use Rattle.rules.specs.Decimals.{is_digit}
use Rattle.rules.specs.P4.{Judged, good, wrong, ◌>>=◌, judge, stands, magic, is_end, is_white, comment_at, white, mix, digits_at, field_at, header_at, image_at, images_at, contents}
use Rattle.p4_laws.specs.Stores.{dropped}
use Rattle.p4_laws.specs.Scans.{mix-white, mix-hash, mix-stop, digit-more, digit-stop}
use Rattle.p4_laws.specs.White.{Byte, is_space, is_hash, is_other, byte, space-reads, other-refused, comment-reads, Ends, comment-ends}
use Rattle.p4_laws.specs.Headers.{white-in, field_in, image-in}
use Rattle.p4_laws.specs.Images.{images-end, images-more}

-- where a refusal may be
pub record Placed (s : List ℕ) (number place : ℕ) : Type 0 where
  pub inside : place ≤ length s
  pub no_hash : number ≡ 22 → get_or s place 0 ≡ 35 → ⊥

-- a refusal, if it is one, is there
abbrev WellPlaced : {A : Type 0} → List ℕ → Judged A → Type 0
WellPlaced s (good a) = Unit {0}
WellPlaced s (wrong number place) = Placed s number place

then : {A B : Type 0} (s : List ℕ) (x : Judged A) (k : A → Judged B) → WellPlaced s x → ((a : A) → x ≡ good a → WellPlaced s (k a)) → WellPlaced s (x >>= k)
unfolding ◌>>=◌
then s (good a) k h f = f a refl
then s (wrong n p) k h f = h

judged : {B : Type 0} (s : List ℕ) (t : Bool) (n p : ℕ) (k : Unit {0} → Judged B) → Placed s n p → (t ≡ true → WellPlaced s (k tt)) → WellPlaced s (judge t n p >>= k)
unfolding ◌>>=◌ judge
judged s true n p k h f = f refl
judged s false n p k h f = h

-- another number may be anywhere inside
not-22 : {s : List ℕ} {number place : ℕ} → (number ≡ 22 → ⊥) → place ≤ length s → Placed s number place
not-22 n l = record { inside = l; no_hash = λ e _. n e }

at-end : (s : List ℕ) (number : ℕ) → Placed s number (length s)
at-end s number = record { inside = omega arith; no_hash = λ _ h. (let z = get_or-eq_default s 0 {n = length s} (omega arith) in omega arith) }

-- ---- a scan ends inside, and a mix at no #
module _ (s : List ℕ) where
  mix-ends : (c : Bool) (l : List ℕ) (i : ℕ) → drop i s ≡ l → (mix c l i ≤ i + length l) × (get_or s (mix c l i) 0 ≡ 35 → ⊥)
  unfolding mix is_white is_end
  mix-ends c [] i e = (omega arith, λ h. (let n = sym (length-drop i s) ∙ ap length e in let z = get_or-eq_default s 0 {n = i} (omega arith) in omega arith))
  mix-ends true (b ∷ l) i e = let h = mix-ends (not (is_end b)) l (i + 1) (dropped s i e).1 in (let n = h.0 in omega arith, h.1)
  mix-ends false (b ∷ l) i e = by (byte b) (λ c. mix-ends c l (i + 1) (dropped s i e).1)
    where
      through : {r : ℕ} → mix false (b ∷ l) i ≡ r → (r ≤ i + 1 + length l) × (get_or s r 0 ≡ 35 → ⊥) → (mix false (b ∷ l) i ≤ i + length (b ∷ l)) × (get_or s (mix false (b ∷ l) i) 0 ≡ 35 → ⊥)
      through q h = (let n = h.0 in omega arith, λ x. h.1 (ap (λ (j : ℕ). get_or s j 0) (sym q) ∙ x))

      by : Byte b → ((c : Bool) → (mix c l (i + 1) ≤ i + 1 + length l) × (get_or s (mix c l (i + 1)) 0 ≡ 35 → ⊥)) → (mix false (b ∷ l) i ≤ i + length (b ∷ l)) × (get_or s (mix false (b ∷ l) i) 0 ≡ 35 → ⊥)
      by (is_space w) h = through (mix-white b l i w) (h false)
      by (is_hash x) h = through (mix-hash b l i (ap is_white x) x) (h true)
      by (is_other w n) h = through (mix-stop b l i w n) (omega arith, λ x. n (sym (dropped s i e).0 ∙ x))

digits-inside : (v : ℕ) (l : List ℕ) (i : ℕ) → (digits_at v l i).1 ≤ i + length l
unfolding digits_at
digits-inside v [] i = omega arith
digits-inside v (b ∷ l) i = by (is_digit b) refl (digits-inside (v * 10 + (b - 48)) l (i + 1))
  where
    by : (t : Bool) → is_digit b ≡ t → (digits_at (v * 10 + (b - 48)) l (i + 1)).1 ≤ i + 1 + length l → (digits_at v (b ∷ l) i).1 ≤ i + length (b ∷ l)
    by true e x = omega (arith, ap (λ (y : ℕ × ℕ). y.1) (digit-more b l i v e))
    by false e x = omega (arith, ap (λ (y : ℕ × ℕ). y.1) (digit-stop b l i v e))

stands-long : (word l : List ℕ) → stands word l ≡ true → length word ≤ length l
unfolding stands
stands-long [] l e = omega arith
stands-long (b ∷ w) [] e = let z : ◌≡◌ {A = ℕ} 0 1 = cc in absurd (omega arith)
stands-long (b ∷ w) (c ∷ l) e = let h = stands-long w l (second-of (eqb c b) (stands w l) e) in omega arith

-- ---- a header's refusals
module _ (s : List ℕ) where
  white-placed : (at : ℕ) → at ≤ length s → WellPlaced s (white s at)
  white-placed at l = by (byte (get_or s at 0))
    where
      ends : (x : Judged ℕ) → Ends (drop at s) at x → WellPlaced s x
      ends (good i) h = tt
      ends (wrong n p) h = subst (Placed s n) (let m = length-drop at s in omega arith) (at-end s n)

      by : Byte (get_or s at 0) → WellPlaced s (white s at)
      by (is_space w) = subst (WellPlaced s) (sym (space-reads s at w)) tt
      by (is_hash h) = subst (WellPlaced s) (sym (comment-reads s at h)) (ends (comment_at (drop at s) at) (comment-ends (drop at s) at))
      by (is_other w n) = subst (WellPlaced s) (sym (other-refused s at w n)) (record { inside = l; no_hash = λ _. n })

  field-placed : (most : ℕ) {number : ℕ} → (number ≡ 22 → ⊥) → (at : ℕ) → at ≤ length s → WellPlaced s (field_at most number s at)
  unfolding field_at
  field-placed most {number} n at h =
      let first = mix false (drop at s) at in
      let d = digits_at 0 (drop first s) first in
      let m = mix-ends s false (drop at s) at refl in
      let a : first ≤ length s = let x = m.0 in let y = length-drop at s in omega arith in
      let b : d.1 ≤ length s = let x = digits-inside 0 (drop first s) first in let y = length-drop first s in omega arith in
      judged s (ltb first d.1) 22 first _ (record { inside = a; no_hash = λ _. m.1 })
      (λ _. then s (white s d.1) _ (white-placed d.1 b)
      (λ i _. judged s (leb 1 d.0 && leb d.0 most) number first _ (not-22 n a) (λ _. tt)))

  header-placed : (at : ℕ) → at ≤ length s → WellPlaced s (header_at s at)
  unfolding header_at
  header-placed at h =
      judged s (stands magic (drop at s)) 21 at _ (not-22 (λ e. omega arith) h)
      (λ e. then s (white s (at + 2)) _ (white-placed (at + 2) (let x = stands-long magic (drop at s) e in let y = length-drop at s in omega arith))
      (λ g e₁. then s (field_at 256 23 s g) _ (field-placed 256 (λ e. omega arith) g (white-in s (at + 2) e₁))
      (λ w e₂. then s (field_at 256 23 s w.next) _ (field-placed 256 (λ e. omega arith) w.next (field_in 256 23 s g e₂).inside) (λ _ _. tt))))

  -- ---- and those of the images
  image-placed : (w h at : ℕ) → at ≤ length s → WellPlaced s (image_at w h s at)
  unfolding image_at
  image-placed w h at l =
      then s (header_at s at) _ (header-placed at l)
      (λ x _. judged s (eqb x.width w && eqb x.height h) 24 at _ (not-22 (λ e. omega arith) l)
      (λ _. judged s (leb (x.next + slice_bytes w h) (length s)) 25 (length s) _ (at-end s 25) (λ _. tt)))

  images-placed : (k w h at : ℕ) → at ≤ length s → WellPlaced s (images_at k w h s at)
  unfolding images_at
  images-placed zero w h at l = judged s (eqb at (length s)) 26 at _ (not-22 (λ e. omega arith) l) (λ _. tt)
  images-placed (suc k) w h at l = by (eqb at (length s)) refl (images-placed k w h)
    where
      by : (t : Bool) → eqb at (length s) ≡ t → ((i : ℕ) → i ≤ length s → WellPlaced s (images_at k w h s i)) → WellPlaced s (images_at (suc k) w h s at)
      by true t ih = subst (WellPlaced s) (sym (images-end w h s at (suc k) (eqb-true at (length s) t))) tt
      by false t ih =
          subst (WellPlaced s) (sym (images-more w h s at (eqb-false at (length s) t) k))
          (then s (image_at w h s at) _ (image-placed w h at l)
          (λ i e. then s (images_at k w h s (i + slice_bytes w h)) _ (ih (i + slice_bytes w h) (image-in w h s at e)) (λ _ _. tt)))

  pub placed : {n p : ℕ} → contents s ≡ wrong n p → Placed s n p
  unfolding contents
  placed e =
      subst (WellPlaced s) e
      (then s (header_at s 0) _ (header-placed 0 (omega arith))
      (λ f _. then s (images_at 256 f.width f.height s 0) _ (images-placed 256 f.width f.height 0 (omega arith)) (λ _ _. tt)))
