-- Images one after another, a step at a time; how many bytes their rows take; and what a stack that is read holds.
use Rattle.std.proofs.Math.Path.{◌≡◌, refl, sym, ap, subst}
use Rattle.std.proofs.Common.{◌∙◌, zero-mul, arith, drop_at, eq-eqb, ne_eqb, eqb-true}
use Rattle.std.specs.Prelude.{Bool, length, drop}
use Rattle.std.proofs.Math.Bool.{true, false}
use mathlib.Core.List.{List, [], ◌∷◌, ◌++◌}
use Prim.Native.Nat.{ℕ, zero, suc, ◌+◌, ◌*◌, ◌≤◌}
use Rattle.std.proofs.Math.Nat.{suc-mul}
use Rattle.std.proofs.Math.ListN.{length-append, length-drop}
use Rattle.std.proofs.Math.Dec.{eqb}
use Rattle.std.proofs.lemmas.Bool.{eqb-false}
use Rattle.rules.specs.Solids.{row_bytes, slice_bytes}
use Rattle.rules.specs.P4.{Judged, good, wrong, ◌>>=◌, judge, rows, image_at, images_at, Header, header_at, stands, sizes, Contents, contents}
use Rattle.stack.specs.Sides.{Sides}
use Rattle.p4_laws.specs.Judging.{made, passed, pass, fail}
use Rattle.p4_laws.specs.Rows.{length-rows, rows-twice, rows_more}
use Rattle.p4_laws.specs.Headers.{header-in, image-in}

-- an image and those behind it
abbrev pub followed : ℕ → ℕ → ℕ → List ℕ → ℕ → Judged (ℕ × List ℕ)
followed left w h s place = do
  more ← images_at left w h s (place + slice_bytes w h)
  good (suc more.0, rows h w (drop place s) ++ more.1)

module _ (w h : ℕ) (s : List ℕ) (at : ℕ) where
  pub images-end : (k : ℕ) → at ≡ length s → images_at k w h s at ≡ good (0, [])
  unfolding images_at
  images-end zero e = pass 26 at _ (eq-eqb at (length s) e)
  images-end (suc k) e = rw (eq-eqb at (length s) e, images_at)

  module _ (n : at ≡ length s → ⊥) where
    pub images-full : images_at 0 w h s at ≡ wrong 26 at
    unfolding images_at
    images-full = fail 26 at _ (ne_eqb at (length s) n)

    pub images-more : (k : ℕ) → images_at (suc k) w h s at ≡ (image_at w h s at >>= followed k w h s)
    unfolding images_at
    images-more k = rw (ne_eqb at (length s) n, images_at)

-- ---- so many images, so many bytes, and their padding bits are zero
pub record Counted (w h k : ℕ) (ends : Bool) (f : ℕ × List ℕ) : Type 0 where
  pub few : f.0 ≤ k
  pub some : ends ≡ false → 1 ≤ f.0
  pub bytes : length f.1 ≡ f.0 * slice_bytes w h
  pub clean : rows (f.0 * h) w f.1 ≡ f.1

module _ (w h : ℕ) (wide : 1 ≤ w) (s : List ℕ) where
  rows_of : (at : ℕ) {i : ℕ} → image_at w h s at ≡ good i → length (rows h w (drop i s)) ≡ slice_bytes w h
  unfolding slice_bytes
  rows_of at {i} e = let n = image-in w h s at e in length-rows w wide h (drop i s) (simp length-drop (omega arith))

  none : (k : ℕ) {t : Bool} → t ≡ true → Counted w h k t (0, [])
  unfolding rows
  none k e = record {
    few = omega arith;
    some = λ f. (let z : ◌≡◌ {A = ℕ} 0 1 = cc in absurd (omega arith));
    bytes = sym (zero-mul (slice_bytes w h));
    clean = ap (λ (x : ℕ). rows x w []) (zero-mul h);
  }

  one_more : (k at : ℕ) {i d : ℕ} {t u : Bool} {l : List ℕ} → image_at w h s at ≡ good i → Counted w h k t (d, l) → Counted w h (suc k) u (suc d, rows h w (drop i s) ++ l)
  unfolding slice_bytes
  one_more k at {i} {d} {l = l} e C =
      let x = rows h w (drop i s) in
      let n = rows_of at e in
      let m = image-in w h s at e in
      let a = C.few in
      let b = C.bytes in
      let q = suc-mul d (slice_bytes w h) in
      record {
        few = omega arith;
        some = λ _. omega arith;
        bytes = simp length-append (omega arith);
        clean =
            rows_more h d w (x ++ l)
            ∙ (λ j. rows-twice w wide h (drop i s) l (simp length-drop (omega arith)) j ++ rows (d * h) w (drop_at x l (h * row_bytes w) n j))
            ∙ ap (λ (y : List ℕ). x ++ y) C.clean;
      }

  pub counted : (k at : ℕ) {f : ℕ × List ℕ} → images_at k w h s at ≡ good f → Counted w h k (eqb at (length s)) f
  unfolding images_at
  counted zero at {f} e =
      let p = passed 26 at (λ _. good (0, [])) (eqb at (length s)) e in
      let g : (0, []) ≡ f = let x = p.1 in cc in
      subst (Counted w h 0 (eqb at (length s))) g (none 0 p.0)
  counted (suc k) at {f} e = by (eqb at (length s)) refl (λ i g q. counted k i q)
    where
      by : (t : Bool) → eqb at (length s) ≡ t → ((i : ℕ) (g : ℕ × List ℕ) → images_at k w h s i ≡ good g → Counted w h k (eqb i (length s)) g) → Counted w h (suc k) (eqb at (length s)) f
      by true t ih =
          let g : (0, []) ≡ f = let x = sym (images-end w h s at (suc k) (eqb-true at (length s) t)) ∙ e in cc in
          subst (Counted w h (suc k) (eqb at (length s))) g (none (suc k) t)
      by false t ih =
          let m = made _ (image_at w h s at) (sym (images-more w h s at (eqb-false at (length s) t) k) ∙ e) in
          let r = made _ (images_at k w h s (m.0 + slice_bytes w h)) m.2 in
          let g : (suc r.0.0, rows h w (drop m.0 s) ++ r.0.1) ≡ f = let x = r.2 in cc in
          subst (Counted w h (suc k) (eqb at (length s))) g (one_more k at m.1 (ih (m.0 + slice_bytes w h) r.0 r.1))

-- ---- a stack that is read
pub record ReadHolds (c : Contents) : Type 0 where
  pub w : ℕ
  pub h : ℕ
  pub d : ℕ
  pub stack_is : c.stack ≡ sizes w h d
  pub sides : Sides w h d
  pub many : length c.bytes ≡ d * slice_bytes w h
  pub clean : rows (d * h) w c.bytes ≡ c.bytes

-- an empty input has no header, so a stack has an image
not-empty : (s : List ℕ) {h : Header} → header_at s 0 ≡ good h → eqb 0 (length s) ≡ false
unfolding header_at stands ◌>>=◌ judge
not-empty [] {h} e = let z : ◌≡◌ {A = ℕ} 0 1 = cc in absurd (omega arith)
not-empty (b ∷ s) e = ne_eqb 0 (length (b ∷ s)) (λ f. omega arith)

pub read-holds : (s : List ℕ) {c : Contents} → contents s ≡ good c → ReadHolds c
unfolding contents
read-holds s {c} e =
    let a = made _ (header_at s 0) e in
    let w = a.0.width in
    let h = a.0.height in
    let b = made _ (images_at 256 w h s 0) a.2 in
    let g : record { stack = sizes w h b.0.0; bytes = b.0.1 } ≡ c = let x = b.2 in cc in
    let i = header-in s 0 a.1 in
    let n = counted w h i.wide.some s 256 0 b.1 in
    subst ReadHolds g
    (record {
      w = w;
      h = h;
      d = b.0.0;
      stack_is = refl;
      sides = record { wide = i.wide; high = i.high; deep = record { some = n.some (not-empty s a.1); most = n.few } };
      many = n.bytes;
      clean = n.clean;
    })
