-- The loop that stores the rows: those of the images left, stored behind the others, give the whole. All images were judged, so none is refused.
use Rattle.std.specs.Prelude.{◌≡◌, refl, List, ℕ, suc, ◌+◌, ◌-◌, ◌*◌, ◌≤◌, ◌<◌, length, take, drop, Result, Ok, Err}
use Rattle.std.proofs.Common.{sym, ap, ◌∙◌, arith, zero-mul, add-one, length-drop, take_all}
use Rattle.std.proofs.Math.Nat.{suc-mul, sub-zero, mul-le-mul_right}
use Rattle.std.proofs.lemmas.List.{nil_from_length}
use Rattle.std.proofs.lemmas.List.Edits.{sets}
use Rattle.std.specs.Result.{IsOk}
use Rattle.rules.specs.declared.RefusedStack.{RefusedStack}
use Rattle.rules.specs.Solids.{slice_bytes}
use Rattle.rules.specs.P4.{Judged, good, wrong, ◌>>=◌, rows, image_at, images_at}
use Rattle.stack.specs.Bytes.{SliceSides, SliceBytes}
use Rattle.text.specs.declared.Writer.{Writer}
use Rattle.text.specs.Put.{Put}
use Rattle.text.specs.Puts.{sets-append, put-length, put_as}
use Rattle.p4_laws.specs.Judging.{on, off, made}
use Rattle.p4_laws.specs.Rows.{length-rows}
use Rattle.p4_laws.specs.Images.{followed, images-end, counted}
use Rattle.p4_rows.specs.Copies.{CopyRoom}
use Rattle.p4_header.specs.Reads.{judged_place}
use Rattle.p4_read.specs.Images.{ImageIs, depth_read, rows_read, StoreRoom}
use Rattle.p4_read.proofs.Keeping.{rows_in, images-next}

-- what is judged to be so many images is good
pub read_good : {d : ℕ} (x : Judged (ℕ × List ℕ)) → Ok d ≡ depth_read x → x ≡ good (d, rows_read x)
read_good (good (k, l)) e = let q : k ≡ _ = cc in ap (λ (n : ℕ). good (n, l)) q
read_good (wrong n p) e = let z : ◌≡◌ {A = ℕ} 0 1 = cc in absurd (omega arith)

-- the input from a place on, as code parts it
from_place : (s : List ℕ) (i : ℕ) → take (length s - i) (drop i s) ≡ drop i s
from_place s i = take_all (length s - i) (drop i s) (omega (arith, length-drop i s))

abbrev many : Judged (ℕ × List ℕ) → ℕ
many (good f) = f.0
many (wrong n p) = 0

pub record Storing (w h : ℕ) (s : List ℕ) (depth : ℕ) (first writer : Writer) (at z : ℕ) : Type 0 where
  pub lent : writer.out.ghost_name ≡ first.out.ghost_name
  pub same : length writer.out.now ≡ length first.out.now
  pub inside : at ≤ length s
  pub reached : writer.at ≡ z * slice_bytes w h
  pub left : List ℕ
  pub follow : images_at (256 - z) w h s at ≡ good (depth - z, left)
  pub rest : sets writer.out.now writer.at left ≡ sets first.out.now 0 (rows_read (images_at 256 w h s 0))

module _ {w h : ℕ} {s : List ℕ} {depth : ℕ} (first : Writer) (sides : SliceSides w h) (R : StoreRoom w h s depth first.out.now) where
  depth_few : depth ≤ 256
  depth_few = (counted w h sides.wide.some s 256 0 (read_good (images_at 256 w h s 0) R.images)).few

  pub storing-start : first.at ≡ 0 → Storing w h s depth first first 0 0
  storing-start e = record {
    lent = refl;
    same = refl;
    inside = omega arith;
    reached = e ∙ sym (zero-mul (slice_bytes w h));
    left = rows_read (images_at 256 w h s 0);
    follow = read_good (images_at 256 w h s 0) R.images ∙ ap (λ (n : ℕ). good (n, rows_read (images_at 256 w h s 0))) (sym (sub-zero depth));
    rest = ap (λ (n : ℕ). sets first.out.now n (rows_read (images_at 256 w h s 0))) e;
  }

  module _ {writer : Writer} {at z : ℕ} (S : Storing w h s depth first writer at z) where
    pub storing-end : depth ≤ z → writer.out.now ≡ sets first.out.now 0 (rows_read (images_at 256 w h s 0))
    storing-end l =
        let none : depth - z ≡ 0 = omega arith in
        let n = (counted w h sides.wide.some s (256 - z) at S.follow).bytes in
        let k = ap (λ (x : ℕ). x * slice_bytes w h) none in
        let m = zero-mul (slice_bytes w h) in
        ap (sets writer.out.now writer.at) (sym (nil_from_length S.left (omega arith))) ∙ S.rest

    module _ (l : z < depth) where
      -- the slice lies inside the buffer
      slice-room : writer.at + slice_bytes w h ≤ length first.out.now
      slice-room =
          let a = S.reached in
          let b = suc-mul z (slice_bytes w h) in
          let c : suc z * slice_bytes w h ≤ depth * slice_bytes w h = mul-le-mul_right (slice_bytes w h) l in
          let d = R.target in
          omega arith

      -- and the input goes on
      goes-on : at ≡ length s → ⊥
      goes-on e = let x = ap many (sym (images-end w h s at (256 - z) e) ∙ S.follow) in omega arith

      next : (image_at w h s at >>= followed (256 - (z + 1)) w h s) ≡ good (depth - z, S.left)
      next = let few = depth_few in sym (images-next w h s (omega arith) goes-on) ∙ S.follow

      storing-not : {e : RefusedStack} → ImageIs w h s at (Err e) → ⊥
      storing-not F = let x = sym (off _ (sym F.is)) ∙ next in let z : ◌≡◌ {A = ℕ} 0 1 = cc in omega arith

      some : (r : Result ℕ RefusedStack) → ImageIs w h s at r → IsOk r
      some (Ok i) F = search
      some (Err e) F = absurd (storing-not F)

      pub storing-some : {r : Result ℕ RefusedStack} → ImageIs w h s at r → IsOk r
      storing-some {r} F = some r F

      module _ {r : Result ℕ RefusedStack} (F : ImageIs w h s at r) {i : ℕ} (e : r ≡ Ok i) where
        pub storing-room : CopyRoom (take (length s - i) (drop i s)) writer (slice_bytes w h)
        storing-room =
            let x = slice-room in
            let same = S.same in
            let u = rows_in F e in
            let n = ap length (from_place s i) ∙ length-drop i s in
            record { source = omega arith; target = omega arith }

        pub storing-next : {after : Writer} → Put writer (rows h w (take (length s - i) (drop i s))) after → {c : ℕ} → SliceBytes w h c → Storing w h s depth first after (i + c) (z + 1)
        unfolding slice_bytes
        storing-next {after} copied {c} C =
            let P = put_as (ap (rows h w) (from_place s i)) copied in
            let a = S.same in
            let b = S.reached in
            let size = C.is in
            let u = rows_in F e in
            let g = suc-mul z (slice_bytes w h) in
            let k = ap (λ (x : ℕ). x * slice_bytes w h) (add-one z) in
            let these = rows h w (drop i s) in
            let long : length these ≡ slice_bytes w h = length-rows w sides.wide.some h (drop i s) (simp length-drop (omega arith)) in
            let m = made _ (images_at (256 - (z + 1)) w h s (i + slice_bytes w h)) (sym (on _ (sym F.is ∙ ap judged_place e)) ∙ next) in
            let fewer = ap many m.2 in
            let v : m.0.0 ≡ depth - (z + 1) = omega arith in
            let q = P.past in
            record {
              lent = P.lent ∙ S.lent;
              same = put-length P ∙ a;
              inside = omega arith;
              reached = omega arith;
              left = m.0.1;
              follow = (λ j. images_at (256 - (z + 1)) w h s (i + size j)) ∙ m.1 ∙ ap (λ (n : ℕ). good (n, m.0.1)) v;
              rest =
                  (λ j. sets (P.is j) (P.past j) m.0.1)
                  ∙ sym (sets-append writer.out.now writer.at these m.0.1)
                  ∙ ap (λ (x : Judged (ℕ × List ℕ)). sets writer.out.now writer.at (rows_read x)) m.2
                  ∙ S.rest;
            }
