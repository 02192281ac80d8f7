-- The slices, each a header and its rows behind those before it; and each way out of the writer.
use Rattle.std.proofs.Common.{◌≡◌, refl, sym, ap, subst, ◌∙◌, add-one, Bool, false, List, ◌++◌, ℕ, zero, suc, ◌+◌, ◌-◌, ◌*◌, ◌≤◌, ◌<◌, length, take, drop, zero-add, zero-mul, arith, append_assoc, length-append, length-drop, drop-drop}
use Rattle.std.proofs.Math.Dec.{leb}
use Rattle.std.proofs.lemmas.Bool.{le-leb, lt-leb}
use Rattle.std.proofs.Math.Nat.{suc-mul, mul-le-mul, mul-le-mul_right}
use Rattle.std.proofs.lemmas.List.{append-nil, take_all}
use Rattle.std.proofs.Math.Seq.{sets, sets-eq}
use Rattle.rules.specs.declared.Stack.{Stack}
use Rattle.rules.specs.declared.RefusedStack.{RefusedStack}
use Rattle.rules.specs.Answers.{Writing, refused_stack}
use Rattle.std.specs.Prelude.{Ok as Written, Err as Unwritten}
use Rattle.rules.specs.Solids.{row_bytes, slice_bytes, stack_bytes, permitted_stack}
use Rattle.rules.specs.P4.{Judged, good, wrong, ◌>>=◌, judge, rows, plain_header, slices, plain, sizes, writing, write_answer, stored, WritePromise}
use Rattle.stack.specs.Sides.{Sized, stack_is, permits, cast, side-kept, side-cast}
use Rattle.stack.specs.Bytes.{SliceSides, SliceBytes}
use Rattle.text.specs.declared.Writer.{Writer}
use Rattle.text.specs.Put.{Room, Put}
use Rattle.text.specs.Puts.{put_then, put_as, put-length, room-first, room-then}
use Rattle.p4_laws.specs.Judging.{pass, fail}
use Rattle.p4_laws.specs.Plain.{header-length, slices-length, slice_rows}
use Rattle.p4_rows.specs.Copies.{CopyRoom}
use Rattle.p4_write.specs.Slices.{Figures, SlicesAsk, SlicesRoom}

-- ---- the loop
module _ (w h : ℕ) where
  slices-next : (z : ℕ) (bs : List ℕ) → slices (suc z) w h bs ≡ slices z w h bs ++ (plain_header w h ++ rows h w (drop (z * slice_bytes w h) bs))
  unfolding slices
  slices-next zero bs =
      ap (λ (l : List ℕ). plain_header w h ++ l) (append-nil (rows h w bs))
      ∙ ap (λ (k : ℕ). plain_header w h ++ rows h w (drop k bs)) (sym (zero-mul (slice_bytes w h)))
  slices-next (suc z) bs =
      let n = slice_bytes w h in
      let H = plain_header w h in
      let last = H ++ rows h w (drop (suc z * n) bs) in
      let m = suc-mul z n in
      let k : n + z * n ≡ suc z * n = omega arith in
      ap (λ (l : List ℕ). H ++ (rows h w bs ++ l)) (slices-next z (drop n bs)
      ∙ ap (λ (l : List ℕ). slices z w h (drop n bs) ++ (H ++ rows h w l)) (drop-drop (z * n) n bs ∙ ap (λ (x : ℕ). drop x bs) k))
      ∙ ap (λ (l : List ℕ). H ++ l) (sym (append_assoc (rows h w bs) (slices z w h (drop n bs)) last))
      ∙ sym (append_assoc H (rows h w bs ++ slices z w h (drop n bs)) last)

pub slices-start : (w h : ℕ) (bytes : List ℕ) {u : Writer} → Put u (slices 0 w h bytes) u
unfolding slices
slices-start w h bytes = record { is = refl; past = omega arith; lent = refl }

module _ {w h d z : ℕ} {bytes : List ℕ} {u v : Writer} (S : SlicesRoom w h d bytes u) (P : Put u (slices z w h bytes) v) (l : z < d) where
  here : List ℕ
  here = drop (z * slice_bytes w h) bytes

  -- a slice takes so many bytes more
  pub further : z * slice_bytes w h + slice_bytes w h ≤ length bytes
  further = let s = S.ask.source in let m = suc-mul z (slice_bytes w h) in let k = mul-le-mul_right (slice_bytes w h) l in omega arith

  rows-many : length (rows h w here) ≡ slice_bytes w h
  unfolding here
  rows-many = let f = further in slice_rows w h S.ask.sides.wide.some here (simp length-drop (omega arith))

  room : Room v (plain_header w h ++ rows h w here)
  room =
      let some = S.ask.sides.wide.some in
      let n = length (plain_header w h) + slice_bytes w h in
      let f = further in
      let a = slices-length w h some z bytes (omega arith) in
      let b = slices-length w h some d bytes S.ask.source in
      let c = length-append (plain_header w h) (rows h w here) in
      let m = suc-mul z n in
      let k = mul-le-mul_right n l in
      let r = rows-many in
      let t = S.room.fits in
      let p = P.past in
      let e = put-length P in
      record { fits = omega arith }

  pub header-room : Room v (plain_header w h)
  header-room = room-first (plain_header w h) (rows h w here) room

  module _ {x : Writer} {size : ℕ} (Z : SliceBytes w h size) (A : Put v (plain_header w h) x) where
    -- the bytes from the slice's first on
    rest-is : take (length bytes - z * size) (drop (z * size) bytes) ≡ here
    unfolding here
    rest-is =
        take_all (length bytes - z * size) (drop (z * size) bytes) (simp length-drop (omega arith))
        ∙ ap (λ (k : ℕ). drop (z * k) bytes) Z.is

    -- for these rows, or fewer
    pub copy-room : (g : ℕ) → g ≤ h → CopyRoom (take (length bytes - z * size) (drop (z * size) bytes)) x (slice_bytes w g)
    copy-room g few = let few_bytes : slice_bytes w g ≤ slice_bytes w h = unfold slice_bytes in mul-le-mul_right (row_bytes w) few in
        rw rest-is (record {
          source = let f = further in unfold here in simp length-drop (omega arith);
          target = let t = (room-then (rows h w here) room A).fits in let r = rows-many in omega arith;
        })

    pub slices-more : {y : Writer} → Put x (rows h w (take (length bytes - z * size) (drop (z * size) bytes))) y → Put u (slices (z + 1) w h bytes) y
    slices-more B = rw add-one (put_as (sym (slices-next w h z bytes)) (unfold here in put_then P (put_then A (rw rest-is at B))))

-- ---- each way out of the writer
pub write-refused : (k : Stack) (bytes out : List ℕ) {t : Bool} {r : RefusedStack} → t ≡ permitted_stack k bytes → t ≡ false → r ≡ record { number = 3; value = 0 } → WritePromise k bytes out out (Unwritten r)
unfolding writing write_answer stored
write-refused k bytes out e f g =
    let q : writing k bytes (length out) ≡ wrong 3 0 = fail 3 0 _ (sym e ∙ f) in
    record { answers = ap Unwritten g ∙ sym (ap write_answer q); leaves = sym (ap (λ (x : Judged (List ℕ)). stored (λ l. l) x out) q) }

module _ {bytes : List ℕ} {w h d size a b : ℕ} (S : SlicesAsk w h d bytes) (Z : SliceBytes w h size) (A : Figures w a) (B : Figures h b) where
  pub need-small : d * (5 + a + b + size) ≤ 2099968
  need-small = let x = A.few in let y = B.few in let z = Z.small in let k : 5 + a + b + size ≤ 8203 = omega arith in mul-le-mul S.sides.deep.most k

  needed : d * (5 + a + b + size) ≡ length (slices d w h bytes)
  needed =
      let x = A.is in
      let y = B.is in
      let z = Z.is in
      let k : 5 + a + b + size ≡ length (plain_header w h) + slice_bytes w h = omega (arith, header-length w h) in
      ap (λ (v : ℕ). d * v) k ∙ sym (slices-length w h S.sides.wide.some d bytes S.source)

  judged : (n : ℕ) → writing (sizes w h d) bytes n ≡ (judge (leb (length (slices d w h bytes)) n) 27 (length (slices d w h bytes)) >>= λ _. good (slices d w h bytes))
  unfolding writing plain
  judged n = pass 3 0 _ (permits bytes S.sides S.source)

  pub stack-short : {out : List ℕ} {r : RefusedStack} → length out < d * (5 + a + b + size) → r ≡ record { number = 27; value = d * (5 + a + b + size) } → WritePromise (sizes w h d) bytes out out (Unwritten r)
  unfolding write_answer stored
  stack-short {out} s g =
      let n = needed in
      let q : writing (sizes w h d) bytes (length out) ≡ wrong 27 (length (slices d w h bytes)) = judged (length out) ∙ fail 27 _ _ (lt-leb (length (slices d w h bytes)) (length out) (omega arith)) in
      record { answers = ap Unwritten g ∙ ap (refused_stack 27) n ∙ sym (ap write_answer q); leaves = sym (ap (λ (x : Judged (List ℕ)). stored (λ l. l) x out) q) }

  module _ {u : Writer} (front : u.at ≡ 0) (s : d * (5 + a + b + size) ≤ length u.out.now) where
    pub slices-room : SlicesRoom w h d bytes u
    slices-room = let n = needed in record { ask = S; room = record { fits = omega arith } }

    pub stack-written : {v : Writer} {after : List ℕ} → Put u (slices d w h bytes) v → after ≡ v.out.now → WritePromise (sizes w h d) bytes u.out.now after (Written v.at)
    unfolding write_answer stored
    stack-written P kept =
        let L = slices d w h bytes in
        let out = u.out.now in
        let t = slices-room.room.fits in
        let q : writing (sizes w h d) bytes (length out) ≡ good L = judged (length out) ∙ pass 27 _ _ (le-leb (length L) (length out) (omega arith)) in
        record {
          answers = ap Written (P.past ∙ ap (λ (x : ℕ). x + length L) front ∙ zero-add (length L)) ∙ sym (ap write_answer q);
          leaves =
              kept
              ∙ P.is
              ∙ ap (λ (x : ℕ). sets out x L) front
              ∙ sets-eq L out 0 (omega arith)
              ∙ ap (λ (x : ℕ). L ++ drop x out) (zero-add (length L))
              ∙ sym (ap (λ (x : Judged (List ℕ)). stored (λ l. l) x out) q);
        }

-- ---- a permitted stack, its sides cast
module _ {k : Stack} {bytes : List ℕ} (S : Sized k bytes) where
  same : sizes (cast k.width) (cast k.height) (cast k.depth) ≡ k
  same = let s = S.of in (λ i. sizes (side-kept s.wide i) (side-kept s.high i) (side-kept s.deep i)) ∙ sym (stack_is s)

  pub slices-ask : SlicesAsk (cast k.width) (cast k.height) (cast k.depth) bytes
  unfolding stack_bytes
  slices-ask =
      let s = S.of in
      record {
        sides = record { wide = side-cast s.wide; high = side-cast s.high; deep = side-cast s.deep };
        source = subst (λ (x : Stack). stack_bytes x ≤ length bytes) (sym same) S.enough;
      }

  pub slice-sides : SliceSides (cast k.width) (cast k.height)
  slice-sides = let s = S.of in record { wide = side-cast s.wide; high = (side-cast s.high).most }

  pub write-cast : {out after : List ℕ} {x : Writing} → WritePromise (sizes (cast k.width) (cast k.height) (cast k.depth)) bytes out after x → WritePromise k bytes out after x
  write-cast {out} {after} {x} W = subst (λ (y : Stack). WritePromise y bytes out after x) same W
