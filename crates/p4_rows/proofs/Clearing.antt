-- The loop that clears: what is left to clear gives the whole. And a plain copy with its padding cleared is the rows.
use mathlib.Core.Path.{◌≡◌, refl, sym, ap, ◌∙◌}
use mathlib.Core.List.{List, [], ◌∷◌, ◌++◌}
use Prim.Native.Nat.{ℕ, zero, suc, ◌+◌, ◌-◌, ◌*◌, ◌/◌, ◌%◌, ◌^◌, ◌≤◌, ◌<◌}
use native.Mathlib.Nat.{sub-zero, suc-mul, zero-mul, div-mul-le_self, mod-eq_of_lt}
use native.Mathlib.Omega.{arith}
use lib.ListN.{length, get_or, take, drop, set, length-drop}
use lib.Seq.{sets, length-sets, set-get_or, set-set, get_or-set_same, take-add, length-take-le, take-suc}
use Rattle.rules.specs.Solids.{row_bytes, slice_bytes}
use Rattle.rules.specs.P4.{padding, cut, row, rows}
use Rattle.stack.specs.Bytes.{SliceSides, RowBytes, SliceBytes}
use Rattle.text.specs.declared.Writer.{Writer}
use Rattle.text.specs.Put.{Put}
use Rattle.text.specs.Puts.{sets-append, put-length}
use Rattle.p4_laws.specs.Stores.{set-sets}
use Rattle.p4_laws.specs.Rows.{row-some, length-row}
use Rattle.p4_laws.specs.Plain.{slice_rows}
use Rattle.p4_rows.specs.Copies.{Padding, CopyRoom, cleared}

pub padding-none : (w : ℕ) → w % 8 ≡ 0 → padding w ≡ 0
unfolding padding row_bytes
padding-none w e = omega arith

pub shifts : (b k : ℕ) → b < 256 → b / 2 ^ k * 2 ^ k % 256 ≡ b / 2 ^ k * 2 ^ k
shifts b k h = let d = div-mul-le_self b (2 ^ k) in mod-eq_of_lt (omega arith)

-- ---- the loop

pub record Clearing (first : List ℕ) (at w count : ℕ) (out : List ℕ) (o i : ℕ) : Type 0 where
  pub room : o + (count - i) * row_bytes w ≤ length first
  pub rest : cleared (count - i) w out o ≡ cleared count w first at

pub clearing-start : {out : List ℕ} {at w count : ℕ} → at + slice_bytes w count ≤ length out → Clearing out at w count out at 0
unfolding slice_bytes
clearing-start {out} {at} {w} {count} R = record { room = rw sub-zero R; rest = ap (λ (x : ℕ). cleared x w out at) (sub-zero count) }

module _ {first out : List ℕ} {at w count o i : ℕ} (C : Clearing first at w count out o i) where
  module _ {b : ℕ} (h : i < count) (B : RowBytes w b) where
    counted : count - i ≡ suc (count - (i + 1))
    counted = omega arith

    less : (count - i) * row_bytes w ≡ row_bytes w + (count - (i + 1)) * row_bytes w
    less = ap (λ (x : ℕ). x * row_bytes w) counted ∙ (let n = suc-mul (count - (i + 1)) (row_bytes w) in omega arith)

    pub clearing-room : o + b ≤ length first
    clearing-room = let r = C.room in let e = B.is in let m = less in omega arith

    pub clearing-next : {p v : ℕ} → Padding w p → v ≡ get_or out (o + (b - 1)) 0 / 2 ^ p * 2 ^ p
        → Clearing first at w count (set out (o + (b - 1)) v) (o + b) (i + 1)
    unfolding cleared cut
    clearing-next {p} {v} P g = record {
      room = let r = C.room in let e = B.is in let m = less in omega arith;
      rest =
          ap (λ (x : ℕ). cleared (count - (i + 1)) w (set out (o + (b - 1)) x) (o + b)) (g ∙ ap (λ (x : ℕ). get_or out (o + (b - 1)) 0 / 2 ^ x * 2 ^ x) P.is)
          ∙ ap (λ (x : ℕ). cleared (count - (i + 1)) w (set out (o + (x - 1)) (cut w (get_or out (o + (x - 1)) 0))) (o + x)) B.is
          ∙ ap (λ (x : ℕ). cleared x w out o) (sym counted)
          ∙ C.rest;
    }

  pub clearing-end : count ≤ i → out ≡ cleared count w first at
  unfolding cleared
  clearing-end h = let k : 0 ≡ count - i = omega arith in ap (λ (x : ℕ). cleared x w out o) k ∙ C.rest

-- ---- a plain copy, cleared

pub cleared-none : (r w : ℕ) (out : List ℕ) (at : ℕ) → padding w ≡ 0 → cleared r w out at ≡ out
unfolding cleared cut
cleared-none zero w out at e = refl
cleared-none (suc r) w out at e =
    let i = at + (row_bytes w - 1) in
    let b = get_or out i 0 in
    let k : b / 2 ^ padding w * 2 ^ padding w ≡ b = ap (λ (x : ℕ). b / 2 ^ x * 2 ^ x) e ∙ omega arith in
    ap (λ (x : List ℕ). cleared r w x (at + row_bytes w)) (ap (set out i) k ∙ set-get_or out i 0) ∙ cleared-none r w out (at + row_bytes w) e

module _ (w : ℕ) (some : 1 ≤ w) where
  -- one row of a plain copy, whatever is stored behind it
  module _ (out bs rest : List ℕ) (at : ℕ) (enough : row_bytes w ≤ length bs) (room : at + row_bytes w ≤ length out) where
    last : ℕ
    last = at + (row_bytes w - 1)

    body : List ℕ
    body = sets out at (take (row_bytes w - 1) bs)

    body-length : length (take (row_bytes w - 1) bs) ≡ row_bytes w - 1
    body-length = length-take-le (row_bytes w - 1) bs (omega arith)

    ended : (v : ℕ) → sets out at (take (row_bytes w - 1) bs ++ (v ∷ [])) ≡ set body last v
    unfolding last body
    ended v = sets-append out at (take (row_bytes w - 1) bs) (v ∷ []) ∙ ap (λ (k : ℕ). set (sets out at (take (row_bytes w - 1) bs)) (at + k) v) body-length

    whole : take (row_bytes w) bs ≡ take (row_bytes w - 1) bs ++ (get_or bs (row_bytes w - 1) 0 ∷ [])
    whole = let n = row-some w some in let k : row_bytes w ≡ suc (row_bytes w - 1) = omega arith in ap (λ (x : ℕ). take x bs) k ∙ take-suc bs (row_bytes w - 1) 0 (omega arith)

    stored : List ℕ
    stored = sets body (at + row_bytes w) rest

    at_last : (v : ℕ) → sets (set body last v) (at + row_bytes w) rest ≡ set stored last v
    unfolding stored last
    at_last v = let n = row-some w some in set-sets body (at + (row_bytes w - 1)) (at + row_bytes w) v rest (omega arith)

    plain : sets (sets out at (take (row_bytes w) bs)) (at + row_bytes w) rest ≡ set stored last (get_or bs (row_bytes w - 1) 0)
    plain = ap (λ (l : List ℕ). sets l (at + row_bytes w) rest) (ap (sets out at) whole ∙ ended (get_or bs (row_bytes w - 1) 0)) ∙ at_last (get_or bs (row_bytes w - 1) 0)

    last-in : last < length stored
    unfolding last stored body
    last-in = let n = row-some w some in simp length-sets (omega arith)

    row_cut :
        (let x = sets (sets out at (take (row_bytes w) bs)) (at + row_bytes w) rest in set x (at + (row_bytes w - 1)) (cut w (get_or x (at + (row_bytes w - 1)) 0)))
        ≡ sets (sets out at (row w bs)) (at + row_bytes w) rest
    unfolding last row
    row_cut =
        let b = get_or bs (row_bytes w - 1) 0 in
        ap (λ (x : List ℕ). set x last (cut w (get_or x last 0))) plain
        ∙ ap (λ (v : ℕ). set (set stored last b) last (cut w v)) (get_or-set_same stored last b 0 last-in)
        ∙ set-set stored last b (cut w b)
        ∙ sym (at_last (cut w b))
        ∙ ap (λ (l : List ℕ). sets l (at + row_bytes w) rest) (sym (ended (cut w b)))

  pub cleared-rows : (r : ℕ) (out bs : List ℕ) (at : ℕ) → r * row_bytes w ≤ length bs → at + r * row_bytes w ≤ length out
      → cleared r w (sets out at (take (r * row_bytes w) bs)) at ≡ sets out at (rows r w bs)
  unfolding cleared rows
  cleared-rows zero out bs at h l = ap (λ (k : ℕ). sets out at (take k bs)) (zero-mul (row_bytes w))
  cleared-rows (suc r) out bs at h l =
      let n = row_bytes w in
      let m = suc-mul r n in
      let f : suc r * n ≡ n + r * n = omega arith in
      let t = take (r * n) (drop n bs) in
      let a : length (take n bs) ≡ n = length-take-le n bs (omega arith) in
      let e : sets out at (take (suc r * n) bs) ≡ sets (sets out at (take n bs)) (at + n) t =
      ap (λ (k : ℕ). sets out at (take k bs)) f
      ∙ ap (sets out at) (take-add n (r * n) bs)
      ∙ sets-append out at (take n bs) t
      ∙ ap (λ (k : ℕ). sets (sets out at (take n bs)) (at + k) t) a in
      ap (λ (x : List ℕ). cleared (suc r) w x at) e
      ∙ ap (λ (x : List ℕ). cleared r w x (at + n)) (row_cut out bs t at (omega arith) (omega arith))
      ∙ cleared-rows r (sets out at (row w bs)) (drop n bs) (at + n) (simp length-drop (omega arith)) (simp length-sets (omega arith))
      ∙ ap (λ (k : ℕ). sets (sets out at (row w bs)) (at + k) (rows r w (drop n bs))) (sym (length-row w some bs (omega arith)))
      ∙ sym (sets-append out at (row w bs) (rows r w (drop n bs)))

-- ---- both ways out of the copy of a slice's rows
module _ {src : List ℕ} {u v : Writer} {w h size : ℕ} (S : SliceSides w h) (R : CopyRoom src u (slice_bytes w h)) (Z : SliceBytes w h size) (P : Put u (take size src) v) where
  copied : cleared h w v.out.now u.at ≡ sets u.out.now u.at (rows h w src)
  unfolding slice_bytes
  copied =
      ap (λ (l : List ℕ). cleared h w l u.at) (P.is ∙ ap (λ (k : ℕ). sets u.out.now u.at (take k src)) Z.is)
      ∙ cleared-rows w S.wide.some h u.out.now src u.at R.source R.target

  behind : v.at ≡ u.at + length (rows h w src)
  behind = let e = P.past in let z = Z.is in let s = R.source in let l = slice_rows w h S.wide.some src R.source in omega (arith, length-take-le size src (omega arith))

  pub rows_whole : w % 8 ≡ 0 → Put u (rows h w src) v
  rows_whole e = record { is = sym (cleared-none h w v.out.now u.at (padding-none w e)) ∙ copied; past = behind; lent = P.lent }

  pub rows-cleared : {x : Writer} → x.out.now ≡ cleared h w v.out.now u.at → x.at ≡ v.at → x.out.ghost_name ≡ v.out.ghost_name → Put u (rows h w src) x
  rows-cleared e a n = record { is = e ∙ copied; past = a ∙ behind; lent = n ∙ P.lent }

  pub clear_room : u.at + slice_bytes w h ≤ length v.out.now
  clear_room = let t = R.target in omega (arith, put-length P)
