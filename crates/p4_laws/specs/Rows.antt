-- Rows with padding bits zero: their length, rows after rows, rows of rows, and that no bit in use changes.
use Rattle.std.specs.Prelude.{◌≡◌, Bool, drop}
use Rattle.std.proofs.Math.Path.{refl, sym, ap}
use Rattle.std.proofs.Common.{◌∙◌, zero-add, mul-div_cancel, length-drop, drop_at, get_or-drop, drop-drop, length-take-le, pow_pos, pow-add}
use Rattle.std.proofs.Math.Bool.{true, false}
use mathlib.Core.List.{List, [], ◌∷◌, ◌++◌, append_assoc}
use Prim.Native.Nat.{ℕ, zero, suc, ◌+◌, ◌-◌, ◌*◌, ◌/◌, ◌%◌, ◌^◌, ◌≤◌, ◌<◌}
use Rattle.std.proofs.Math.Nat.{suc-mul, zero-mul, div-div-eq-div-mul}
use native.Mathlib.Omega.{arith}
use Rattle.std.proofs.Math.ListN.{length, get_or, take, length-append, get_or-append}
use Rattle.std.proofs.Math.Seq.{take_at, get_or-take, get_or-append-add, take-append-le, drop-append-le}
use Rattle.std.proofs.lemmas.List.{get_or_at}
use Rattle.std.proofs.Math.Dec.{leb}
use borrow.Author.Tests.{leb-true, leb-false}
use Rattle.rules.specs.Solids.{row_bytes}
use Rattle.rules.specs.P4.{padding, cut, row, rows}

-- bits from q on stay if what is below p ≤ q is cleared
kept-bits : (p q b : ℕ) → p ≤ q → b / 2 ^ p * 2 ^ p / 2 ^ q ≡ b / 2 ^ q
kept-bits p q b h =
    let e : q ≡ p + (q - p) = omega arith in
    let f : 2 ^ q ≡ 2 ^ p * 2 ^ (q - p) = ap (λ (x : ℕ). 2 ^ x) e ∙ pow-add 2 p (q - p) in
    ap (λ (x : ℕ). b / 2 ^ p * 2 ^ p / x) f
    ∙ sym (div-div-eq-div-mul (b / 2 ^ p * 2 ^ p) (2 ^ p) (2 ^ (q - p)))
    ∙ ap (λ (x : ℕ). x / 2 ^ (q - p)) (mul-div_cancel (b / 2 ^ p) (pow_pos p))
    ∙ div-div-eq-div-mul b (2 ^ p) (2 ^ (q - p))
    ∙ ap (λ (x : ℕ). b / x) (sym f)

cut_twice : (w b : ℕ) → cut w (cut w b) ≡ cut w b
unfolding cut
cut_twice w b = ap (λ (x : ℕ). x * 2 ^ padding w) (mul-div_cancel (b / 2 ^ padding w) (pow_pos (padding w)))

module _ (w : ℕ) (some : 1 ≤ w) where
  pub row-some : 1 ≤ row_bytes w
  unfolding row_bytes
  row-some = omega arith

  -- ---- one row
  module _ (bs : List ℕ) (enough : row_bytes w ≤ length bs) where
    front_length : length (take (row_bytes w - 1) bs) ≡ row_bytes w - 1
    front_length = length-take-le (row_bytes w - 1) bs (omega arith)

    pub length-row : length (row w bs) ≡ row_bytes w
    unfolding row
    length-row = let a = front_length in let b = row-some in simp length-append (omega arith)

    -- with anything behind it
    module _ (t : List ℕ) where
      row-behind : row w bs ++ t ≡ take (row_bytes w - 1) bs ++ (cut w (get_or bs (row_bytes w - 1) 0) ∷ t)
      unfolding row
      row-behind = append_assoc (take (row_bytes w - 1) bs) (cut w (get_or bs (row_bytes w - 1) 0) ∷ []) t

      row_last : get_or (row w bs ++ t) (row_bytes w - 1) 0 ≡ cut w (get_or bs (row_bytes w - 1) 0)
      row_last = ap (λ (l : List ℕ). get_or l (row_bytes w - 1) 0) row-behind ∙ get_or_at (take (row_bytes w - 1) bs) _ t 0 (row_bytes w - 1) front_length

      row-twice : row w (row w bs ++ t) ≡ row w bs
      unfolding row
      row-twice =
          let a : take (row_bytes w - 1) (row w bs ++ t) ≡ take (row_bytes w - 1) bs = ap (take (row_bytes w - 1)) row-behind ∙ take_at (take (row_bytes w - 1) bs) _ (row_bytes w - 1) front_length in
          let b : cut w (get_or (row w bs ++ t) (row_bytes w - 1) 0) ≡ cut w (get_or bs (row_bytes w - 1) 0) = ap (cut w) row_last ∙ cut_twice w (get_or bs (row_bytes w - 1) 0) in
          λ i. a i ++ (b i ∷ [])

      row-bit : (x : ℕ) → x < w → get_or (row w bs ++ t) (x / 8) 0 / 2 ^ (7 - x % 8) ≡ get_or bs (x / 8) 0 / 2 ^ (7 - x % 8)
      unfolding cut padding row_bytes
      row-bit x h = by (leb (row_bytes w) (x / 8 + 1)) refl
        where
          by : (u : Bool) → leb (row_bytes w) (x / 8 + 1) ≡ u → get_or (row w bs ++ t) (x / 8) 0 / 2 ^ (7 - x % 8) ≡ get_or bs (x / 8) 0 / 2 ^ (7 - x % 8)
          by true e =
              let l = leb-true (row_bytes w) (x / 8 + 1) e in
              let k : x / 8 ≡ row_bytes w - 1 = omega arith in
              ap (λ (i : ℕ). get_or (row w bs ++ t) i 0 / 2 ^ (7 - x % 8)) k
              ∙ ap (λ (v : ℕ). v / 2 ^ (7 - x % 8)) row_last
              ∙ kept-bits (padding w) (7 - x % 8) (get_or bs (row_bytes w - 1) 0) (omega arith)
              ∙ sym (ap (λ (i : ℕ). get_or bs i 0 / 2 ^ (7 - x % 8)) k)
          by false e =
              let l = leb-false (row_bytes w) (x / 8 + 1) e in
              let f = front_length in
              ap (λ (v : ℕ). v / 2 ^ (7 - x % 8))
              (ap (λ (y : List ℕ). get_or y (x / 8) 0) row-behind
              ∙ get_or-append (take (row_bytes w - 1) bs) _ 0 (x / 8) (omega arith)
              ∙ get_or-take (row_bytes w - 1) bs (x / 8) 0 (omega arith))

  -- ---- so many rows
  first-enough : (r : ℕ) (bs : List ℕ) → suc r * row_bytes w ≤ length bs → row_bytes w ≤ length bs
  first-enough r bs h = let m = suc-mul r (row_bytes w) in omega arith

  rest-enough : (r : ℕ) (bs : List ℕ) → suc r * row_bytes w ≤ length bs → r * row_bytes w ≤ length (drop (row_bytes w) bs)
  rest-enough r bs h = let m = suc-mul r (row_bytes w) in simp length-drop (omega arith)

  pub length-rows : (r : ℕ) (bs : List ℕ) → r * row_bytes w ≤ length bs → length (rows r w bs) ≡ r * row_bytes w
  unfolding rows
  length-rows zero bs h = sym (zero-mul (row_bytes w))
  length-rows (suc r) bs h =
      let a = length-row bs (first-enough r bs h) in
      let b = length-rows r (drop (row_bytes w) bs) (rest-enough r bs h) in
      let m = suc-mul r (row_bytes w) in
      simp length-append (omega arith)

  -- bytes behind the rows play no part
  pub rows-front : (r : ℕ) (bs t : List ℕ) → r * row_bytes w ≤ length bs → rows r w (bs ++ t) ≡ rows r w bs
  unfolding rows row
  rows-front zero bs t h = refl
  rows-front (suc r) bs t h =
      let n = first-enough r bs h in
      let p = row-some in
      let a = take-append-le (row_bytes w - 1) bs t (omega arith) in
      let b = get_or-append bs t 0 (row_bytes w - 1) (omega arith) in
      let d = drop-append-le (row_bytes w) bs t n in
      (λ i. (a i ++ (cut w (b i) ∷ [])) ++ rows r w (d i))
      ∙ ap (λ (l : List ℕ). row w bs ++ l) (rows-front r (drop (row_bytes w) bs) t (rest-enough r bs h))

  -- rows of rows, whatever stands behind
  pub rows-twice : (r : ℕ) (bs t : List ℕ) → r * row_bytes w ≤ length bs → rows r w (rows r w bs ++ t) ≡ rows r w bs
  unfolding rows
  rows-twice zero bs t h = refl
  rows-twice (suc r) bs t h =
      let n = first-enough r bs h in
      let rest = rows r w (drop (row_bytes w) bs) ++ t in
      let e = append_assoc (row w bs) (rows r w (drop (row_bytes w) bs)) t in
      ap (λ (l : List ℕ). row w l ++ rows r w (drop (row_bytes w) l)) e
      ∙ (λ i. row-twice bs n rest i ++ rows r w (drop_at (row w bs) rest (row_bytes w) (length-row bs n) i))
      ∙ ap (λ (l : List ℕ). row w bs ++ l) (rows-twice r (drop (row_bytes w) bs) t (rest-enough r bs h))

  -- a bit in use is that of the bytes
  pub rows-bit : (r i x : ℕ) (bs t : List ℕ) → i < r → x < w → r * row_bytes w ≤ length bs →
      get_or (rows r w bs ++ t) (i * row_bytes w + x / 8) 0 / 2 ^ (7 - x % 8) ≡ get_or bs (i * row_bytes w + x / 8) 0 / 2 ^ (7 - x % 8)
  unfolding rows
  rows-bit zero i x bs t l h e = absurd (omega arith)
  rows-bit (suc r) zero x bs t l h e =
      let z : zero * row_bytes w + x / 8 ≡ x / 8 = omega (arith, zero-mul (row_bytes w)) in
      ap (λ (k : ℕ). get_or ((row w bs ++ rows r w (drop (row_bytes w) bs)) ++ t) k 0 / 2 ^ (7 - x % 8)) z
      ∙ ap (λ (y : List ℕ). get_or y (x / 8) 0 / 2 ^ (7 - x % 8)) (append_assoc (row w bs) (rows r w (drop (row_bytes w) bs)) t)
      ∙ row-bit bs (first-enough r bs e) (rows r w (drop (row_bytes w) bs) ++ t) x h
      ∙ sym (ap (λ (k : ℕ). get_or bs k 0 / 2 ^ (7 - x % 8)) z)
  rows-bit (suc r) (suc i) x bs t l h e =
      let n = length-row bs (first-enough r bs e) in
      let m = suc-mul i (row_bytes w) in
      let rest = rows r w (drop (row_bytes w) bs) in
      let z : suc i * row_bytes w + x / 8 ≡ length (row w bs) + (i * row_bytes w + x / 8) = omega arith in
      let y : row_bytes w + (i * row_bytes w + x / 8) ≡ suc i * row_bytes w + x / 8 = omega arith in
      ap (λ (v : ℕ). v / 2 ^ (7 - x % 8))
      (ap (λ (k : List ℕ). get_or k (suc i * row_bytes w + x / 8) 0) (append_assoc (row w bs) rest t)
      ∙ ap (λ (k : ℕ). get_or (row w bs ++ (rest ++ t)) k 0) z
      ∙ get_or-append-add (row w bs) (rest ++ t) (i * row_bytes w + x / 8) 0)
      ∙ rows-bit r i x (drop (row_bytes w) bs) t (omega arith) h (rest-enough r bs e)
      ∙ ap (λ (v : ℕ). v / 2 ^ (7 - x % 8))
      (get_or-drop (row_bytes w) bs (i * row_bytes w + x / 8) 0 ∙ ap (λ (k : ℕ). get_or bs k 0) y)

-- rows after rows
rows_append : (a b w : ℕ) (bs : List ℕ) → rows (a + b) w bs ≡ rows a w bs ++ rows b w (drop (a * row_bytes w) bs)
unfolding rows
rows_append zero b w bs =
    ap (λ (k : ℕ). rows k w bs) (zero-add b) ∙ sym (ap (λ (k : ℕ). rows b w (drop k bs)) (zero-mul (row_bytes w)))
rows_append (suc a) b w bs =
    let e : suc a + b ≡ suc (a + b) = omega arith in
    let m = suc-mul a (row_bytes w) in
    let f : row_bytes w + a * row_bytes w ≡ suc a * row_bytes w = omega arith in
    ap (λ (k : ℕ). rows k w bs) e
    ∙ ap (λ (l : List ℕ). row w bs ++ l) (rows_append a b w (drop (row_bytes w) bs))
    ∙ sym (append_assoc (row w bs) (rows a w (drop (row_bytes w) bs)) (rows b w (drop (a * row_bytes w) (drop (row_bytes w) bs))))
    ∙ ap (λ (l : List ℕ). (row w bs ++ rows a w (drop (row_bytes w) bs)) ++ rows b w l) (drop-drop (a * row_bytes w) (row_bytes w) bs ∙ ap (λ (k : ℕ). drop k bs) f)

-- those of one slice more
pub rows_more : (h k w : ℕ) (bs : List ℕ) → rows (suc k * h) w bs ≡ rows h w bs ++ rows (k * h) w (drop (h * row_bytes w) bs)
rows_more h k w bs =
    let m = suc-mul k h in
    let e : suc k * h ≡ h + k * h = omega arith in
    ap (λ (x : ℕ). rows x w bs) e ∙ rows_append h (k * h) w bs
