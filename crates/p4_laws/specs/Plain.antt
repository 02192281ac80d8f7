-- The plain form: how long it is, its slices one at a time, and that it depends on no padding bit and on nothing behind the slices.
use Rattle.std.specs.Prelude.{◌≡◌, length, drop}
use Rattle.std.proofs.Math.Path.{refl, sym, ap}
use Rattle.std.proofs.Common.{◌∙◌, zero-mul, drop_at}
use mathlib.Core.List.{List, [], ◌++◌}
use Prim.Native.Nat.{ℕ, zero, suc, ◌+◌, ◌-◌, ◌*◌, ◌≤◌, ◌<◌}
use Rattle.std.proofs.Math.Nat.{suc-mul}
use native.Mathlib.Omega.{arith}
use Rattle.std.proofs.Math.ListN.{length-append, length-drop}
use Rattle.std.proofs.Math.Seq.{drop-append-le}
use Rattle.rules.specs.Solids.{slice_bytes}
use Rattle.rules.specs.Decimals.{decimal}
use Rattle.rules.specs.P4.{rows, plain_header, slices}
use Rattle.p4_laws.specs.Rows.{length-rows, rows-front, rows-twice, rows_more}

pub header-length : (w h : ℕ) → length (plain_header w h) ≡ 5 + (length (decimal w) + length (decimal h))
unfolding plain_header
header-length w h = simp length-append (omega arith)

module _ (w h : ℕ) where
  pub slices-none : {k : ℕ} (bs : List ℕ) → k ≤ 0 → slices k w h bs ≡ []
  unfolding slices
  slices-none {k} bs e = let z : k ≡ 0 = omega arith in ap (λ (x : ℕ). slices x w h bs) z

  pub slices-more : (k : ℕ) (bs : List ℕ) → 0 < k → slices k w h bs ≡ plain_header w h ++ (rows h w bs ++ slices (k - 1) w h (drop (slice_bytes w h) bs))
  unfolding slices
  slices-more k bs e = let z : k ≡ suc (k - 1) = omega arith in ap (λ (x : ℕ). slices x w h bs) z

  module _ (some : 1 ≤ w) where
    pub slice_rows : (bs : List ℕ) → slice_bytes w h ≤ length bs → length (rows h w bs) ≡ slice_bytes w h
    unfolding slice_bytes
    slice_rows bs l = length-rows w some h bs l

    slice_front : (bs t : List ℕ) → slice_bytes w h ≤ length bs → rows h w (bs ++ t) ≡ rows h w bs
    unfolding slice_bytes
    slice_front bs t l = rows-front w some h bs t l

    pub slices-length : (k : ℕ) (bs : List ℕ) → k * slice_bytes w h ≤ length bs → length (slices k w h bs) ≡ k * (length (plain_header w h) + slice_bytes w h)
    unfolding slices
    slices-length zero bs e = sym (zero-mul (length (plain_header w h) + slice_bytes w h))
    slices-length (suc k) bs e =
        let m = suc-mul k (slice_bytes w h) in
        let n = suc-mul k (length (plain_header w h) + slice_bytes w h) in
        let i = slices-length k (drop (slice_bytes w h) bs) (simp length-drop (omega arith)) in
        let r = slice_rows bs (omega arith) in
        simp length-append (omega arith)

    -- bytes behind the slices play no part
    pub slices-front : (k : ℕ) (bs t : List ℕ) → k * slice_bytes w h ≤ length bs → slices k w h (bs ++ t) ≡ slices k w h bs
    unfolding slices
    slices-front zero bs t e = refl
    slices-front (suc k) bs t e =
        let m = suc-mul k (slice_bytes w h) in
        let i = slices-front k (drop (slice_bytes w h) bs) t (simp length-drop (omega arith)) in
        let d = drop-append-le (slice_bytes w h) bs t (omega arith) in
        (λ j. plain_header w h ++ (slice_front bs t (omega arith) j ++ slices k w h (d j)))
        ∙ ap (λ (l : List ℕ). plain_header w h ++ (rows h w bs ++ l)) i

    -- a stack's rows in place of its bytes make the same slices
    pub slices-rows : (k : ℕ) (bs : List ℕ) → k * slice_bytes w h ≤ length bs → slices k w h (rows (k * h) w bs) ≡ slices k w h bs
    unfolding slices slice_bytes
    slices-rows zero bs e = refl
    slices-rows (suc k) bs e =
        let S = slice_bytes w h in
        let m = suc-mul k S in
        let rest = rows (k * h) w (drop S bs) in
        ap (slices (suc k) w h) (rows_more h k w bs)
        ∙ (λ j. plain_header w h ++ (rows-twice w some h bs rest (omega arith) j ++ slices k w h (drop_at (rows h w bs) rest S (slice_rows bs (omega arith)) j)))
        ∙ ap (λ (l : List ℕ). plain_header w h ++ (rows h w bs ++ l)) (slices-rows k (drop S bs) (simp length-drop (omega arith)))
