-- A row takes at most 32 bytes, so a slice and a stack take few, and every product fits.
use mathlib.Core.Path.{◌≡◌, refl, ap, ap₂, ◌∙◌}
use Prim.Native.Nat.{ℕ, ◌+◌, ◌*◌, ◌/◌, ◌%◌, ◌≤◌}
use native.Mathlib.Nat.{mul-le-mul}
use native.Mathlib.Omega.{arith}
use lib.IntN.{pos, nat_abs}
use mir.Syntax.{w32, w64}
use mir.Val.{Fits, to_z}
use mir.Facts.{Fits-le, Fits-lit}
use Rattle.std.specs.Prelude.{min}
use Rattle.integers.specs.Machine.{natural-back}
use Rattle.rules.specs.declared.Stack.{Stack}
use Rattle.rules.specs.Vectors.{vector}
use Rattle.rules.specs.Solids.{row_bytes, slice_bytes, stack_bytes}
use Rattle.stack.specs.Sides.{Side, SidesOf, cast, side-kept, side-cast}
use Rattle.stack.specs.Bytes.{SliceSides, RowBytes, SliceBytes}
use Rattle.stack.specs.Bits.{stack_ranks}

whole-bytes : (w : ℕ) → w / 8 + min 1 (w % 8) ≡ (w + 7) / 8
whole-bytes w = omega arith

pub row-bytes : {w : ℕ} → Side w → RowBytes w (w / 8 + min 1 (w % 8))
unfolding row_bytes
row-bytes {w} s = let a = s.some in let b = s.most in rw (whole-bytes w) (record { is = refl; some = omega arith; small = omega arith })

module _ {w h b : ℕ} (s : SliceSides w h) (r : RowBytes w b) where
  slice-small : h * b ≤ 8192
  slice-small = mul-le-mul s.high r.small

  pub slice_fits : Fits w64 (h * b)
  slice_fits = Fits-le slice-small (Fits-lit tt)

  pub slice-bytes : SliceBytes w h (h * b)
  unfolding slice_bytes
  slice-bytes = record { is = ap (λ (x : ℕ). h * x) r.is; small = slice-small }

-- ---- the whole
module _ {k : Stack} (s : SidesOf k) where
  module _ {w h n : ℕ} (e : w ≡ nat_abs k.width) (f : h ≡ nat_abs k.height) (z : SliceBytes w h n) where
    pub stack-fits : Fits w64 (cast k.depth * n)
    stack-fits = Fits-le (mul-le-mul (side-cast s.deep).most z.small) (Fits-lit tt)

    pub stack-bytes : cast k.depth * n ≡ stack_bytes k
    unfolding stack_bytes
    stack-bytes = ap₂ ◌*◌ (side-kept s.deep) (z.is ∙ ap₂ slice_bytes e f)

    -- 8 bits a byte
    pub ranks-are : {row : ℕ} → RowBytes w row → vector (pos 1) (to_z w32 (8 * row)) (to_z w32 (8 * n)) ≡ stack_ranks k
    unfolding stack_ranks
    ranks-are {row} r =
        let y = natural-back w32 (8 * row) 256 (omega (arith, r.small)) tt ∙ ap (λ (b : ℕ). pos (8 * b)) (r.is ∙ ap row_bytes e) in
        let x = natural-back w32 (8 * n) 65536 (omega (arith, z.small)) tt ∙ ap (λ (b : ℕ). pos (8 * b)) (z.is ∙ ap₂ slice_bytes e f) in
        λ i. vector (pos 1) (y i) (x i)
