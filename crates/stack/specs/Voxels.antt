-- The place of a voxel's byte is a number in mixed radix, slice, row and byte, so it is one of the bytes that the stack takes.
use Rattle.std.specs.Prelude.{◌≡◌, Bool, true, false, List, [], ◌∷◌, ℕ, suc, ◌+◌, ◌*◌, ◌/◌, ◌%◌, ◌≤◌, ◌<◌, ℤ, negsuc, ◌+ℤ◌, ◌*ℤ◌, length, ◌≤ℤ◌, ◌<ℤ◌}
use Rattle.std.proofs.Math.Path.{refl, sym}
use Rattle.std.proofs.Common.{◌∙◌, suc-mul, mul_assoc, mul-le-mul_right, lt_of_lt_of_le}
use native.Mathlib.Omega.{arith}
use Rattle.std.proofs.Math.IntN.{pos, nat_abs}
use Rattle.integers.specs.Reify.{byring, sides}
use Rattle.integers.specs.Order.{parts}
use Rattle.integers.specs.Sizes.{Within, natural}
use Rattle.rules.specs.declared.Vector.{Vector}
use Rattle.rules.specs.declared.Stack.{Stack}
use Rattle.rules.specs.declared.Solid.TheVariants.{Stack as IsStack}
use Rattle.rules.specs.Vectors.{dot}
use Rattle.rules.specs.Solids.{row_bytes, slice_bytes, stack_bytes, permitted_stack, voxel_place, voxel, filled_stack, box, in_box, seen_as, look}
use Rattle.range.specs.Ranges.{InSide, in-sides}
use Rattle.stack.specs.Sides.{SideOf, Sized, sized}
use Rattle.stack.specs.Bits.{stack_ranks, bit_at, BitHeld}

-- a digit b below B, after a below A
pub radix : {a A b B : ℕ} → a < A → b < B → a * B + b < A * B
radix {a} {A} {b} {B} h k = let m : suc a * B ≤ A * B = mul-le-mul_right B h in let e = suc-mul a B in omega arith

place_in : {w h d x y z : ℕ} → x < w → y < h → z < d → voxel_place w h x y z < d * slice_bytes w h
unfolding slice_bytes row_bytes
place_in {w} {h} {d} a b c = rw (← mul_assoc d h (row_bytes w)) (radix (radix c b) (omega arith))

-- ---- a point of the box of a permitted stack

-- along one of its sides
pub record OnSide (side x : ℤ) : Type 0 where
  pub low : pos 0 ≤ℤ x
  pub small : Within 255 x
  pub below : nat_abs x < nat_abs side

pub record PointHeld (k : Stack) (bytes : List ℕ) (p : Vector) : Type 0 where
  pub sized : Sized k bytes
  pub along-x : OnSide k.width p.x
  pub along-y : OnSide k.height p.y
  pub along-z : OnSide k.depth p.z

on-side : {side x : ℤ} → SideOf side → InSide side x → OnSide side x
on-side {side} {x} s h = let b = go side x h.low h.below in record { low = h.low; small = record { size = omega (arith, s.side.most) }; below = b }
  where
    go : (side x : ℤ) → pos 0 ≤ℤ x → x <ℤ side → nat_abs x < nat_abs side
    go (pos a) (pos b) l k = omega (arith, parts)
    go (negsuc a) (pos b) l k = omega (arith, parts)
    go side (negsuc b) l k = omega (arith, parts)

pub point-held : {k : Stack} {bytes : List ℕ} {p : Vector} → permitted_stack k bytes ≡ true → in_box (box (IsStack k)) p ≡ true → PointHeld k bytes p
point-held {k} {bytes} {p} e i =
    let s = sized e in
    let h = in-sides (box (IsStack k)) p (rw i tt) in
    record { sized = s; along-x = on-side s.of.wide h.of-x; along-y = on-side s.of.high h.of-y; along-z = on-side s.of.deep h.of-z }

pub voxel-held : {k : Stack} {bytes : List ℕ} {p : Vector} → PointHeld k bytes p
    → voxel_place (nat_abs k.width) (nat_abs k.height) (nat_abs p.x) (nat_abs p.y) (nat_abs p.z) < length bytes
unfolding stack_bytes
voxel-held h = lt_of_lt_of_le (place_in h.along-x.below h.along-y.below h.along-z.below) h.sized.enough

-- ---- its rank is the place of its bit

-- the bits before a row, of r bytes each in slices of t rows, and those in it
in_rows : (r t x y z : ℤ) → pos 1 *ℤ x +ℤ pos 8 *ℤ r *ℤ y +ℤ pos 8 *ℤ (t *ℤ r) *ℤ z ≡ pos 8 *ℤ ((z *ℤ t +ℤ y) *ℤ r) +ℤ x
in_rows r t x y z = byring (r ∷ t ∷ x ∷ y ∷ z ∷ []) (search sides depth 40 fits 5000) tt

module _ {k : Stack} {bytes : List ℕ} {p : Vector} (h : PointHeld k bytes p) where
  -- the place of its row's first byte
  row : ℕ
  row = (nat_abs p.z * nat_abs k.height + nat_abs p.y) * row_bytes (nat_abs k.width)

  rank_is : dot (stack_ranks k) p ≡ pos (8 * row + nat_abs p.x)
  unfolding dot stack_ranks slice_bytes row
  rank_is =
      let w = nat_abs k.width in
      let x = sym (natural h.along-x.low) in
      let y = sym (natural h.along-y.low) in
      let z = sym (natural h.along-z.low) in
      (λ i. pos 1 *ℤ x i +ℤ pos (8 * row_bytes w) *ℤ y i +ℤ pos (8 * slice_bytes w (nat_abs k.height)) *ℤ z i)
      ∙ in_rows (pos (row_bytes w)) (pos (nat_abs k.height)) (pos (nat_abs p.x)) (pos (nat_abs p.y)) (pos (nat_abs p.z))

  pub rank-low : pos 0 ≤ℤ dot (stack_ranks k) p
  rank-low = rw rank_is (omega (arith, parts))

  pub rank-held : BitHeld bytes (nat_abs (dot (stack_ranks k) p))
  unfolding row
  rank-held = record { held = let l = voxel-held h in rw rank_is (omega arith) }

  pub rank-filled : bit_at bytes (nat_abs (dot (stack_ranks k) p)) ≡ filled_stack k bytes p
  unfolding bit_at filled_stack voxel row
  rank-filled =
      let byte : (8 * row + nat_abs p.x) / 8 ≡ row + nat_abs p.x / 8 = omega arith in
      let bit : (8 * row + nat_abs p.x) % 8 ≡ nat_abs p.x % 8 = omega arith in
      rw (rank_is, byte, bit) refl

-- ---- lent bytes that agree on the voxels of the box have the same looks
seen_alike : (inside f g : Bool) → (inside ≡ true → f ≡ g) → seen_as inside f ≡ seen_as inside g
seen_alike false f g h = refl
seen_alike true f g h = λ i. seen_as true (h refl i)

pub looks-alike : (k : Stack) (a b : List ℕ) → ((v : Vector) → in_box (box (IsStack k)) v ≡ true → filled_stack k a v ≡ filled_stack k b v) → (v : Vector) → look (IsStack k) a v ≡ look (IsStack k) b v
unfolding look
looks-alike k a b voxels v = seen_alike (in_box (box (IsStack k)) v) (filled_stack k a v) (filled_stack k b v) (voxels v)
