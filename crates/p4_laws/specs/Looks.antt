-- Rows with padding bits zero, whatever stands behind them, have the looks of the bytes: so every pick is the same pick.
use Rattle.std.specs.Prelude.{◌≡◌, true, List, ◌++◌, ℕ, ◌+◌, ◌*◌, ◌%◌, ◌≤◌, ℤ, length}
use Rattle.std.proofs.Math.Path.{ap}
use Rattle.std.proofs.Math.Nat.{mul_assoc}
use native.Mathlib.Omega.{arith}
use Rattle.std.proofs.Math.Dec.{eqb}
use Rattle.std.proofs.Math.IntN.{nat_abs}
use Rattle.rules.specs.declared.Vector.{Vector}
use Rattle.rules.specs.declared.Stack.{Stack}
use Rattle.rules.specs.declared.Solid.TheVariants.{Stack as IsStack}
use Rattle.rules.specs.Solids.{row_bytes, slice_bytes, stack_bytes, permitted_stack, voxel, filled_stack, box, in_box, look}
use Rattle.rules.specs.Pick.{pick, answer, pick_of}
use Rattle.rules.specs.P4.{rows}
use Rattle.stack.specs.Sides.{sized}
use Rattle.stack.specs.Voxels.{radix, point-held, looks-alike}
use Rattle.p4_laws.specs.Rows.{rows-bit, length-rows}

-- a stack's rows, padding bits zero
unfoldable pub stack_rows : Stack → List ℕ → List ℕ
stack_rows k bytes = rows (nat_abs k.depth * nat_abs k.height) (nat_abs k.width) bytes

module _ (k : Stack) (bytes : List ℕ) (e : permitted_stack k bytes ≡ true) where
  all-rows : nat_abs k.depth * nat_abs k.height * row_bytes (nat_abs k.width) ≤ length bytes
  unfolding stack_bytes slice_bytes
  all-rows = let m = mul_assoc (nat_abs k.depth) (nat_abs k.height) (row_bytes (nat_abs k.width)) in let l = (sized e).enough in omega arith

  pub rows-bytes : length (stack_rows k bytes) ≡ stack_bytes k
  unfolding stack_rows stack_bytes slice_bytes
  rows-bytes =
      let m = mul_assoc (nat_abs k.depth) (nat_abs k.height) (row_bytes (nat_abs k.width)) in
      let n = length-rows (nat_abs k.width) (sized e).of.wide.side.some (nat_abs k.depth * nat_abs k.height) bytes all-rows in
      omega arith

  voxel-same : (behind : List ℕ) (p : Vector) → in_box (box (IsStack k)) p ≡ true → filled_stack k (stack_rows k bytes ++ behind) p ≡ filled_stack k bytes p
  unfolding filled_stack voxel stack_rows
  voxel-same behind p i =
      let h = point-held e i in
      ap (λ (v : ℕ). eqb (v % 2) 1)
      (rows-bit (nat_abs k.width) (sized e).of.wide.side.some (nat_abs k.depth * nat_abs k.height) (nat_abs p.z * nat_abs k.height + nat_abs p.y) (nat_abs p.x) bytes behind
      (radix h.along-z.below h.along-y.below) h.along-x.below all-rows)

  -- for any lent bytes, whatever padding bits and bytes behind
  pub rows-look : (behind : List ℕ) (p : Vector) → look (IsStack k) (stack_rows k bytes ++ behind) p ≡ look (IsStack k) bytes p
  rows-look behind = looks-alike k (stack_rows k bytes ++ behind) bytes (voxel-same behind)

-- equal looks everywhere, on stacks both permitted, give equal picks
pub pick_same : (k : Stack) (bytes other : List ℕ) → permitted_stack k other ≡ permitted_stack k bytes → ((q : Vector) → look (IsStack k) other q ≡ look (IsStack k) bytes q)
    → (p : Vector) (frame reach : ℤ) → pick_of (IsStack k) other p frame reach ≡ pick_of (IsStack k) bytes p frame reach
unfolding pick_of
pick_same k bytes other a l p frame reach = λ i. answer (pick (a i) (λ q. l q i) p frame reach)
