-- A stack's sides, each from 1 to 256. What `permitted_stack` judges is taken apart here and put together again.
use Rattle.std.specs.Prelude.{◌≡◌, Bool, true, ◌&&◌, List, ℕ, ◌*◌, ◌^◌, ◌≤◌, T, leb, ltb, ℤ, pos, nat_abs, length, ◌≤ℤ◌}
use Rattle.std.proofs.Common.{sym, ap, ◌∙◌, arith, le-leb, leb-true}
use Rattle.std.proofs.Math.Bool.{and_assoc}
use Rattle.std.specs.Int.Signed.{non_neg}
use Rattle.std.specs.Int.{Width, w32, w64}
use mir.Val.{Fits, bits, to_z, of_z}
use Rattle.integers.specs.Order.{parts}
use Rattle.integers.specs.Sizes.{Within, within-parts}
use Rattle.integers.specs.Machine.{machine, bounded-stands, back-stands, cast-holds, value}
use Rattle.integers.specs.Tests.{both, first_of, second-of}
use Rattle.rules.specs.declared.Stack.{Stack}
use Rattle.rules.specs.Solids.{between, permitted_size, slice_bytes, stack_bytes, permitted_stack}
use Rattle.rules.specs.P4.{sizes}
use Rattle.range.specs.Ranges.{between-naturals}

-- from 1 to 256
pub record Side (n : ℕ) : Type 0 where
  pub some : 1 ≤ n
  pub most : n ≤ 256

pub record Sides (width height depth : ℕ) : Type 0 where
  pub wide : Side width
  pub high : Side height
  pub deep : Side depth

-- the same of whole numbers
pub record SideOf (n : ℤ) : Type 0 where
  pub is : n ≡ pos (nat_abs n)
  pub side : Side (nat_abs n)

pub record SidesOf (k : Stack) : Type 0 where
  pub wide : SideOf k.width
  pub high : SideOf k.height
  pub deep : SideOf k.depth

-- a stack's sides, and that the lent bytes are enough
pub record Sized (k : Stack) (bytes : List ℕ) : Type 0 where
  pub of : SidesOf k
  pub enough : stack_bytes k ≤ length bytes

pub stack_is : {k : Stack} → SidesOf k → k ≡ sizes (nat_abs k.width) (nat_abs k.height) (nat_abs k.depth)
stack_is s = λ i. record { width = s.wide.is i; height = s.high.is i; depth = s.deep.is i }

-- ---- what is permitted

-- the three sizes, without the bytes
unfoldable pub sizes_permitted : Stack → Bool
sizes_permitted k = permitted_size k.width && (permitted_size k.height && permitted_size k.depth)

pub permitted-stack : (k : Stack) (bytes : List ℕ) → permitted_stack k bytes ≡ (sizes_permitted k && leb (stack_bytes k) (length bytes))
unfolding permitted_stack sizes_permitted
permitted-stack k bytes =
    let w = permitted_size k.width in
    let h = permitted_size k.height in
    let d = permitted_size k.depth in
    let l = leb (stack_bytes k) (length bytes) in
    sym (and_assoc w (h && d) l ∙ ap (λ (t : Bool). w && t) (and_assoc h d l))

side-of : {n : ℤ} → permitted_size n ≡ true → SideOf n
side-of {n} e = let h = between-naturals 1 256 n (rw e tt) in record { is = h.2; side = record { some = h.0; most = h.1 } }

pub sides-of : {k : Stack} → sizes_permitted k ≡ true → SidesOf k
unfolding sizes_permitted
sides-of {k} e =
    let w = permitted_size k.width in
    let h = permitted_size k.height in
    let d = permitted_size k.depth in
    let m = second-of w (h && d) e in
    record { wide = side-of (first_of w (h && d) e); high = side-of (first_of h d m); deep = side-of (second-of h d m) }

pub sized : {k : Stack} {bytes : List ℕ} → permitted_stack k bytes ≡ true → Sized k bytes
sized {k} {bytes} e =
    let l = leb (stack_bytes k) (length bytes) in
    let f = sym (permitted-stack k bytes) ∙ e in
    record { of = sides-of (first_of (sizes_permitted k) l f); enough = leb-true _ _ (second-of (sizes_permitted k) l f) }

-- and the other way
pub permits : {w h d : ℕ} (bytes : List ℕ) → Sides w h d → d * slice_bytes w h ≤ length bytes → permitted_stack (sizes w h d) bytes ≡ true
unfolding between permitted_stack stack_bytes
permits bytes s l = both (one s.wide) (both (one s.high) (both (one s.deep) (le-leb _ _ l)))
  where
    one : {n : ℕ} → Side n → permitted_size (pos n) ≡ true
    one {n} s = both (le-leb 1 n s.some) (le-leb n 256 s.most)

-- other bytes, if they are enough
pub permitted-too : (k : Stack) (bytes other : List ℕ) → permitted_stack k bytes ≡ true → stack_bytes k ≤ length other → permitted_stack k other ≡ true
permitted-too k bytes other e l =
    permitted-stack k other
    ∙ both (first_of (sizes_permitted k) (leb (stack_bytes k) (length bytes)) (sym (permitted-stack k bytes) ∙ e)) (le-leb (stack_bytes k) (length other) l)

-- ---- a side, cast to an unsigned width: the cast reads its bits, and keeps it
abbrev pub cast : ℤ → ℕ
cast n = nat_abs (to_z w32 (of_z w32 n))

module _ {n : ℤ} (s : SideOf n) where
  within : Within 256 n
  within = record { size = s.side.most }

  pub side-high : n ≤ℤ pos 256
  side-high = omega (arith, parts, within-parts within)

  -- to any width that holds 256
  pub side-casts-to : (v : Width) → T (ltb 256 (2 ^ bits v)) → T (non_neg (to_z w32 (of_z w32 n))) × Fits v (cast n)
  side-casts-to v t = let e = s.is in cast-holds v (to_z w32 (of_z w32 n)) (back-stands w32 (bounded-stands within)) t (omega (arith, parts))

  pub side-casts : T (non_neg (to_z w32 (of_z w32 n))) × Fits w64 (cast n)
  side-casts = side-casts-to w64 tt

  pub side-kept : cast n ≡ nat_abs n
  side-kept = let w = within in value (search machine depth 30 fits 5000) tt

  pub side-cast : Side (cast n)
  side-cast = rw side-kept s.side
