-- A short example of each use of this crate: copy the line.
use Rattle.std.specs.Prelude.{◌≡◌, [], ◌∷◌, true, false, ℕ, ◌≤◌, T, ℤ, pos, negsuc, neg_ℤ, nat_abs, ◌+ℤ◌, ◌-ℤ◌, ◌*ℤ◌, ◌≤ℤ◌, ◌<ℤ◌}
use Rattle.std.proofs.Common.{arith, Fits, SFits, to_z, of_z, to_z-of_z}
use Rattle.std.specs.Int.Signed.{le_z, lt_z, non_neg}
use Rattle.std.specs.Int.{w32, w64}
use Rattle.std.proofs.Math.Facts.{sfits_lit}
use Rattle.integers.specs.Reify.{byring, sides, by-eq}
use Rattle.integers.specs.Order.{parts, linear, atom, goal, fact, *ℤ-mono}
use Rattle.integers.specs.Sizes.{Within, sizes, within-linear}
use Rattle.integers.specs.Machine.{machine, typed, tests, fits, fits-unsigned, value, without-bits, within, le_yes, eq-bits}
use Rattle.integers.specs.Machine.{Reads, Stands, known-stands, through-both}

-- ---- identities
difference-of-squares : (a b : ℤ) → (a +ℤ b) *ℤ (a -ℤ b) ≡ a *ℤ a -ℤ b *ℤ b
difference-of-squares a b = byring (a ∷ b ∷ []) (search sides depth 40 fits 5000) tt

-- from hypotheses: the goal's two sides differ by multiples of theirs
sum-of-cubes : (a b : ℤ) → a +ℤ b ≡ pos 3 → a *ℤ b ≡ pos 2 → a *ℤ a *ℤ a +ℤ b *ℤ b *ℤ b ≡ pos 9
sum-of-cubes a b h k =
    by-eq ((a +ℤ b) *ℤ (a +ℤ b) +ℤ pos 3 *ℤ (a +ℤ b) +ℤ pos 9) h
    (by-eq (negsuc 2 *ℤ (a +ℤ b)) k
    (by-eq (negsuc 5) h
    (byring (a ∷ b ∷ []) (search sides depth 40 fits 5000) tt)))

-- definitions open, as `abbrev` or under an `unfolding` line; one that does not is an atom
record Vector : Type 0 where
  x : ℤ
  y : ℤ
  z : ℤ

abbrev vector : ℤ → ℤ → ℤ → Vector
vector x y z = record { x = x; y = y; z = z }

abbrev dot : Vector → Vector → ℤ
dot a b = a.x *ℤ b.x +ℤ a.y *ℤ b.y +ℤ a.z *ℤ b.z

abbrev cross : Vector → Vector → Vector
cross a b = vector (a.y *ℤ b.z -ℤ a.z *ℤ b.y) (a.z *ℤ b.x -ℤ a.x *ℤ b.z) (a.x *ℤ b.y -ℤ a.y *ℤ b.x)

abbrev triple : Vector → Vector → Vector → ℤ
triple a b c = dot a (cross b c)

-- the determinant of the rows (d, d·d), by its last column
abbrev sphere : Vector → Vector → Vector → Vector → ℤ
sphere a b c d = dot b b *ℤ triple a c d -ℤ dot a a *ℤ triple b c d -ℤ dot c c *ℤ triple a b d +ℤ dot d d *ℤ triple a b c

-- the Plücker relation of D(p, q) = sphere a b p q and h(p) = a·(b × p): fifteen variables
module _ (a b p q r : Vector) where
  plucker : sphere a b p q *ℤ triple a b r +ℤ sphere a b q r *ℤ triple a b p +ℤ sphere a b r p *ℤ triple a b q ≡ pos 0
  plucker =
      byring
      (a.x ∷ a.y ∷ a.z ∷ b.x ∷ b.y ∷ b.z ∷ p.x ∷ p.y ∷ p.z ∷ q.x ∷ q.y ∷ q.z ∷ r.x ∷ r.y ∷ r.z ∷ [])
      (search sides depth 40 fits 5000)
      tt

-- ---- order
-- of variables and literals
squeezed : (x y z : ℤ) → x ≤ℤ y → y ≤ℤ z → z ≤ℤ x → (x ≡ y) × (pos 2 <ℤ y → pos 3 ≤ℤ z)
squeezed x y z h k l = omega (arith, parts)

-- of compound numbers: the atoms by `let`, the goal by `goal`, a compound hypothesis by `fact`
moved : (x y z : ℤ) → (x +ℤ y) ≤ℤ (z -ℤ pos 2) → pos 5 <ℤ y → (x +ℤ pos 7) <ℤ z
moved x y z h k =
    let a = atom x in let b = atom y in let c = atom z in
    goal (search linear) (omega (arith, parts, fact (search linear) h))

-- of a product: the multiplied fact first
scaled : (n t w : ℤ) → pos 0 ≤ℤ n → pos 1 ≤ℤ t → w ≤ℤ n → w ≤ℤ (n *ℤ t)
scaled n t w h k l =
    let a = atom n in let b = atom t in let c = atom w in
    goal (search linear) (omega (arith, parts, fact (search linear) (*ℤ-mono h k)))

-- ---- sizes
-- from the order, of a variable
sized : (x y : ℤ) → Within 511 x → y ≤ℤ x → pos 0 ≤ℤ y → Within 600 y
sized x y h k l = omega (arith, parts, sizes)

-- from other sizes, of a part of a sum
sized-part : (x y : ℤ) → Within 511 x → Within 511 (x +ℤ y) → Within 1022 y
sized-part x y h k =
    let a = atom x in let b = atom y in
    goal (search (within-linear, linear)) (omega (arith, sizes, fact (search (within-linear, linear)) k))

-- of any term, found
sized-term : (x y z : ℤ) → Within 2046 x → Within 2046 y → Within 5 z → Within 4200000 (x *ℤ y -ℤ z *ℤ (x +ℤ pos 7))
sized-term x y z h k l = within (search machine depth 30 fits 5000) tt

-- ---- the machine
module _ (x y : ℤ) (h : Within 2046 x) (k : Within 3069 y) where
  abbrev wide : ℤ → ℤ
  wide z = to_z w64 (of_z w64 (to_z w32 (of_z w32 z)))

  -- a product of two i32 as i64 fits, and is the product
  product-fits : SFits w64 (wide x *ℤ wide y)
  product-fits = fits (search machine depth 30 fits 5000) tt

  product_value : to_z w64 (of_z w64 (wide x *ℤ wide y)) ≡ x *ℤ y
  product_value = value (search machine depth 30 fits 5000) tt

  -- `0 - x` is −x
  negated : to_z w32 (of_z w32 (pos 0 -ℤ to_z w32 (of_z w32 x))) ≡ neg_ℤ x
  negated = value (search machine depth 30 fits 5000) tt

  -- a test's answer, and what a test left
  at_most : le_z (wide x *ℤ wide x) (wide y) ≡ le_z (x *ℤ x) y
  at_most = value (search machine depth 30 fits 5000) tt

  at-most-left : le_z (wide x *ℤ wide x) (wide y) ≡ true → (x *ℤ x) ≤ℤ y
  at-most-left e = le_yes _ _ (without-bits e (search machine depth 30 fits 5000) tt)

  -- a struct, by a rule for it
  abbrev vector-reads : {x y z : ℤ} → Stands x → Stands y → Stands z → Reads (vector x y z)
  vector-reads p q r = through-both (λ (f : ℤ → Vector) (u : ℤ). f u) (through-both vector p.read q.read) r.read

  struct-value : vector (wide x) (to_z w64 (of_z w64 (wide x -ℤ wide y))) (pos 0) ≡ vector x (x -ℤ y) (pos 0)
  struct-value = value (search (machine, vector-reads) depth 30 fits 5000) tt

  -- a call's result r, of which the call ensured what it is
  result_value : (r : ℤ) → r ≡ x *ℤ y → to_z w64 (of_z w64 (to_z w64 (of_z w64 r) +ℤ wide x)) ≡ x *ℤ y +ℤ x
  result_value r e = value (search (machine, known-stands e) depth 30 fits 5000) tt

  -- casts: from an unsigned number, and to one
  from-unsigned : (n : ℕ) → n ≤ 512 → to_z w32 (of_z w32 (to_z w32 n *ℤ to_z w32 (of_z w32 x))) ≡ pos n *ℤ x
  from-unsigned n l = value (search machine depth 30 fits 5000) tt

  to-unsigned : pos 0 ≤ℤ x → T (non_neg (to_z w32 (of_z w32 x))) × Fits w64 (nat_abs (to_z w32 (of_z w32 x)))
  to-unsigned l = fits-unsigned (search machine depth 30 fits 5000) tt (omega (arith, parts))

-- numbers of which only the type is known
module _ (x y : ℤ) (h : SFits w32 x) (k : SFits w32 y) where
  typed-sum : to_z w64 (of_z w64 (to_z w64 (of_z w64 (to_z w32 (of_z w32 x))) +ℤ to_z w64 (of_z w64 (to_z w32 (of_z w32 y))))) ≡ x +ℤ y
  typed-sum = value (search (machine, typed) depth 30 fits 5000) tt

  not-less : lt_z (to_z w32 (of_z w32 x)) (to_z w32 (of_z w32 y)) ≡ false → y ≤ℤ x
  not-less e = let a = to_z-of_z h in let b = to_z-of_z k in omega (arith, parts, tests)

  -- `==` compares bits
  is-zero : of_z w32 x ≡ of_z w32 (pos 0) → x ≡ pos 0
  is-zero e = eq-bits h (sfits_lit tt) e
