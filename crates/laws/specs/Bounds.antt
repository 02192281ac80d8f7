-- Sizes of whole vectors. What is made of bounded vectors is bounded, part by part; so are the ways of a bounded triangle.
use Rattle.std.specs.Prelude.{◌≡◌, ℕ, ◌+◌, ◌*◌, ◌≤◌, ℤ, neg_ℤ}
use Rattle.std.proofs.Common.{sym, subst}
use Rattle.std.proofs.Math.IntN.{◌+ℤ◌, ◌-ℤ◌, ◌*ℤ◌}
use Rattle.integers.specs.Sizes.{Within, within-sum, within-product, within-opposite, within_wider}
use Rattle.rules.specs.declared.Vector.{Vector}
use Rattle.rules.specs.declared.Triangle.{Triangle}
use Rattle.rules.specs.declared.Pair.{Pair}
use Rattle.rules.specs.Vectors.{vector, ◌⊕◌, ◌⊖◌, minus, dot, cross, lay}
use Rattle.rules.specs.Walk.{way}
use Rattle.laws.specs.Triples.{All, all_first, all-second}

-- each part at most n in size
pub record Bounded (n : ℕ) (a : Vector) : Type 0 where
  pub in-x : Within n a.x
  pub in-y : Within n a.y
  pub in-z : Within n a.z

pub bounded-is : {n : ℕ} {a b : Vector} → a ≡ b → Bounded n b → Bounded n a
bounded-is {n} e h = subst (Bounded n) (sym e) h

-- f part by part
each : {m n k : ℕ} {a b : Vector} (f : ℤ → ℤ → ℤ) → ((x y : ℤ) → Within m x → Within n y → Within k (f x y)) → Bounded m a → Bounded n b → Bounded k (vector (f a.x b.x) (f a.y b.y) (f a.z b.z))
each {a} {b} f of h k = record { in-x = of a.x b.x h.in-x k.in-x; in-y = of a.y b.y h.in-y k.in-y; in-z = of a.z b.z h.in-z k.in-z }

pub bounded-wider : {m n : ℕ} {a : Vector} → Bounded m a → m ≤ n → Bounded n a
bounded-wider h k = each (λ x y. x) (λ x y p q. within_wider p k) h h

pub bounded-opposite : {n : ℕ} {a : Vector} → Bounded n a → Bounded n (minus a)
unfolding minus
bounded-opposite h = each (λ x y. neg_ℤ x) (λ x y p q. within-opposite p) h h

module _ {m n : ℕ} {a b : Vector} (h : Bounded m a) (k : Bounded n b) where
  pub bounded-sum : Bounded (m + n) (a ⊕ b)
  unfolding ◌⊕◌
  bounded-sum = each ◌+ℤ◌ (λ x y p q. within-sum p q) h k

  pub bounded-difference : Bounded (m + n) (a ⊖ b)
  unfolding ◌⊖◌
  bounded-difference = each ◌-ℤ◌ (λ x y p q. within-sum p (within-opposite q)) h k

  pub bounded-lay : Bounded (m * n) (lay a b)
  unfolding lay
  bounded-lay = each ◌*ℤ◌ (λ x y p q. within-product p q) h k

  within-minor : {x y z w : ℤ} → Within m x → Within n y → Within m z → Within n w → Within (m * n + m * n) (x *ℤ y -ℤ z *ℤ w)
  within-minor p q r s = within-sum (within-product p q) (within-opposite (within-product r s))

  pub bounded-cross : Bounded (m * n + m * n) (cross a b)
  unfolding cross
  bounded-cross = record {
    in-x = within-minor h.in-y k.in-z h.in-z k.in-y;
    in-y = within-minor h.in-z k.in-x h.in-x k.in-z;
    in-z = within-minor h.in-x k.in-y h.in-y k.in-x;
  }

  pub within-dot : Within (m * n + m * n + m * n) (dot a b)
  unfolding dot
  within-dot = within-sum (within-sum (within-product h.in-x k.in-x) (within-product h.in-y k.in-y)) (within-product h.in-z k.in-z)

pub way-bounded : {n : ℕ} {m : Triangle} → All (Bounded n) m → (x : Pair) → Bounded (n + n) (way m x)
way-bounded h x = bounded-difference (all-second h x) (all_first h x)
