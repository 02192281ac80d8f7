-- Vectors part by part: what holds of each part, and the laws of `dot` that hold of shut vectors.
use Rattle.std.specs.Prelude.{◌≡◌, refl, List, [], ◌∷◌, ℤ, pos, neg_ℤ, ◌+ℤ◌, ◌-ℤ◌, ◌*ℤ◌, ◌≤ℤ◌}
use Rattle.integers.specs.Reify.{byring, sides}
use Rattle.integers.specs.Laws.{*ℤ-idl}
use Rattle.rules.specs.declared.Vector.{Vector}
use Rattle.rules.specs.Vectors.{◌⊕◌, ◌⊖◌, minus, scale, dot, lay, origin}
use Rattle.rules.specs.declared.Axis.{Axis}
use Rattle.rules.specs.declared.Axis.TheVariants.{Axis0 as axis0, Axis1 as axis1, Axis2 as axis2}
use Rattle.rules.specs.Walk.{unit}

-- the part along an axis
abbrev pub part : Axis → Vector → ℤ
part axis0 a = a.x
part axis1 a = a.y
part axis2 a = a.z

pub vector-by-parts : {a b : Vector} → ((k : Axis) → part k a ≡ part k b) → a ≡ b
vector-by-parts h = λ i. record { x = h axis0 i; y = h axis1 i; z = h axis2 i }

pub part-sum : (k : Axis) (a b : Vector) → part k (a ⊕ b) ≡ part k a +ℤ part k b
unfolding ◌⊕◌
part-sum axis0 a b = refl
part-sum axis1 a b = refl
part-sum axis2 a b = refl

pub part-scale : (k : Axis) (l : ℤ) (a : Vector) → part k (scale l a) ≡ l *ℤ part k a
unfolding scale
part-scale axis0 l a = refl
part-scale axis1 l a = refl
part-scale axis2 l a = refl

pub part-minus : (k : Axis) (a : Vector) → part k (minus a) ≡ neg_ℤ (part k a)
unfolding minus
part-minus axis0 a = refl
part-minus axis1 a = refl
part-minus axis2 a = refl

pub part-lay : (k : Axis) (s a : Vector) → part k (lay s a) ≡ part k s *ℤ part k a
unfolding lay
part-lay axis0 s a = refl
part-lay axis1 s a = refl
part-lay axis2 s a = refl

pub part-origin : (k : Axis) → part k origin ≡ pos 0
part-origin axis0 = refl
part-origin axis1 = refl
part-origin axis2 = refl

pub part-difference : (k : Axis) (a b : Vector) → part k (a ⊖ b) ≡ part k a -ℤ part k b
unfolding ◌⊖◌
part-difference axis0 a b = refl
part-difference axis1 a b = refl
part-difference axis2 a b = refl

-- a difference the other way round
pub difference-turned : (a b : Vector) → a ⊖ b ≡ minus (b ⊖ a)
difference-turned a b = vector-by-parts (λ k. simp (part-difference, part-minus) (byring (part k a ∷ part k b ∷ []) (search sides depth 40 fits 5000) tt))

-- P of each part
pub record Parts (P : ℤ → Type 0) (a : Vector) : Type 0 where
  pub of_x : P a.x
  pub of_y : P a.y
  pub of_z : P a.z

pub part_of : {P : ℤ → Type 0} {a : Vector} → Parts P a → (k : Axis) → P (part k a)
part_of h axis0 = h.of_x
part_of h axis1 = h.of_y
part_of h axis2 = h.of_z

pub parts-by : (P : ℤ → Type 0) (a : Vector) → ((k : Axis) → P (part k a)) → Parts P a
parts-by P a h = record { of_x = h axis0; of_y = h axis1; of_z = h axis2 }

pub vector-eq : {a b : Vector} → a.x ≡ b.x → a.y ≡ b.y → a.z ≡ b.z → a ≡ b
vector-eq p q r = λ i. record { x = p i; y = q i; z = r i }

-- no part negative; each part at least 1
abbrev pub NonNegative : Vector → Type 0
NonNegative = Parts (λ z. pos 0 ≤ℤ z)

abbrev pub Positive : Vector → Type 0
Positive = Parts (λ z. pos 1 ≤ℤ z)

-- the parts of two vectors and of three, the atoms of an identity
abbrev pub of2 : Vector → Vector → List ℤ
of2 a b = a.x ∷ a.y ∷ a.z ∷ b.x ∷ b.y ∷ b.z ∷ []

abbrev pub of3 : Vector → Vector → Vector → List ℤ
of3 a b c = a.x ∷ a.y ∷ a.z ∷ of2 b c

-- ---- products with a vector
pub dot-sum : (n a b : Vector) → dot n (a ⊕ b) ≡ dot n a +ℤ dot n b
unfolding dot ◌⊕◌
dot-sum n a b = byring (of3 n a b) (search sides depth 40 fits 5000) tt

pub dot-difference : (n a b : Vector) → dot n (a ⊖ b) ≡ dot n a -ℤ dot n b
unfolding dot ◌⊖◌
dot-difference n a b = byring (of3 n a b) (search sides depth 40 fits 5000) tt

pub dot-minus : (n a : Vector) → dot n (minus a) ≡ neg_ℤ (dot n a)
unfolding dot minus
dot-minus n a = byring (of2 n a) (search sides depth 40 fits 5000) tt

pub dot-scale : (n a : Vector) (l : ℤ) → dot n (scale l a) ≡ l *ℤ dot n a
unfolding dot scale
dot-scale n a l = byring (l ∷ of2 n a) (search sides depth 40 fits 5000) tt

pub scale-dot : (n a : Vector) (l : ℤ) → dot (scale l n) a ≡ l *ℤ dot n a
unfolding dot scale
scale-dot n a l = byring (l ∷ of2 n a) (search sides depth 40 fits 5000) tt

pub dot-unit : (n : Vector) (k : Axis) → dot n (unit k) ≡ part k n
unfolding dot
dot-unit n axis0 = byring (n.x ∷ n.y ∷ n.z ∷ []) (search sides depth 40 fits 5000) tt
dot-unit n axis1 = byring (n.x ∷ n.y ∷ n.z ∷ []) (search sides depth 40 fits 5000) tt
dot-unit n axis2 = byring (n.x ∷ n.y ∷ n.z ∷ []) (search sides depth 40 fits 5000) tt

pub dot-origin : (n : Vector) → dot n origin ≡ pos 0
unfolding dot
dot-origin n = byring (n.x ∷ n.y ∷ n.z ∷ []) (search sides depth 40 fits 5000) tt

pub scale_one : (a : Vector) → scale (pos 1) a ≡ a
unfolding scale
scale_one a = vector-eq (*ℤ-idl a.x) (*ℤ-idl a.y) (*ℤ-idl a.z)
