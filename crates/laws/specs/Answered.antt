-- What a question that was answered was made of: each of its parts was answered, and the voxels that a part looked at are among all.
use Rattle.std.specs.Prelude.{◌≡◌, refl, Bool, true, false, List, [], ◌∷◌, ◌++◌, ℕ, T}
use Rattle.std.proofs.Common.{◌∙◌, inl, inr, arith}
use Rattle.rules.specs.declared.Vector.{Vector}
use Rattle.rules.specs.Asked.{Asked, answered, refused, after, ◌>>=◌, ◌>>◌}
use Rattle.rules.specs.Walk.{Stop, ensure, asked}
use Rattle.laws.specs.Tests.{In}

-- the voxels that a question looked at, in order
abbrev pub voxels_of : {E A : Type 0} → Asked E A → List Vector
voxels_of (answered a t) = t
voxels_of (refused r t) = t

pub record Among (xs ys : List Vector) : Type 0 where
  pub each : (p : Vector) → In p xs → In p ys

in-front : (xs ys : List Vector) (p : Vector) → In p xs → In p (xs ++ ys)
in-front [] ys p i = absurd i
in-front (x ∷ xs) ys p (inl e) = inl e
in-front (x ∷ xs) ys p (inr i) = inr (in-front xs ys p i)

in-behind : (xs ys : List Vector) (p : Vector) → In p ys → In p (xs ++ ys)
in-behind [] ys p i = i
in-behind (x ∷ xs) ys p i = inr (in-behind xs ys p i)

pub among-more : {xs ys zs : List Vector} → Among xs ys → Among ys zs → Among xs zs
among-more f g = record { each = λ p i. g.each p (f.each p i) }

-- one question and then another
pub record Both {E A B : Type 0} (x : Asked E A) (k : A → Asked E B) (b : B) (t : List Vector) : Type 0 where
  pub answer : A
  pub front : List Vector
  pub behind : List Vector
  pub first : x ≡ answered answer front
  pub second : k answer ≡ answered b behind
  pub first_among : Among front t
  pub second_among : Among behind t

pub both-answered : {E A B : Type 0} {b : B} {t : List Vector} (x : Asked E A) (k : A → Asked E B) → (x >>= k) ≡ answered b t → Both x k b t
unfolding ◌>>=◌ after
both-answered {E} {A} {B} {b} {t} (answered a s) k e = go (k a) refl e
  where
    go : (y : Asked E B) → k a ≡ y → after s y ≡ answered b t → Both (answered a s) k b t
    go (answered c u) f e =
        let c-is : c ≡ b = cc in
        let t-is : s ++ u ≡ t = cc in
        record {
          answer = a;
          front = s;
          behind = u;
          first = refl;
          second = f ∙ (λ i. answered (c-is i) u);
          first_among = rw (← t-is) (record { each = in-front s u });
          second_among = rw (← t-is) (record { each = in-behind s u });
        }
    go (refused r u) f e = absurd (let z : ◌≡◌ {A = ℕ} 0 1 = cc in omega arith)
both-answered (refused r s) k e = absurd (let z : ◌≡◌ {A = ℕ} 0 1 = cc in omega arith)

-- a question asked after n steps
pub asked-answered : {A : Type 0} {a : A} {t : List Vector} (n : ℕ) (x : Asked Vector A) → asked n x ≡ answered a t → x ≡ answered a t
unfolding asked
asked-answered n (answered a s) e = cc
asked-answered n (refused p s) e = absurd (let z : ◌≡◌ {A = ℕ} 0 1 = cc in omega arith)

-- a test that was passed
pub ensured-answered : {A : Type 0} {a : A} {t : List Vector} (b : Bool) (r : Stop) (k : Asked Stop A) → (ensure b r >> k) ≡ answered a t → T b × (k ≡ answered a t)
unfolding ensure ◌>>=◌ after
ensured-answered true r (answered c s) e = (tt, e)
ensured-answered true r (refused q s) e = (tt, e)
ensured-answered false r k e = absurd (let z : ◌≡◌ {A = ℕ} 0 1 = cc in omega arith)
