-- What a question says: Q of its answer and F of its refusal, each with the voxels looked at, in order. One rule for each way to build a question,
-- so that a theorem about the walk follows the walk's own text.
use Rattle.std.specs.Prelude.{◌≡◌, refl, Bool, not, ℕ, ◌+◌, ◌≤◌, T, length}
use Rattle.std.proofs.Common.{sym, subst, arith, length-append}
use Rattle.std.proofs.Math.Bool.{true, false}
use mathlib.Core.List.{List, [], ◌++◌, append-nil}
use Rattle.rules.specs.declared.Vector.{Vector}
use Rattle.rules.specs.Asked.{Asked, answered, refused, after, ◌>>=◌, ◌>>◌}
use Rattle.rules.specs.Walk.{Stop, stop, ensure, asked}

abbrev pub SaysOf : {E A : Type 0} → (A → List Vector → Type 0) → (E → List Vector → Type 0) → Asked E A → Type 0
SaysOf Q F (answered a t) = Q a t
SaysOf Q F (refused r t) = F r t

pub record Says {E A : Type 0} (Q : A → List Vector → Type 0) (F : E → List Vector → Type 0) (x : Asked E A) : Type 0 where
  pub of : SaysOf Q F x

-- Q, after at most N looks
pub record Few {A : Type 0} (N : ℕ) (Q : A → Type 0) (a : A) (t : List Vector) : Type 0 where
  pub holds : Q a
  pub few : length t ≤ N

pub fewer : {A : Type 0} {Q : A → Type 0} {M N : ℕ} {a : A} {s t : List Vector} → (length s ≤ M → length t ≤ N) → Few M Q a s → Few N Q a t
fewer f h = record { holds = h.holds; few = f h.few }

-- after t, of at most M looks
pub few-after : {A : Type 0} {Q : A → Type 0} {M N K : ℕ} {a : A} {s : List Vector} (t : List Vector) → length t ≤ M → M + N ≤ K → Few N Q a s → Few K Q a (t ++ s)
few-after {s = s} t h k f = fewer (λ l. omega (arith, h, k, l, length-append t s)) f

module _ {E A : Type 0} {Q : A → List Vector → Type 0} {F : E → List Vector → Type 0} where
  pub says-answer : {a : A} → Q a [] → Says Q F (answered a [])
  says-answer h = record { of = h }

  pub says-refuse : {r : E} → F r [] → Says Q F (refused r [])
  says-refuse h = record { of = h }

  pub says-weaker : {P : A → List Vector → Type 0} {G : E → List Vector → Type 0} (x : Asked E A) → ((a : A) (t : List Vector) → P a t → Q a t) → ((r : E) (t : List Vector) → G r t → F r t) → Says P G x → Says Q F x
  says-weaker (answered a t) f g s = record { of = f a t s.of }
  says-weaker (refused r t) f g s = record { of = g r t s.of }

  -- of a question that was answered so
  pub says-answered : {x : Asked E A} {a : A} {t : List Vector} → Says Q F x → x ≡ answered a t → Q a t
  says-answered s e = subst (SaysOf Q F) e s.of

  -- voxels were looked at before
  says-after : (t : List Vector) (x : Asked E A) → Says (λ a s. Q a (t ++ s)) (λ r s. F r (t ++ s)) x → Says Q F (after t x)
  unfolding after
  says-after t (answered a s) k = record { of = k.of }
  says-after t (refused r s) k = record { of = k.of }

  -- besides, the answer is the question's own
  pub says-itself : (x : Asked E A) → Says Q F x → Says (λ a t. Q a t × (x ≡ answered a t)) (λ r t. F r t × (x ≡ refused r t)) x
  says-itself (answered a t) s = record { of = (s.of, refl) }
  says-itself (refused r t) s = record { of = (s.of, refl) }

-- two things said of one question
pub says_both : {E A : Type 0} {P Q : A → List Vector → Type 0} {F G : E → List Vector → Type 0} (x : Asked E A) → Says P F x → Says Q G x → Says (λ a t. P a t × Q a t) (λ r t. F r t × G r t) x
says_both (answered a t) s u = record { of = (s.of, u.of) }
says_both (refused r t) s u = record { of = (s.of, u.of) }

-- one question and then another
pub says-bind : {E A B : Type 0} {P : A → List Vector → Type 0} {G : E → List Vector → Type 0} {Q : B → List Vector → Type 0} {F : E → List Vector → Type 0} (x : Asked E A) (k : A → Asked E B)
    → Says P G x → ((r : E) (t : List Vector) → G r t → F r t) → ((a : A) (t : List Vector) → P a t → Says (λ b s. Q b (t ++ s)) (λ r s. F r (t ++ s)) (k a)) → Says Q F (x >>= k)
unfolding ◌>>=◌
says-bind (answered a t) k s g f = says-after t (k a) (f a t s.of)
says-bind (refused r t) k s g f = record { of = g r t s.of }

-- the same, by the most looks of each
pub few-bind : {E A B : Type 0} {P : A → Type 0} {Q : B → Type 0} {F : E → Type 0} {M N : ℕ} (x : Asked E A) (k : A → Asked E B)
    → Says (Few M P) (Few M F) x → ((a : A) → P a → Says (Few N Q) (Few N F) (k a)) → Says (Few (M + N) Q) (Few (M + N) F) (x >>= k)
few-bind x k s f =
    says-bind x k s (λ r t h. fewer (λ l. omega (arith, l)) h) (λ a t h. says-weaker (k a) (λ b s q. few-after t h.few (omega arith) q) (λ r s q. few-after t h.few (omega arith) q) (f a h.holds))

-- fewer looks than stated
pub few-fewer : {E A : Type 0} {Q : A → Type 0} {F : E → Type 0} {M N : ℕ} (x : Asked E A) → M ≤ N → Says (Few M Q) (Few M F) x → Says (Few N Q) (Few N F) x
few-fewer x h s = says-weaker x (λ a t q. fewer (λ l. omega (arith, l, h)) q) (λ r t q. fewer (λ l. omega (arith, l, h)) q) s

-- an answer made from another
pub says_map : {E A B : Type 0} {P : A → List Vector → Type 0} {Q : B → List Vector → Type 0} {F : E → List Vector → Type 0} (x : Asked E A) (f : A → B)
    → Says P F x → ((a : A) (t : List Vector) → P a t → Q (f a) t) → Says Q F (x >>= λ a. answered (f a) [])
unfolding ◌>>=◌ after
says_map {Q = Q} (answered a t) f s g = record { of = subst (Q (f a)) (sym (append-nil t)) (g a t s.of) }
says_map (refused r t) f s g = record { of = s.of }

module _ {A : Type 0} {Q : A → List Vector → Type 0} {F : Stop → List Vector → Type 0} where
  -- a question asked after n steps
  pub says-asked : {G : Vector → List Vector → Type 0} (n : ℕ) (x : Asked Vector A) → ((p : Vector) (t : List Vector) → G p t → F (stop 8 p n) t) → Says Q G x → Says Q F (asked n x)
  unfolding asked
  says-asked n (answered a t) f s = record { of = s.of }
  says-asked n (refused p t) f s = record { of = f p t s.of }

  -- a test that may refuse
  pub says-ensure : (b : Bool) (r : Stop) (k : Asked Stop A) → (T (not b) → F r []) → (T b → Says Q F k) → Says Q F (ensure b r >> k)
  unfolding ensure ◌>>=◌ after
  says-ensure true r k f g = none k (g tt)
    where
      none : (k : Asked Stop A) → Says Q F k → Says Q F (after [] k)
      none (answered a t) s = record { of = s.of }
      none (refused r t) s = record { of = s.of }
  says-ensure false r k f g = record { of = f tt }

-- a test, and nothing after it
pub says-test : {Q : Unit {0} → List Vector → Type 0} {F : Stop → List Vector → Type 0} (b : Bool) (r : Stop) → (T (not b) → F r []) → (T b → Q tt []) → Says Q F (ensure b r)
unfolding ensure
says-test true r f g = record { of = g tt }
says-test false r f g = record { of = f tt }
