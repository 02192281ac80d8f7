-- A tally is what the code keeps of a question: its answer or its refusal, with the looks counted on from those before. A question after another goes on from
-- what the first gave: with its answer and count, or not at all after its refusal. So every way out of the code is told by one law for each question that it asked.
use Rattle.std.proofs.Math.Path.{◌≡◌, ap}
use Rattle.std.specs.Prelude.{refl, Bool, true, false, List, [], ◌++◌, ℕ, ◌+◌, ◌*◌, ◌≤◌, length}
use Rattle.std.proofs.Common.{sym, ◌∙◌, append-nil, arith, length-append}
use Rattle.rules.specs.declared.Vector.{Vector}
use Rattle.rules.specs.declared.Look.{Look}
use Rattle.rules.specs.declared.Look.TheVariants.{Filled, Empty, Outside}
use Rattle.rules.specs.Asked.{Asked, answered, refused, after, ◌>>=◌}
use Rattle.rules.specs.Walk.{Stop, stop, ensure, seen, asked, look_at}

pub data Tally (E A : Type 0) : Type 0 where
  yes : A → ℕ → Tally E A
  no : E → ℕ → Tally E A

unfoldable pub tally : {E A : Type 0} → ℕ → Asked E A → Tally E A
tally n (answered a t) = yes a (n + length t)
tally n (refused e t) = no e (n + length t)

-- after n looks the question x gives r
pub record Gives {E A : Type 0} (n : ℕ) (x : Asked E A) (r : Tally E A) : Type 0 where
  pub is : r ≡ tally n x

-- a question gives one tally: two answers, each made again of one that it gives, are equal
pub gives-settled : {E A R : Type 0} {n : ℕ} {x : Asked E A} {p o : Tally E A} {r t : R} (made : Tally E A → R) → made p ≡ r → made o ≡ t → Gives n x p → Gives n x o → r ≡ t
gives-settled made i j h k = sym i ∙ ap made (h.is ∙ sym k.is) ∙ j

-- ---- how many looks so many falls questions may take. A question takes nine at most; 512, which no power of a permitted reach exceeds, bounds them without counting
abbrev pub most_looks : ℕ → ℕ
most_looks questions = 512 * questions

-- so many questions more can be counted in 32 bits
abbrev pub Countable : ℕ → ℕ → Type 0
Countable questions looks = looks + most_looks questions ≤ 4294967295

-- ---- one question and then another
counts-on : (n : ℕ) (t s : List Vector) → n + length t + length s ≡ n + length (t ++ s)
counts-on n t s = omega (arith, length-append t s)

tally-after : {E B : Type 0} (n : ℕ) (t : List Vector) (x : Asked E B) → tally (n + length t) x ≡ tally n (after t x)
unfolding tally after
tally-after n t (answered b s) = ap (yes b) (counts-on n t s)
tally-after n t (refused e s) = ap (no e) (counts-on n t s)

-- what a tally makes of the next question
onward : {E A B : Type 0} → Tally E A → (A → Asked E B) → Tally E B
onward (yes a n) next = tally n (next a)
onward (no e n) next = no e n

tally-then : {E A B : Type 0} (n : ℕ) (x : Asked E A) (next : A → Asked E B) → onward (tally n x) next ≡ tally n (x >>= next)
unfolding onward tally ◌>>=◌
tally-then n (answered a t) next = tally-after n t (next a)
tally-then n (refused e t) next = refl

module _ {E A B : Type 0} {n : ℕ} {x : Asked E A} (next : A → Asked E B) where
  then_is : {a : A} {k : ℕ} → Gives n x (yes a k) → tally k (next a) ≡ tally n (x >>= next)
  unfolding onward
  then_is h = ap (λ (r : Tally E A). onward r next) h.is ∙ tally-then n x next

  pub then-yes : {a : A} {k : ℕ} {r : Tally E B} → Gives n x (yes a k) → Gives k (next a) r → Gives n (x >>= next) r
  then-yes h g = record { is = g.is ∙ then_is h }

  pub then-no : {e : E} {k : ℕ} → Gives n x (no e k) → Gives n (x >>= next) (no e k)
  unfolding onward
  then-no h = record { is = ap (λ (r : Tally E A). onward r next) h.is ∙ tally-then n x next }

-- a question within a question
pub inner-yes : {E A B C : Type 0} {n : ℕ} {x : Asked E A} (next : A → Asked E B) (last : B → Asked E C) {a : A} {k : ℕ} {r : Tally E C} → Gives n x (yes a k) → Gives k (next a >>= last) r → Gives n ((x >>= next) >>= last) r
unfolding onward
inner-yes {E} {B = B} {n = n} {x = x} next last {a} {k} h g =
    record { is = g.is ∙ sym (tally-then k (next a) last) ∙ ap (λ (r : Tally E B). onward r last) (then_is next h) ∙ tally-then n (x >>= next) last }

pub inner-no : {E A B C : Type 0} {n : ℕ} {x : Asked E A} (next : A → Asked E B) (last : B → Asked E C) {e : E} {k : ℕ} → Gives n x (no e k) → Gives n ((x >>= next) >>= last) (no e k)
inner-no next last h = then-no last (then-no next h)

pub at_once : {E A : Type 0} {n : ℕ} {a : A} → Gives {E = E} n (answered a []) (yes a n)
unfolding tally
at_once {a = a} = record { is = ap (yes a) (omega arith) }

pub refused-at-once : {E A : Type 0} {n : ℕ} {e : E} → Gives {A = A} n (refused e []) (no e n)
unfolding tally
refused-at-once {e = e} = record { is = ap (no e) (omega arith) }

-- an answer made into another, and that into a third
pub made-twice : {E A B C : Type 0} (x : Asked E A) (f : A → B) (g : B → C) → ((x >>= λ a. answered (f a) []) >>= λ b. answered (g b) []) ≡ (x >>= λ a. answered (g (f a)) [])
unfolding after ◌>>=◌
made-twice (answered a t) f g = ap (answered (g (f a))) (append-nil (t ++ []))
made-twice (refused e t) f g = refl

-- ---- a test: go on, or refuse
pub ensured : {n : ℕ} {b : Bool} (s : Stop) → b ≡ true → Gives n (ensure b s) (yes tt n)
unfolding ensure
ensured s e = rw e at_once

pub not-ensured : {n : ℕ} {b : Bool} {s : Stop} → b ≡ false → Gives n (ensure b s) (no s n)
unfolding ensure
not-ensured e = rw e refused-at-once

-- ---- a point outside the box is refusal 8
module _ {A : Type 0} (steps : ℕ) where
  pub asked-yes : {n : ℕ} {x : Asked Vector A} {a : A} {k : ℕ} → Gives n x (yes a k) → Gives n (asked steps x) (yes a k)
  unfolding tally asked
  asked-yes {n} {x} {a} {k} h = record { is = by x h.is }
    where
      by : (x : Asked Vector A) → yes a k ≡ tally n x → yes a k ≡ tally n (asked steps x)
      by (answered b t) e = cc
      by (refused p t) e = absurd (let z : ◌≡◌ {A = ℕ} 0 1 = cc in omega arith)

  pub asked-no : {n : ℕ} {x : Asked Vector A} {p : Vector} {k : ℕ} → Gives n x (no p k) → Gives n (asked steps x) (no (stop 8 p steps) k)
  unfolding tally asked
  asked-no {n} {x} {p} {k} h = record { is = by x h.is }
    where
      by : (x : Asked Vector A) → no p k ≡ tally n x → no (stop 8 p steps) k ≡ tally n (asked steps x)
      by (answered b t) e = absurd (let z : ◌≡◌ {A = ℕ} 0 1 = cc in omega arith)
      by (refused p t) e = cc

-- ---- one look
module _ (look : Vector → Look) (n : ℕ) (p : Vector) where
  pub filled-there : look p ≡ Filled → Gives n (look_at look p) (yes true (n + 1))
  unfolding look_at seen tally
  filled-there e = record { is = rw e }

  pub empty-there : look p ≡ Empty → Gives n (look_at look p) (yes false (n + 1))
  unfolding look_at seen tally
  empty-there e = record { is = rw e }

  pub outside-there : look p ≡ Outside → Gives n (look_at look p) (no p n)
  unfolding look_at seen tally
  outside-there e = record { is = rw e (ap (no p) (omega arith)) }

-- ---- what a tally says of the question
pub was-answered : {E A : Type 0} {n : ℕ} (x : Asked E A) {a : A} {k : ℕ} → Gives n x (yes a k) → (t : List Vector) × (x ≡ answered a t)
unfolding tally
was-answered (answered b t) h = (t, let e = h.is in cc)
was-answered (refused e t) h = absurd (let e = h.is in let z : ◌≡◌ {A = ℕ} 0 1 = cc in omega arith)
