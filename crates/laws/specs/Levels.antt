-- Level axes and remaining ones: how many remain and how many pairs take part, by tests over all flags; which axes a normal has for level ones.
use Rattle.std.specs.Prelude.{◌≡◌, refl, Bool, true, false, not, ◌&&◌, ◌||◌, List, [], ℕ, zero, suc, ◌+◌, ◌-◌, ◌*◌, ◌≤◌, T, eqb, leb, ℤ, pos, negsuc, length, ◌≤ℤ◌}
use Rattle.std.proofs.Common.{sym, arith, eqb→eq, leb→le}
use Rattle.std.proofs.lemmas.Bool.{false≢true}
use Rattle.std.proofs.Math.Facts.{and_yes}
use Rattle.integers.specs.Order.{parts}
use Rattle.rules.specs.declared.Vector.{Vector}
use Rattle.rules.specs.declared.Levels.{Levels}
use Rattle.rules.specs.declared.Pair.{Pair}
use Rattle.rules.specs.declared.Pair.TheVariants.{P01, P02, P10, P12, P20, P21}
use Rattle.rules.specs.declared.Axis.{Axis}
use Rattle.rules.specs.declared.Axis.TheVariants.{Axis0 as axis0, Axis1 as axis1, Axis2 as axis2}
use Rattle.rules.specs.Walk.{pairs, from, to, levels, level, all_level, keep, only, remaining, takes_part, unless_level, levelled}
use Rattle.rules.specs.Lean.{is_zero, levels_of}
use Rattle.laws.specs.Parts.{part}

-- ---- how many axes remain, and how many pairs take part: tests over all flags
every : (f : Bool → Bool) → T (f true && f false) → (b : Bool) → T (f b)
every f h true = (and_yes (f true) (f false) h).0
every f h false = (and_yes (f true) (f false) h).1

unfoldable pub each_way : (Bool → Bool) → Bool
each_way f = f true && f false

pub every-levels : (test : Levels → Bool) → T (each_way (λ a. each_way (λ b. each_way (λ c. test (levels a b c))))) → (v : Levels) → T (test v)
unfolding each_way
every-levels test h v = every (λ c. test (levels v.x v.y c)) (every (λ b. each_way (λ c. test (levels v.x b c))) (every (λ a. each_way (λ b. each_way (λ c. test (levels a b c)))) h v.x) v.y) v.z

-- 1 of an axis that remains
abbrev pub remains : Bool → ℕ
remains true = 0
remains false = 1

keep-length : {A : Type 0} (b : Bool) (x : A) (xs : List A) → length (keep (not b) x xs) ≡ remains b + length xs
unfolding keep
keep-length true x xs = omega arith
keep-length false x xs = omega arith

pub remaining-count : (v : Levels) → length (remaining v) ≡ remains v.x + (remains v.y + remains v.z)
unfolding remaining only
remaining-count v = omega (arith, keep-length v.x axis0 (keep (not v.y) axis1 (keep (not v.z) axis2 [])), keep-length v.y axis1 (keep (not v.z) axis2 []), keep-length v.z axis2 [])

pub at-most-3 : (v : Levels) → length (remaining v) ≤ 3
unfolding each_way remaining only keep
at-most-3 v = leb→le _ 3 (every-levels (λ v. leb (length (remaining v)) 3) tt v)

-- with r axes r(r - 1) pairs
pub pairs-taking : (v : Levels) → length (only (takes_part v) pairs) ≡ length (remaining v) * (length (remaining v) - 1)
unfolding each_way remaining takes_part only keep
pairs-taking v = eqb→eq _ _ (every-levels (λ v. eqb (length (only (takes_part v) pairs)) (length (remaining v) * (length (remaining v) - 1))) tt v)

pub some-remain : (v : Levels) → T (not (all_level v)) → 1 ≤ length (remaining v)
unfolding each_way remaining only keep all_level
some-remain v h = go (all_level v) h (every-levels (λ v. all_level v || leb 1 (length (remaining v))) tt v)
  where
    go : (b : Bool) → T (not b) → T (b || leb 1 (length (remaining v))) → 1 ≤ length (remaining v)
    go true h k = absurd h
    go false h k = leb→le 1 _ k

-- the axes of a pair that takes part remain
pub from-remains : (v : Levels) (x : Pair) → T (takes_part v x) → T (not (level v (from x)))
unfolding takes_part
from-remains v x t = (and_yes (not (level v (from x))) (not (level v (to x))) t).0

pub to-remains : (v : Levels) (x : Pair) → T (takes_part v x) → T (not (level v (to x)))
unfolding takes_part
to-remains v x t = (and_yes (not (level v (from x))) (not (level v (to x))) t).1

-- so there are two of them
has_two : Pair → Levels → Bool
has_two x v = not (takes_part v x) || leb 2 (length (remaining v))

two-each : (x : Pair) → T (each_way (λ a. each_way (λ b. each_way (λ c. has_two x (levels a b c)))))
unfolding each_way has_two remaining takes_part only keep
two-each P01 = tt
two-each P02 = tt
two-each P10 = tt
two-each P12 = tt
two-each P20 = tt
two-each P21 = tt

pub two-remain : (v : Levels) (x : Pair) → T (takes_part v x) → 2 ≤ length (remaining v)
unfolding has_two
two-remain v x t = go (takes_part v x) t (every-levels (has_two x) (two-each x) v)
  where
    go : (b : Bool) → T b → T (not b || leb 2 (length (remaining v))) → 2 ≤ length (remaining v)
    go true t k = leb→le 2 _ k
    go false t k = absurd t

-- ---- the level axes of a normal: those along which its part is 0
pub is-zero : (z : ℤ) → is_zero z ≡ true → z ≡ pos 0
is-zero (pos zero) e = refl
is-zero (pos (suc k)) e = absurd (false≢true e)
is-zero (negsuc k) e = absurd (false≢true e)

pub not-zero : (z : ℤ) → is_zero z ≡ false → pos 0 ≤ℤ z → pos 1 ≤ℤ z
not-zero (pos zero) e h = absurd (false≢true (sym e))
not-zero (pos (suc k)) e h = omega (arith, parts)
not-zero (negsuc k) e h = absurd h.le

pub above_zero : (z : ℤ) → pos 1 ≤ℤ z → is_zero z ≡ false
above_zero (pos zero) h = absurd (omega (arith, parts, h))
above_zero (pos (suc k)) h = refl
above_zero (negsuc k) h = absurd h.le

pub levels-of : (n : Vector) (k : Axis) → level (levels_of n) k ≡ is_zero (part k n)
levels-of n axis0 = refl
levels-of n axis1 = refl
levels-of n axis2 = refl

-- the same along each axis
pub levels-eq : {v w : Levels} → ((k : Axis) → level v k ≡ level w k) → v ≡ w
levels-eq h = λ i. record { x = h axis0 i; y = h axis1 i; z = h axis2 i }

pub part-levelled : (v : Levels) (n : Vector) (k : Axis) → part k (levelled v n) ≡ unless_level (level v k) (part k n)
unfolding levelled
part-levelled v n axis0 = refl
part-levelled v n axis1 = refl
part-levelled v n axis2 = refl

-- ---- where all are level, each is; else there is a lowest that remains
pub all-level : (v : Levels) → T (all_level v) → (k : Axis) → T (level v k)
unfolding all_level
all-level v h axis0 = (and_yes v.x (v.y && v.z) h).0
all-level v h axis1 = (and_yes v.y v.z (and_yes v.x (v.y && v.z) h).1).0
all-level v h axis2 = (and_yes v.y v.z (and_yes v.x (v.y && v.z) h).1).1

pub lowest : (v : Levels) → T (not (all_level v)) → (k : Axis) × T (not (level v k))
unfolding all_level
lowest v h = go v.x v.y v.z refl refl refl h
  where
    is-not : {b : Bool} → b ≡ false → T (not b)
    is-not e = rw e tt

    go : (a b c : Bool) → v.x ≡ a → v.y ≡ b → v.z ≡ c → T (not (a && (b && c))) → (k : Axis) × T (not (level v k))
    go false b c x y z h = (axis0, is-not x)
    go true false c x y z h = (axis1, is-not y)
    go true true false x y z h = (axis2, is-not z)
    go true true true x y z h = absurd h
