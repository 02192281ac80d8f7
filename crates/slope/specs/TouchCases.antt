-- What is wanted of quick touches is not empty: W1, W8, W7, W6, a stack and a touch at an edge on the first empty level; and two slopes above it, where the guess is wrong.
-- What is assumed of them is proved, the answers are evaluated.
use Rattle.std.specs.Prelude.{◌≡◌, refl, ℕ, ℤ, pos, negsuc}
use Rattle.std.proofs.Common.{ap, arith}
use Rattle.integers.specs.Order.{parts}
use Rattle.rules.specs.declared.Vector.{Vector}
use Rattle.rules.specs.Answers.{Touch}
use Rattle.std.specs.Prelude.{Ok as Guess, Err as TouchRefused}
use Rattle.rules.specs.Vectors.{vector, ◌⊕◌, ◌⊖◌, minus, scale, dot, cross, det, sphere, lay, size, unit0, unit2}
use Rattle.rules.specs.Solids.{between, permitted_wedge, filled_wedge, in_box, look, row_bytes, slice_bytes, stack_bytes, permitted_stack, voxel, filled_stack}
use Rattle.rules.specs.Asked.{after, ◌>>=◌}
use Rattle.rules.specs.Walk.{ensure, sign, signs, seen, asked, normal, keep, only, remaining, takes_part, levelled, determinant, inside, any_inside, first_free, choice, look_at, falls_at, facing, corners_filled, all_corners, quick_start, falling, round as round_of, walk, rounds, found, end}
use Rattle.rules.specs.Pick.{is_inside, placing, judging, answer}
use Rattle.rules.specs.Touch.{touch, marked, touch_of}
use Rattle.slope.specs.Stair.{row, rows, slices, stair_bytes}
use Rattle.slope.specs.Demands.{Inputs, apex_of, OnSlope}
use Rattle.slope.specs.Cases.{on-wedge, on_line, on-stair, not-empty}
use Rattle.slope.specs.Touches.{touch_at, Guesses, TouchRefuses, WrongGuess, TouchNotEmpty}

-- ---- the outcome of a touch
data Outcome : Type 0 where
  G : Vector → ℕ → ℕ → Outcome
  R : ℕ → Outcome

outcome : Touch → Outcome
outcome (Guess g) = let a = g.answer in G a.normal a.steps a.looks
outcome (TouchRefused r) = R r.number

guesses : {n : Vector} {t : ℤ} {i : Inputs} {steps looks : ℕ} → OnSlope n t i → dot n (apex_of i) ≡ t → outcome (touch_at i) ≡ G n steps looks → Guesses n t i steps looks
unfolding outcome
guesses {n} {t} {i} {steps} {looks} o l e = go (touch_at i) refl e
  where
    go : (x : Touch) → touch_at i ≡ x → outcome x ≡ G n steps looks → Guesses n t i steps looks
    go (Guess g) is e = record { on_level = record { on_slope = o; first_level = l }; answer = g.answer; is = is; is_normal = cc e; steps_are = cc e; looks_are = cc e }
    go (TouchRefused r) is e = absurd (let z : ◌≡◌ {A = ℕ} 0 1 = cc e in omega arith)

refuses : {n : Vector} {t : ℤ} {i : Inputs} {number : ℕ} → OnSlope n t i → dot n (apex_of i) ≡ t → outcome (touch_at i) ≡ R number → TouchRefuses n t i number
unfolding outcome
refuses {n} {t} {i} {number} o l e = go (touch_at i) refl e
  where
    go : (x : Touch) → touch_at i ≡ x → outcome x ≡ R number → TouchRefuses n t i number
    go (Guess a) is e = absurd (let z : ◌≡◌ {A = ℕ} 0 1 = cc e in omega arith)
    go (TouchRefused r) is e = record { on_level = record { on_slope = o; first_level = l }; answer = r; is = is; number_is = cc e }

guesses-wrong : {n : Vector} {t : ℤ} {i : Inputs} (guessed : Vector) (steps looks : ℕ) → OnSlope n t i → outcome (touch_at i) ≡ G guessed steps looks → (guessed ≡ n → ⊥) → WrongGuess n t i guessed
unfolding outcome
guesses-wrong {n} {t} {i} guessed steps looks o e w = go (touch_at i) refl e
  where
    go : (x : Touch) → touch_at i ≡ x → outcome x ≡ G guessed steps looks → WrongGuess n t i guessed
    go (Guess g) is e = record { on_slope = o; answer = g.answer; is = is; is_normal = cc e; is_wrong = w }
    go (TouchRefused r) is e = absurd (let z : ◌≡◌ {A = ℕ} 0 1 = cc e in omega arith)

differ : (a b : Vector) → (a.x ≡ b.x → ⊥) → a ≡ b → ⊥
differ a b h e = h (ap (λ (v : Vector). v.x) e)

pub touch-not-empty : TouchNotEmpty
unfolding outcome ◌⊕◌ ◌⊖◌ minus scale dot cross det sphere lay size between permitted_wedge filled_wedge in_box look row_bytes voxel filled_stack permitted_stack stack_bytes slice_bytes stair_bytes slices rows row after ◌>>=◌ ensure sign signs seen asked normal keep only remaining takes_part levelled determinant inside any_inside first_free choice look_at falls_at facing corners_filled all_corners quick_start falling round_of walk rounds found end is_inside placing judging answer touch marked touch_of
touch-not-empty = record {
  W1 = guesses (on_line (on-wedge (pos 1) unit0 tt tt tt tt tt tt refl tt tt refl refl refl) tt tt) refl refl;
  W8 = guesses (on_line (on-wedge (pos 1) (minus unit0) tt tt tt tt tt tt refl tt tt refl refl refl) tt tt) refl refl;
  on_stack = guesses on-stair refl refl;
  W7 = guesses (on_line (on-wedge (pos 1) unit0 tt tt tt tt tt tt refl tt tt refl refl refl) tt tt) refl refl;
  W7LongWalk = not-empty.W7;
  W6 = refuses (on_line (on-wedge (pos 1) unit2 tt tt tt tt tt tt refl tt tt refl refl refl) tt tt) refl refl;
  edge = refuses (on_line (on-wedge (pos 1) unit0 tt tt tt tt tt tt refl tt tt refl refl refl) tt tt) refl refl;
  off_level = guesses-wrong _ 0 11 (on_line (on-wedge (pos 1) (vector (negsuc 0) (pos 0) (pos 1)) tt tt tt tt tt tt refl tt tt refl refl refl) tt tt) refl (differ _ _ (λ e. omega (arith, parts, e)));
  power_one_only = guesses-wrong _ 3 29 (on_line (on-wedge (pos 1) (vector (negsuc 0) (pos 1) (pos 0)) tt tt tt tt tt tt refl tt tt refl refl refl) tt tt) refl (differ _ _ (λ e. omega (arith, parts, e)));
}
