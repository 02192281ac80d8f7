-- The whole question: refusals 1, 2 and 3, then 35 for a refused pick, then the footing of an accepted one; and the answer that it gives.
use mathlib.Core.Path.{◌≡◌, refl, sym, ap, ◌∙◌}
use mathlib.Core.Bool.{Bool, true, false}
use mathlib.Core.List.{List}
use Prim.Native.Nat.{ℕ, ◌+◌, ◌≤◌}
use native.Mathlib.Omega.{arith}
use lib.IntN.{ℤ, pos, nat_abs}
use lib.ListN.{length}
use mir.Syntax.{w32}
use mir.Val.{SFits, to_z, of_z}
use mir.Facts.{to_z-of_z}
use Rattle.std.specs.Prelude.{Ok as Accepted, Err as Refused, Ok as Stands, Err as FirmRefused}
use Rattle.rules.specs.declared.Solid.{Solid}
use Rattle.rules.specs.declared.Refused.{Refused as RefusedPick}
use Rattle.rules.specs.declared.Bound.{Bound}
use Rattle.rules.specs.Answers.{Pick, Firm}
use Rattle.rules.specs.Vectors.{origin}
use Rattle.rules.specs.Solids.{between, permitted, look}
use Rattle.rules.specs.Asked.{Asked, answered, refused}
use Rattle.rules.specs.Walk.{Stop}
use Rattle.rules.specs.Pick.{refused_answer}
use Rattle.rules.specs.Firm.{firm_under, firm_on, firm, firm_answer, firm_of, FirmPromise}
use Rattle.laws.specs.Tally.{Tally, yes, no, tally, Gives, refused-at-once}
use Rattle.refusals.specs.Refusals.{refusal_of}
use Rattle.inputs.specs.Judging.{reach-refused, frame_refused, solid-refused, solid-permitted}
use Rattle.inputs.specs.Ranges.{range}
use Rattle.firm.specs.Firm.{firm_tally, FirmOf}

-- ---- a refused pick has no footing
pub of-refused : {solid : Solid} {bytes : List ℕ} {pick : Pick} {frame reach : ℕ} {t r : RefusedPick} → pick ≡ Refused t → r ≡ refusal_of 35 origin 0 0 → FirmOf solid bytes pick frame reach (FirmRefused r)
of-refused j f = record { gives = rw (j, f) refused-at-once }

-- ---- the answer is made again of its tally
made : Tally Stop (ℕ × Bound) → Firm
made (yes f n) = Stands (record { power = f.0; looks = n; bound = f.1 })
made (no s n) = FirmRefused (refused_answer s n)

made_again : (r : Firm) → r ≡ made (firm_tally r)
unfolding made
made_again (Stands f) = refl
made_again (FirmRefused r) = refl

made-answer : (x : Asked Stop (ℕ × Bound)) → made (tally 0 x) ≡ firm_answer x
unfolding made tally firm_answer
made-answer (answered f t) = let e : 0 + length t ≡ length t = omega arith in ap (λ (n : ℕ). Stands (record { power = f.0; looks = n; bound = f.1 })) e
made-answer (refused s t) = let e : 0 + length t ≡ length t = omega arith in ap (λ (n : ℕ). FirmRefused (refused_answer s n)) e

-- ---- the refusals, and the rest after 1, 2 and 3; numbers as they were read from bits
abbrev bits : ℤ → ℤ
bits z = to_z w32 (of_z w32 z)

promised : {solid : Solid} {bytes : List ℕ} {pick : Pick} {frame reach : ℤ} {r : Firm} → SFits w32 frame → SFits w32 reach → Gives 0 (firm (permitted solid bytes) (look solid bytes) (bits frame) (bits reach) pick) (firm_tally r) → FirmPromise solid bytes pick frame reach r
unfolding firm_of
promised {r} f g h = record { is = made_again r ∙ ap made (rw (to_z-of_z f, to_z-of_z g) at h).is ∙ made-answer _ }

-- only the sizes of the frame and of the reach are read
of_size : {solid : Solid} {bytes : List ℕ} (frame reach : ℤ) (pick : Pick) {r : Firm} → FirmOf solid bytes pick (nat_abs frame) (nat_abs reach) r → Gives 0 (firm_on (look solid bytes) frame reach pick) (firm_tally r)
unfolding firm_under
of_size frame reach (Accepted a) h = h.gives
of_size frame reach (Refused t) h = h.gives

abbrev rest : Solid → List ℕ → Pick → ℤ → ℤ → Asked Stop (ℕ × Bound)
rest solid bytes pick frame reach = firm_on (look solid bytes) frame reach pick

module _ {solid : Solid} {bytes : List ℕ} {pick : Pick} {frame reach : ℤ} {a : Bool} (m : SFits w32 frame) (n : SFits w32 reach) (ha : a ≡ between (pos 1) (bits reach) (pos 256)) where
  pub on-reach : {r : RefusedPick} → a ≡ false → r ≡ refusal_of 1 origin 0 0 → FirmPromise solid bytes pick frame reach (FirmRefused r)
  unfolding firm
  on-reach e f = promised m n (rw f (reach-refused (permitted solid bytes) (bits frame) (bits reach) (rest solid bytes pick (bits frame) (bits reach)) (sym ha ∙ e)))

  module _ {b : Bool} (e : a ≡ true) (hb : b ≡ between (pos 0) (bits frame) (pos 7)) where
    pub on-frame : {r : RefusedPick} → b ≡ false → r ≡ refusal_of 2 origin 0 0 → FirmPromise solid bytes pick frame reach (FirmRefused r)
    unfolding firm
    on-frame g f = promised m n (rw f (frame_refused (permitted solid bytes) (bits frame) (bits reach) (rest solid bytes pick (bits frame) (bits reach)) (sym ha ∙ e) (sym hb ∙ g)))

    module _ {d : Bool} (g : b ≡ true) (hd : d ≡ permitted solid bytes) where
      pub on-solid : {r : RefusedPick} → d ≡ false → r ≡ refusal_of 3 origin 0 0 → FirmPromise solid bytes pick frame reach (FirmRefused r)
      unfolding firm
      on-solid i f = promised m n (rw f (solid-refused (permitted solid bytes) (bits frame) (bits reach) (rest solid bytes pick (bits frame) (bits reach)) (sym ha ∙ e) (sym hb ∙ g) (sym hd ∙ i)))

      pub on-answer : {s : Solid} {bs : List ℕ} {k l : ℕ} {r : Firm} → d ≡ true → (s ≡ solid) × (bs ≡ bytes) → k ≡ nat_abs (bits frame) → l ≡ nat_abs (bits reach) → FirmOf s bs pick k l r → FirmPromise solid bytes pick frame reach r
      unfolding firm
      on-answer i x k l h = promised m n (solid-permitted (permitted solid bytes) (bits frame) (bits reach) (rest solid bytes pick (bits frame) (bits reach)) (sym ha ∙ e) (sym hb ∙ g) (sym hd ∙ i) (of_size (bits frame) (bits reach) pick (rw (x.0, x.1, k, l) at h)))

pub ruleset on = (on-reach, on-frame, on-solid, on-answer)

pub reach-low : (reach : ℤ) {b : Bool} {n : ℕ} → b ≡ between (pos 1) (bits reach) (pos 256) → b ≡ true → n ≡ nat_abs (bits reach) → n ≤ 256
reach-low reach e t q = omega (arith, q, (range 1 256 _ (sym e ∙ t)).at_most)
