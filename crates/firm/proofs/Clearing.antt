-- The start's refusals: 4 by the box, 5 and 6 by the looks, and what each makes of the question that follows.
use mathlib.Core.Path.{◌≡◌, refl, sym, subst, ◌∙◌}
use mathlib.Core.Bool.{Bool, true, false}
use mathlib.Core.List.{List, []}
use Prim.Native.Nat.{ℕ, ◌≤◌}
use lib.Dec.{T}
use Rattle.std.specs.Prelude.{Ok as Clear, Err as IsRefused}
use Rattle.rules.specs.declared.Vector.{Vector}
use Rattle.rules.specs.declared.Solid.{Solid}
use Rattle.rules.specs.declared.Look.{Look}
use Rattle.rules.specs.declared.Look.TheVariants.{Filled, Empty, Outside}
use Rattle.rules.specs.declared.Refused.{Refused}
use Rattle.rules.specs.declared.Bound.{Bound}
use Rattle.rules.specs.Solids.{box, in_box, look}
use Rattle.rules.specs.Asked.{Asked, ◌>>◌}
use Rattle.rules.specs.Walk.{Stop, Probe, facing}
use Rattle.rules.specs.Pick.{is_inside}
use Rattle.laws.specs.Boxes.{look-inside}
use Rattle.laws.specs.Tally.{Gives, then-yes, then-no}
use Rattle.solid.specs.Asks.{InBoxOf}
use Rattle.refusals.specs.Refusals.{refusal_of}
use Rattle.facing.specs.Facing.{Cleared, cleared_tally, cleared_looks}
use Rattle.facing.specs.Looks as Looks
use Rattle.inputs.specs.Judging.{start-outside-box, apex-outside-box, both-inside, inside_is}
use Rattle.firm.specs.Firm.{filled_as, cleared, ClearAt, probe_at, StartFaced, StartCleared}

-- ---- one look
is-filled : (k : Look) → filled_as k ≡ true → k ≡ Filled
is-filled Filled e = refl
is-filled Empty e = absurd (subst T (sym e) tt)
is-filled Outside e = absurd (subst T (sym e) tt)

is-empty : (k : Look) → is_inside k ≡ true → filled_as k ≡ false → k ≡ Empty
unfolding is_inside
is-empty Filled i e = absurd (subst T e tt)
is-empty Empty i e = refl
is-empty Outside i e = absurd (subst T (sym i) tt)

-- ---- the looks at the start p and at the apex q, both in the box
inside-there : {solid : Solid} (bytes : List ℕ) {p : Vector} → InBoxOf solid p → is_inside (look solid bytes p) ≡ true
inside-there {solid} bytes {p} h = look-inside solid bytes p ∙ h.is

module _ {solid : Solid} {bytes : List ℕ} {p q : Vector} {h : Bool} (start : InBoxOf solid p) (apex : InBoxOf solid q) (hh : h ≡ filled_as (look solid bytes p)) where
  pub face-start-empty : {r : Refused} → h ≡ false → r ≡ refusal_of 5 p 0 1 → StartFaced solid bytes p q (IsRefused r)
  face-start-empty i f = record { is = λ s ls. Looks.start-empty {c = probe_at solid bytes q s ls} refl (is-empty _ (inside-there bytes start) (sym hh ∙ i)) f }

  module _ {k : Bool} (i : h ≡ true) (hk : k ≡ filled_as (look solid bytes q)) where
    pub face-apex-filled : {r : Refused} → k ≡ true → r ≡ refusal_of 6 q 0 2 → StartFaced solid bytes p q (IsRefused r)
    face-apex-filled j f = record { is = λ s ls. Looks.apex-filled {c = probe_at solid bytes q s ls} refl (is-filled _ (sym hh ∙ i)) refl (is-filled _ (sym hk ∙ j)) f }

    pub face-both : k ≡ false → StartFaced solid bytes p q (Clear 2)
    face-both j = record { is = λ s ls. Looks.apex-empty {c = probe_at solid bytes q s ls} refl (is-filled _ (sym hh ∙ i)) refl (is-empty _ (inside-there bytes apex) (sym hk ∙ j)) }

pub ruleset facing-start = (face-start-empty, face-apex-filled, face-both)

-- ---- before them the box
module _ {solid : Solid} {bytes : List ℕ} {p q : Vector} {a : Bool} (ha : a ≡ in_box (box solid) p) where
  pub clear-start-outside : {r : Refused} → a ≡ false → r ≡ refusal_of 4 p 0 0 → StartCleared solid bytes p q (IsRefused r)
  clear-start-outside e f = record { is = λ s ls x. rw f (then-no _ (start-outside-box (probe_at solid bytes q s ls) p (inside_is solid bytes refl ha e))); place = tt }

  module _ {b : Bool} (e : a ≡ true) (hb : b ≡ in_box (box solid) q) where
    pub clear-apex-outside : {r : Refused} → b ≡ false → r ≡ refusal_of 4 q 0 0 → StartCleared solid bytes p q (IsRefused r)
    clear-apex-outside g f = record { is = λ s ls x. rw f (then-no _ (apex-outside-box (probe_at solid bytes q s ls) p (inside_is solid bytes refl ha e) (inside_is solid bytes refl hb g))); place = tt }

    pub clear-faced : {r : Cleared} → b ≡ true → StartFaced solid bytes p q r → StartCleared solid bytes p q r
    clear-faced {r} g h = record { is = λ s ls x. then-yes _ (both-inside (probe_at solid bytes q s ls) p (inside_is solid bytes refl ha e) (inside_is solid bytes refl hb g)) (next (probe_at solid bytes q s ls) r (h.is s ls).gives x); place = there r (h.is p []).few }
      where
        next : (c : Probe) (r : Cleared) → Gives 0 (facing c p) (cleared_tally r) → (x : Asked Stop (ℕ × Bound)) → Gives 0 (facing c p >> x) (cleared x (cleared_tally r))
        next c (Clear n) h x = then-yes _ h (record { is = refl })
        next c (IsRefused r) h x = then-no _ h

        there : (r : Cleared) → cleared_looks r ≤ 2 → ClearAt solid p r
        there (Clear n) l = (record { is = sym ha ∙ e }, l)
        there (IsRefused r) l = tt

pub ruleset clearing = (clear-start-outside, clear-apex-outside, clear-faced)
