-- The corners, one by one: a filled one goes on to the next, one that isn't is refusal 11, and after a refusal none is asked.
use Rattle.std.specs.Prelude.{◌≡◌, refl, List, [], ◌∷◌, ℕ, zero, suc, ◌+◌, ◌≤◌, ◌<◌, Ok as Clear, Err as IsRefused, slice_index_or}
use Rattle.std.proofs.Common.{sym, ap, ◌∙◌, arith}
use Rattle.std.proofs.Math.ListN.{drop, drop_of_length-le}
use Rattle.rules.specs.declared.Vector.{Vector}
use Rattle.rules.specs.declared.Look.{Look}
use Rattle.rules.specs.declared.Look.TheVariants.{Filled, Empty, Outside}
use Rattle.rules.specs.declared.Refused.{Refused}
use Rattle.rules.specs.declared.Axis.{Axis}
use Rattle.rules.specs.declared.Axis.TheVariants.{Axis0 as axis0, Axis1 as axis1, Axis2 as axis2}
use Rattle.rules.specs.Vectors.{◌⊕◌, minus, lay}
use Rattle.rules.specs.Walk.{stop, all_axes, unit, Probe, corner, corners_filled}
use Rattle.laws.specs.Tally.{tally, then-yes, then-no, asked-yes, asked-no, ensured, not-ensured, at_once, filled-there, empty-there, outside-there}
use Rattle.refusals.specs.Refusals.{refusal_of}
use Rattle.facing.specs.Facing.{Cleared, cleared_looks, rest, CornerAt, CornerAsked, CornersAsked}

-- ---- where it is
pub is-corner : {q s e m u p : Vector} → m ≡ minus e → u ≡ lay s m → p ≡ q ⊕ u → CornerAt q s e p
is-corner m a i = record { is = rw (← m, ← a) i }

-- ---- one corner, after n looks
seen-there : (c : Probe) {e place : Vector} {a k : Look} → CornerAt c.apex c.signs e place → a ≡ c.look place → a ≡ k → c.look (corner c e) ≡ k
seen-there c at h j = ap c.look (sym at.is) ∙ sym h ∙ j

module _ {c : Probe} {e place : Vector} {n : ℕ} {a : Look} (at : CornerAt c.apex c.signs e place) (h : a ≡ c.look place) where
  pub corner-outside : {r : Refused} → a ≡ Outside → r ≡ refusal_of 8 place 0 n → CornerAsked c e n (IsRefused r)
  unfolding corners_filled
  corner-outside j f = record { is = λ es. rw (f, at.is) (then-no _ (asked-no 0 (outside-there c.look n (corner c e) (seen-there c at h j)))).is; few = omega (arith, ap (λ (r : Refused). r.looks) f) }

  pub corner-empty : {r : Refused} → a ≡ Empty → r ≡ refusal_of 11 place 0 (n + 1) → CornerAsked c e n (IsRefused r)
  unfolding corners_filled
  corner-empty j f = record { is = λ es. rw (f, at.is) (then-yes _ (asked-yes 0 (empty-there c.look n (corner c e) (seen-there c at h j))) (then-no _ (not-ensured refl))).is; few = omega (arith, ap (λ (r : Refused). r.looks) f) }

  pub corner-filled : a ≡ Filled → CornerAsked c e n (Clear (n + 1))
  unfolding corners_filled
  corner-filled j = record { is = λ es. (then-yes _ (asked-yes 0 (filled-there c.look n (corner c e) (seen-there c at h j))) (then-yes _ (ensured (stop 11 (corner c e) 0) refl) (record { is = refl }))).is; few = omega arith }

pub ruleset asking-corner = (corner-outside, corner-empty, corner-filled)

-- ---- all three
abbrev corners : List Vector
corners = unit axis0 ∷ unit axis1 ∷ unit axis2 ∷ []

corners-from : (k : Axis) (i : ℕ) → i < 3 → drop i corners ≡ unit (slice_index_or all_axes i k) ∷ drop (i + 1) corners
corners-from k zero l = refl
corners-from k (suc zero) l = refl
corners-from k (suc (suc zero)) l = refl
corners-from k (suc (suc (suc i))) l = absurd (omega (arith, l))

-- before the corner of the number i, after n looks: the corners from here on give what all give
pub record Asking (c : Probe) (looks i n : ℕ) : Type 0 where
  pub few : n ≤ looks + i
  pub rest : tally n (corners_filled c (drop i corners)) ≡ tally looks (corners_filled c corners)

module _ {c : Probe} {looks : ℕ} where
  pub asking-begins : Asking c looks 0 looks
  asking-begins = record { few = omega arith; rest = refl }

  module _ {i n : ℕ} (h : Asking c looks i n) where
    pub asking-ends : 3 ≤ i → i ≤ 3 → CornersAsked c looks (Clear n)
    unfolding corners_filled
    asking-ends l m = record { gives = record { is = at_once.is ∙ ap (λ (es : List Vector). tally n (corners_filled c es)) (sym (drop_of_length-le corners l)) ∙ h.rest }; few = omega (arith, h.few, m) }

    module _ (k : Axis) {e : Vector} (l : i < 3) (u : e ≡ unit (slice_index_or all_axes i k)) {r : Cleared} (g : CornerAsked c e n r) where
      onward : rest c (drop (i + 1) corners) r ≡ tally looks (corners_filled c corners)
      onward = g.is (drop (i + 1) corners) ∙ ap (λ (e : Vector). tally n (corners_filled c (e ∷ drop (i + 1) corners))) u ∙ ap (λ (es : List Vector). tally n (corners_filled c es)) (sym (corners-from k i l)) ∙ h.rest

      pub asking-stops : {s : Refused} → r ≡ IsRefused s → CornersAsked c looks (IsRefused s)
      asking-stops j = record { gives = record { is = rw j at onward }; few = omega (arith, h.few, g.few, l, ap cleared_looks j) }

      pub asking-more : {k : ℕ} → r ≡ Clear k → Asking c looks (i + 1) k
      asking-more j = record { few = omega (arith, h.few, g.few, ap cleared_looks j); rest = rw j at onward }

pub ruleset asking = (asking-begins, asking-ends, asking-stops, asking-more)
