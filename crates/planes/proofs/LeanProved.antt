-- The known lean, proved: a pick that was accepted looked both ways from its apex along each side and each level axis, at the last power, and every voxel there was empty.
-- So at that power no way takes the apex below the plane, and the apex itself is above it by less than ν·s.
use Rattle.std.specs.Prelude.{◌≡◌, refl, true, false, ◌&&◌, [], ◌∷◌, ℕ, T, ℤ, pos, nat_abs, neg_ℤ, ◌+ℤ◌, ◌*ℤ◌, ◌≤ℤ◌, ◌<ℤ◌}
use Rattle.std.proofs.Common.{sym, ◌∙◌, arith}
use Rattle.std.specs.Int.Signed.{lt_z_yes, lt_z_no}
use Rattle.std.proofs.Math.Facts.{yes_and}
use Rattle.integers.specs.Reify.{byring, sides}
use Rattle.integers.specs.Order.{parts, linear, atom, goal, fact}
use Rattle.rules.specs.declared.Vector.{Vector}
use Rattle.rules.specs.declared.Wedge.{Wedge}
use Rattle.rules.specs.declared.Look.{Look}
use Rattle.rules.specs.declared.Look.TheVariants.{Filled, Empty}
use Rattle.rules.specs.declared.Levels.{Levels}
use Rattle.rules.specs.declared.Triangle.{Triangle}
use Rattle.rules.specs.declared.Accepted.{Accepted as AcceptedPick}
use Rattle.std.specs.Prelude.{Ok as Accepted, Ok as Known}
use Rattle.rules.specs.Vectors.{◌⊕◌, minus, scale, dot, lay}
use Rattle.rules.specs.Solids.{between, filled_wedge, look}
use Rattle.rules.specs.Walk.{unit}
use Rattle.rules.specs.Lean.{levels_of, last_power, bound_at, measurable, lean_of}
use Rattle.rules.specs.declared.Way.{Way}
use Rattle.rules.specs.declared.Way.TheVariants.{Sideways as sideways, Along as along, Against as against}
use Rattle.rules.specs.Firm.{belongs, way_of, footing}
use Rattle.laws.specs.Tests.{Each, is_true}
use Rattle.laws.specs.Parts.{part, part-minus, vector-by-parts, dot-sum, dot-scale, dot-minus, scale-dot}
use Rattle.laws.specs.Frames.{signs-are, lay-minus}
use Rattle.laws.specs.Powers.{last-power}
use Rattle.laws.specs.Boxes.{look-as}
use Rattle.laws.proofs.Answers.{accepted-tells}
use Rattle.laws.proofs.Theorems.{level-both-ways, sides-both-ways}
use Rattle.slope.specs.Demands.{Inputs, signs_of, apex_of, pick_at, of_wedge}
use Rattle.slope.proofs.RowProved.{row_of}
use Rattle.planes.specs.Footings.{footing-by}
use Rattle.planes.specs.Turn.{WaysWithin}
use Rattle.planes.specs.Measured.{accepted-faced, accepted-face, accepted-measurable}
use Rattle.planes.specs.Upward.{leans-upward}
use Rattle.planes.specs.Below.{close_at, lean-at, below_at}
use Rattle.planes.specs.Lean.{OnPlane, last_of, height, Leans, slope_of, KnownLean}
use Rattle.planes.specs.Orders.{rest}

-- ---- of every accepted pick: what is known is the bound at the last power
known : (reach : ℤ) (a : AcceptedPick) → T (between (pos 1) reach (pos 256)) → T (measurable a) → lean_of (Accepted a) reach ≡ Known (bound_at (last_power (nat_abs reach)) a)
unfolding lean_of
known reach a h k = rw (is_true (between (pos 1) reach (pos 256) && measurable a) (yes_and (between (pos 1) reach (pos 256)) (measurable a) h k), lean_of)

minus_minus : (a : Vector) → minus (minus a) ≡ a
minus_minus a = vector-by-parts (λ k. simp part-minus (byring (part k a ∷ []) (search sides depth 40 fits 5000) tt))

opposed : (l z : ℤ) → l *ℤ neg_ℤ z ≡ neg_ℤ (l *ℤ z)
opposed l z = byring (l ∷ z ∷ []) (search sides depth 40 fits 5000) tt

module _ (ν : Vector) (t : ℤ) (i : Inputs) (o : OnPlane ν t i) (a : AcceptedPick) (is : pick_at i ≡ Accepted a) where
  abbrev look_of : Vector → Look
  look_of = look i.solid i.bytes

  abbrev s : Vector
  s = signs_of i

  abbrev q : Vector
  q = apex_of i

  abbrev L : ℕ
  L = last_of i

  abbrev v : Levels
  v = levels_of a.normal

  abbrev m : Triangle
  m = a.triangle

  abbrev e : ℤ
  e = height ν t i

  below : (u : Vector) → look_of u ≡ Filled → dot ν u <ℤ t
  below u k = let f = look-as i.solid i.bytes u true k in lt_z_yes (rw (sym (o.filled_below u f.0) ∙ f.1) tt)

  above : (u : Vector) → look_of u ≡ Empty → t ≤ℤ dot ν u
  above u k = let f = look-as i.solid i.bytes u false k in lt_z_no (rw (sym (o.filled_below u f.0) ∙ f.1) tt)

  not-below : pos 0 ≤ℤ e
  not-below = rest (above q (accepted-faced _ _ _ _ _ a is).apex_empty)

  low : e <ℤ dot ν s
  low =
      let x = atom (dot ν i.start) in let y = atom t in let z = atom (dot ν s) in let w = atom (dot ν q) in
      let f = fact (search linear) (dot-sum ν i.start s) in
      goal (search linear) (omega (arith, parts, below i.start (accepted-faced _ _ _ _ _ a is).start_filled))

  -- the voxel at L times minus u from the apex is empty
  opposite-empty : (u : Vector) → look_of (q ⊕ scale (pos L) (minus u)) ≡ Empty → (pos L *ℤ dot ν u) ≤ℤ e
  opposite-empty u k =
      let h : t ≤ℤ (dot ν q +ℤ neg_ℤ (pos L *ℤ dot ν u)) = rw (dot-sum ν q (scale (pos L) (minus u)), dot-scale ν (minus u) (pos L), dot-minus ν u, opposed (pos L) (dot ν u)) at (above _ k) in
      let x = atom (dot ν q) in let y = atom t in let z = atom (pos L *ℤ dot ν u) in
      goal (search linear) (omega (arith, parts, fact (search linear) h))

  held : (w : Way) → T (belongs v w) → (pos L *ℤ dot ν (way_of s m w)) ≤ℤ e
  held (sideways x) h = opposite-empty _ ((sides-both-ways _ _ _ _ _ a is x h).back L (last-power _)).empty
  held (along k) h = opposite-empty _ ((level-both-ways _ _ _ _ _ a is k h).back L (last-power _)).empty
  held (against k) h =
      opposite-empty _ (rw (lay-minus s (unit k), minus_minus (lay s (unit k))) ((level-both-ways _ _ _ _ _ a is k h).there L (last-power _)).empty)

  within : WaysWithin (scale (pos L) ν) e s v m
  within w h = rw (scale-dot ν (way_of s m w) (pos L)) (held w h)

  flat-here : Each (λ u. (pos L *ℤ dot ν u) ≤ℤ e) (footing s a)
  flat-here = footing-by (λ u. (pos L *ℤ dot ν u) ≤ℤ e) s a held

  leans : Leans ν t i a
  unfolding bound_at
  leans =
      let face = accepted-face _ _ _ _ _ a is in let faced = accepted-faced _ _ _ _ _ a is in let g = signs-are (nat_abs i.frame) in
      record {
        is_known = known i.reach a faced.passed.permitted_reach (accepted-measurable _ _ _ _ _ a is);
        below = below_at face g ν L e not-below low within;
        upward = leans-upward (accepted-tells _ _ _ _ _ a is).accepting g ν t below (above q faced.apex_empty);
        not_below = not-below;
        low = low;
        flat = flat-here;
        close = close_at face g ν L e not-below low within;
        lean = lean-at face g ν L e not-below low within;
      }

pub wedge-plane : (wedge : Wedge) (p : Vector) (frame reach : ℤ) → OnPlane (slope_of wedge) wedge.h (of_wedge wedge p frame reach)
unfolding filled_wedge
wedge-plane wedge p frame reach = record { filled_below = λ v _. refl }

pub known-lean : KnownLean
known-lean = record {
  one_pick = leans;
  one_row = λ ν t i o a h. leans ν t i o a (sym (row_of h));
  wedge_plane = wedge-plane;
  wedge_pick = λ wedge p frame reach a h. leans _ _ _ (wedge-plane wedge p frame reach) a (sym h.is);
  stack_pick = λ ν t stack bytes p frame reach o a h. leans ν t _ o a (sym h.is);
  told = λ ν t i o a h r k. let l = leans ν t i o a h in (bound_at (last_of i) a, k.is ∙ l.is_known, l.below);
}
