-- A scene's lines: the question along them may be asked, both ways, and they have the unit vector, laid in, and minus it.
use Rattle.std.specs.Prelude.{◌≡◌, refl, List, ℕ, ◌*◌, ℤ, neg_ℤ}
use Rattle.std.proofs.Common.{sym, ap, subst, ◌∙◌, inl, inr, lit≤}
use Rattle.integers.specs.Sizes.{Within, within-is, within_wider, within-product}
use Rattle.rules.specs.Vectors.{minus, scale, dot, lay}
use Rattle.rules.specs.declared.Axis.{Axis}
use Rattle.rules.specs.Walk.{unit}
use Rattle.laws.specs.Bounds.{Bounded}
use Rattle.laws.specs.Frames.{IsSign}
use Rattle.laws.specs.Parts.{part, part_of, dot-minus}
use Rattle.axis.specs.Along.{unit-bounded, laid-along, turned-along, laid-back, dot-along}
use Rattle.solid.specs.declared.Grid.{Grid}
use Rattle.solid.specs.Grid.{ranks_of, side_at}
use Rattle.solid.specs.Ranks.{rank-within}
use Rattle.falls.specs.declared.Scene.{Scene}
use Rattle.falls.specs.Scene.{Ready}
use Rattle.falls.specs.Sizes.{scene-rank, sign-bounded}
use Rattle.along.specs.declared.Line.{Line}
use Rattle.along.specs.Lines.{line, line_of, turned_line, way_along, Along, LineOf, LineIn}

pub line-is : {k : Axis} {a b : ℕ} {x y s t r u : ℤ} → a ≡ b → x ≡ y → s ≡ t → r ≡ u → line k a x s r ≡ line k b y t u
line-is {k} e f g h = λ j. line k (e j) (f j) (g j) (h j)

sign-turned : (z : ℤ) → IsSign z → IsSign (neg_ℤ z)
sign-turned z (inl e) = inr (ap neg_ℤ e)
sign-turned z (inr e) = inl (ap neg_ℤ e)

module _ {v : Scene} where
  line-of-along : {bytes : List ℕ} (k : Axis) → Ready v bytes → Along v (line_of v k)
  line-of-along k h =
      record {
        side = ap (λ (g : Grid). side_at g k) h.gridded;
        from = refl;
        sign = part_of h.signed k;
        rise = scene-rank (scale (part k v.signs) (unit k)) h (dot-along v.grid.ranks k (part k v.signs));
      }

  module _ {l : Line} where
    -- sizes
    pub step-within : Along v l → Within 1 l.step
    step-within a = sign-bounded l.step a.sign

    pub way-bounded : Along v l → Bounded 2046 (way_along l)
    unfolding scale
    way-bounded a =
        let u = unit-bounded l.axis in
        let s = step-within a in
        record { in-x = within_wider (within-product s u.in-x) (lit≤ tt); in-y = within_wider (within-product s u.in-y) (lit≤ tt); in-z = within_wider (within-product s u.in-z) (lit≤ tt) }

    pub rise-within : {bytes : List ℕ} → Ready v bytes → Along v l → Within (67536 * 2046) l.rise
    rise-within h a = within-is a.rise (rank-within v.solid h.permitted (way-bounded a))

    pub line-fits : {bytes : List ℕ} → Ready v bytes → Along v l → Within 1000000000 l.step × Within 1000000000 l.rise
    line-fits h a = (within_wider (step-within a) (lit≤ tt), within_wider (rise-within h a) (lit≤ tt))

    pub line-along : {bytes : List ℕ} → Ready v bytes → LineIn v l → Along v l
    line-along h i = subst (Along v) (sym i.is) (line-of-along l.axis h)

    pub turned-line : Along v l → Along v (turned_line l)
    turned-line a =
        let u = unit l.axis in
        record {
          side = a.side;
          from = a.from;
          sign = sign-turned l.step a.sign;
          rise = ap neg_ℤ a.rise ∙ sym (dot-minus (ranks_of v.solid) (scale l.step u)) ∙ ap (dot (ranks_of v.solid)) (sym (turned-along u l.step));
        }

    pub line-axis : {k : Axis} → LineOf v k l → l.axis ≡ k
    line-axis e = ap (λ (m : Line). m.axis) e.is

    pub line-in : {k : Axis} → LineOf v k l → LineIn v l
    line-in e = record { is = e.is ∙ ap (line_of v) (sym (line-axis e)) }

    stepped : LineIn v l → l.step ≡ part l.axis v.signs
    stepped i = ap (λ (m : Line). m.step) i.is

    -- a line's vector is the unit vector laid in, its opposite's is minus it
    pub way-laid : LineIn v l → way_along l ≡ lay v.signs (unit l.axis)
    way-laid i = ap (λ (z : ℤ). scale z (unit l.axis)) (stepped i) ∙ laid-along v.signs l.axis

    pub way_back : LineIn v l → way_along (turned_line l) ≡ lay v.signs (minus (unit l.axis))
    way_back i = ap (λ (z : ℤ). scale (neg_ℤ z) (unit l.axis)) (stepped i) ∙ laid-back v.signs l.axis
