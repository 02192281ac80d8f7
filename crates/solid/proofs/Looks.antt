-- A look by a rank: inside the box, the voxel of that rank is the definition's.
use mathlib.Core.Path.{◌≡◌, sym, ap, ◌∙◌}
use mathlib.Core.Bool.{Bool, true, false}
use mathlib.Core.List.{List}
use Prim.Native.Nat.{ℕ}
use lib.Dec.{lit≤}
use lib.IntN.{ℤ}
use Rattle.rules.specs.declared.Vector.{Vector}
use Rattle.rules.specs.declared.Solid.{Solid}
use Rattle.rules.specs.declared.Look.{Look}
use Rattle.rules.specs.declared.Look.TheVariants.{Outside}
use Rattle.rules.specs.Vectors.{dot}
use Rattle.rules.specs.Solids.{box, in_box, seen_as, look}
use Rattle.laws.specs.Bounds.{Bounded, bounded-wider}
use Rattle.solid.specs.Asks.{PermittedSolid, InBoxOf}
use Rattle.solid.specs.Grid.{ranks_of, filled_at, RankHeld}
use Rattle.solid.specs.Facts.{inside-bounded}
use Rattle.solid.specs.Ranks.{rank-in-box, filled-by-rank}

module _ {s : Solid} {bytes : List ℕ} (p : Vector) {i : Bool} (ok : PermittedSolid s bytes) (h : i ≡ in_box (box s) p) where
  pub looked-outside : i ≡ false → Outside ≡ look s bytes p
  unfolding look
  looked-outside t = rw (sym h ∙ t)

  module _ (t : i ≡ true) where
    in-box : InBoxOf s p
    in-box = record { is = sym h ∙ t }

    pub rank-asks : Bounded 10000 p
    rank-asks = bounded-wider (inside-bounded ok in-box) (lit≤ tt)

    module _ {z : ℤ} (r : z ≡ dot (ranks_of s) p) where
      pub see-asks : RankHeld s bytes z
      see-asks = rw r (rank-in-box s ok in-box)

      pub looked-inside : {l : Look} → l ≡ seen_as true (filled_at s bytes z) → l ≡ look s bytes p
      unfolding look
      looked-inside f = f ∙ ap (seen_as true) (ap (filled_at s bytes) r ∙ filled-by-rank s ok in-box) ∙ sym (rw (sym h ∙ t))
