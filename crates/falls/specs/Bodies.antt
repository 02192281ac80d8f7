-- A probe's body has the scene's solid and the bytes lent, so its looks and ranks are the scene's.
use Rattle.std.specs.Prelude.{◌≡◌, List, ℕ, ℤ}
use Rattle.std.proofs.Common.{sym, ap, ◌∙◌}
use Rattle.rules.specs.declared.Vector.{Vector}
use Rattle.rules.specs.declared.Solid.{Solid}
use Rattle.rules.specs.declared.Look.{Look}
use Rattle.rules.specs.Vectors.{dot}
use Rattle.rules.specs.Solids.{look}
use Rattle.solid.specs.Grid.{ranks_of}

module _ {s t : Solid} {bytes lent : List ℕ} (e : (t ≡ s) × (lent ≡ bytes)) (p : Vector) where
  pub same-look : {l : Look} → l ≡ look t lent p → l ≡ look s bytes p
  same-look h = h ∙ λ i. look (e.0 i) (e.1 i) p

  pub same-rank : {z : ℤ} → z ≡ dot (ranks_of s) p → z ≡ dot (ranks_of t) p
  same-rank h = h ∙ ap (λ (x : Solid). dot (ranks_of x) p) (sym e.0)
