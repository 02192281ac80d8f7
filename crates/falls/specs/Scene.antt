-- What every question below a pick's entry is about, and may take for granted.
use Rattle.std.specs.Prelude.{◌≡◌, List, ℕ, ◌≤◌}
use Rattle.rules.specs.Vectors.{dot}
use Rattle.rules.specs.Walk.{Probe}
use Rattle.laws.specs.Frames.{Signs}
use Rattle.laws.specs.Boxes.{probe_on}
use Rattle.solid.specs.Asks.{PermittedSolid, InBoxOf}
use Rattle.solid.specs.Grid.{ranks_of, grid_of}
use Rattle.falls.specs.declared.Scene.{Scene}

-- a scene's probe, with the bytes lent
abbrev pub probe_of : Scene → List ℕ → Probe
probe_of v bytes = probe_on v.solid bytes v.apex v.signs v.span

pub record Ready (v : Scene) (bytes : List ℕ) : Type 0 where
  pub permitted : PermittedSolid v.solid bytes
  pub gridded : v.grid ≡ grid_of v.solid
  pub placed : InBoxOf v.solid v.apex
  pub ranked : v.here ≡ dot (ranks_of v.solid) v.apex
  pub signed : Signs v.signs
  pub span-high : v.span ≤ 256
  pub reach-high : v.reach ≤ 256
