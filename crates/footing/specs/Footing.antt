-- A footing: what one way, all ways and all powers tell.
use Rattle.std.specs.Prelude.{Bool, true, false, List, map, ℕ, ◌+◌, ◌≤◌, pos, Result, Ok as AllStand, Err as NotAll}
use Rattle.rules.specs.declared.Vector.{Vector}
use Rattle.rules.specs.declared.Look.{Look}
use Rattle.rules.specs.Vectors.{◌⊕◌, scale}
use Rattle.rules.specs.Solids.{look}
use Rattle.rules.specs.Asked.{Asked}
use Rattle.rules.specs.Walk.{Stop, only, powers}
use Rattle.rules.specs.declared.Way.{Way}
use Rattle.rules.specs.Firm.{all_ways, belongs, way_of, stands, all_stand, firm_from}
use Rattle.laws.specs.Tally.{Tally, yes, Gives}
use Rattle.footing.specs.declared.Ground.{Ground}
use Rattle.footing.specs.declared.Ended.{Ended}
use Rattle.footing.specs.declared.Footed.{Footed}

-- whether all stood, with the looks so far
abbrev pub Stood : Type 0
Stood = Result ℕ Ended

abbrev pub stood_tally : Stood → Tally Stop Bool
stood_tally (AllStand n) = yes true n
stood_tally (NotAll e) = yes false e.looks

abbrev pub stood_looks : Stood → ℕ
stood_looks (AllStand n) = n
stood_looks (NotAll e) = e.looks

-- the vectors of these ways, of those that belong to it
abbrev pub vectors_of : Ground → List Way → List Vector
vectors_of g ws = map (way_of g.signs g.triangle) (only (belongs g.level) ws)

module _ (g : Ground) where
  abbrev pub looking : Vector → Look
  looking = look g.body.solid g.body.bytes.now

  -- the look at p + l·u
  abbrev pub look_out : ℕ → Vector → Asked Stop Bool
  look_out l u = stands (looking (g.start ⊕ scale (pos l) u)) (g.start ⊕ scale (pos l) u)

  pub record Looked (way : Way) (power looks : ℕ) (r : Stood) : Type 0 where
    pub gives : Gives looks (look_out power (way_of g.signs g.triangle way)) (stood_tally r)
    pub few : stood_looks r ≤ looks + 1

  pub record AllLooked (power looks : ℕ) (r : Stood) : Type 0 where
    pub gives : Gives looks (all_stand looking g.start power (vectors_of g all_ways)) (stood_tally r)
    pub few : stood_looks r ≤ looks + 12

  pub record FirmTo (reach looks : ℕ) (r : Footed) : Type 0 where
    pub gives : Gives looks (firm_from looking g.start 0 (powers reach) (vectors_of g all_ways)) (yes r.power r.looks)
    pub low : r.power ≤ 511
