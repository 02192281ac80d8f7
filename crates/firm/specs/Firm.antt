-- A firm footing: what the start's refusals, the footing and its bound, and the whole question tell.
use Rattle.std.specs.Prelude.{Bool, true, false, List, [], ℕ, ◌≤◌, pos}
use Rattle.rules.specs.declared.Vector.{Vector}
use Rattle.rules.specs.declared.Solid.{Solid}
use Rattle.rules.specs.declared.Look.{Look}
use Rattle.rules.specs.declared.Look.TheVariants.{Filled, Empty, Outside}
use Rattle.rules.specs.declared.Accepted.{Accepted as AcceptedPick}
use Rattle.rules.specs.Answers.{Pick, Firm}
use Rattle.std.specs.Prelude.{Ok as Stands, Err as Refused, Ok as Clear, Err as IsRefused}
use Rattle.rules.specs.declared.Bound.{Bound}
use Rattle.rules.specs.declared.Footing.{Footing}
use Rattle.rules.specs.Solids.{look}
use Rattle.rules.specs.Asked.{Asked, answered, ◌>>=◌, ◌>>◌}
use Rattle.rules.specs.Walk.{Stop, signs, powers, Probe, facing}
use Rattle.rules.specs.Pick.{placing}
use Rattle.rules.specs.Lean.{bound_at}
use Rattle.rules.specs.Firm.{all_ways, footing, firm_from, start_under, firm_under, firm_on}
use Rattle.laws.specs.Tally.{Tally, yes, no, tally, Gives}
use Rattle.solid.specs.Asks.{InBoxOf}
use Rattle.refusals.specs.Refusals.{refusal_tally}
use Rattle.facing.specs.Facing.{Cleared, cleared_tally, FacingAsked}
use Rattle.footing.specs.declared.Ground.{Ground}
use Rattle.footing.specs.Footing.{looking, vectors_of}

abbrev pub footing_tally : Footing → Tally Stop (ℕ × Bound)
footing_tally f = yes (f.power, f.bound) f.looks

abbrev pub firm_tally : Firm → Tally Stop (ℕ × Bound)
firm_tally (Stands f) = footing_tally f
firm_tally (Refused r) = refusal_tally r

abbrev pub filled_as : Look → Bool
filled_as Filled = true
filled_as Empty = false
filled_as Outside = false

-- ---- the start p under the apex q
-- what the question x gives once the start is cleared
abbrev pub cleared : Asked Stop (ℕ × Bound) → Tally Stop (Unit {0}) → Tally Stop (ℕ × Bound)
cleared x (yes t n) = tally n x
cleared x (no s n) = no s n

-- where none is refused the start is in the box, after two looks
abbrev pub ClearAt : Solid → Vector → Cleared → Type 0
ClearAt solid p (Clear n) = InBoxOf solid p × (n ≤ 2)
ClearAt solid p (IsRefused r) = Unit {0}

module _ (solid : Solid) (bytes : List ℕ) where
  -- whatever the signs s and the powers are
  abbrev pub probe_at : Vector → Vector → List ℕ → Probe
  probe_at q s ls = record { look = look solid bytes; apex = q; signs = s; powers = ls }

  pub record StartFaced (p q : Vector) (r : Cleared) : Type 0 where
    pub is : (s : Vector) (ls : List ℕ) → FacingAsked (probe_at q s ls) p r

  pub record StartCleared (p q : Vector) (r : Cleared) : Type 0 where
    pub is : (s : Vector) (ls : List ℕ) (x : Asked Stop (ℕ × Bound)) → Gives 0 (placing (probe_at q s ls) p >> (facing (probe_at q s ls) p >> x)) (cleared x (cleared_tally r))
    pub place : ClearAt solid p r

-- ---- the footing
pub record StoodOn (g : Ground) (a : AcceptedPick) (reach looks : ℕ) (r : Footing) : Type 0 where
  pub gives : Gives looks (firm_from (looking g) g.start 0 (powers reach) (vectors_of g all_ways) >>= λ F. answered (F, bound_at F a) []) (footing_tally r)

module _ (solid : Solid) (bytes : List ℕ) where
  -- of an accepted answer, with the signs s: the last power from the start p, and the bound at it
  abbrev pub standing : AcceptedPick → Vector → Vector → ℕ → Asked Stop (ℕ × Bound)
  standing a s p reach = firm_from (look solid bytes) p 0 (powers reach) (footing s a) >>= λ F. answered (F, bound_at F a) []

  pub record FirmFrom (a : AcceptedPick) (s p : Vector) (reach : ℕ) (r : Firm) : Type 0 where
    pub gives : Gives 0 (placing (probe_at solid bytes a.apex s (powers reach)) p >> (facing (probe_at solid bytes a.apex s (powers reach)) p >> standing a s p reach)) (firm_tally r)

  pub record FirmUnder (a : AcceptedPick) (frame reach : ℕ) (r : Firm) : Type 0 where
    pub gives : Gives 0 (firm_under (look solid bytes) (pos frame) (pos reach) a (start_under a.apex (signs frame))) (firm_tally r)

  pub record FirmOf (pick : Pick) (frame reach : ℕ) (r : Firm) : Type 0 where
    pub gives : Gives 0 (firm_on (look solid bytes) (pos frame) (pos reach) pick) (firm_tally r)
