-- The falls question: what its answer tells, and what holds before each look.
use Rattle.std.specs.Prelude.{◌≡◌, Bool, true, false, ℕ, ◌+◌, ◌≤◌, ◌<◌, ℤ, pos}
use Rattle.rules.specs.declared.Vector.{Vector}
use Rattle.rules.specs.declared.Look.{Look}
use Rattle.rules.specs.Vectors.{◌⊕◌, scale, dot}
use Rattle.rules.specs.Walk.{powers_from, powers, falls_at, Probe, falls}
use Rattle.laws.specs.Bounds.{Bounded}
use Rattle.laws.specs.Tally.{Tally, yes, no, Gives, most_looks}
use Rattle.falls.specs.declared.Falls.{Falls}
use Rattle.falls.specs.declared.Falls.TheVariants.{Fell, Kept, Stopped}

abbrev pub falls_tally : Falls → Tally Vector Bool
falls_tally (Fell n) = yes true n
falls_tally (Kept n) = yes false n
falls_tally (Stopped o) = no o.place o.looks

abbrev pub falls_looks : Falls → ℕ
falls_looks (Fell n) = n
falls_looks (Kept n) = n
falls_looks (Stopped o) = o.looks

pub record Fallen (c : Probe) (u : Vector) (looks : ℕ) (r : Falls) : Type 0 where
  pub gives : Gives looks (falls c u) (falls_tally r)
  pub few : falls_looks r ≤ looks + most_looks 1

-- before the look at power l, after n looks: what is left of the powers gives what all of them give. r has the ranks
pub record Falling (look : Vector → Look) (r q u : Vector) (span looks l n : ℕ) (at : Vector) (rank : ℤ) : Type 0 where
  pub along : at ≡ q ⊕ scale (pos l) u
  pub ranked : rank ≡ dot r at
  pub sized : Bounded 3069 at
  pub one : 1 ≤ l
  pub low : l < 512
  pub few : n < looks + l
  pub fuel : ℕ
  pub enough : span ≤ l + fuel
  pub rest : {t : Tally Vector Bool} → Gives n (falls_at look q u (powers_from fuel l span)) t → Gives looks (falls_at look q u (powers span)) t
