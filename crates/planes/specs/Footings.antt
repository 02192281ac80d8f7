-- What holds of each way of a footing, by the way.
use Rattle.std.specs.Prelude.{refl, List, [], ◌∷◌, map}
use Rattle.std.proofs.Common.{inl, inr}
use Rattle.std.proofs.Math.Dec.{T}
use Rattle.rules.specs.declared.Vector.{Vector}
use Rattle.rules.specs.declared.Pair.TheVariants.{P01, P02, P10, P12, P20, P21}
use Rattle.rules.specs.declared.Accepted.{Accepted as AcceptedPick}
use Rattle.rules.specs.declared.Axis.TheVariants.{Axis0 as axis0, Axis1 as axis1, Axis2 as axis2}
use Rattle.rules.specs.Walk.{only}
use Rattle.rules.specs.Lean.{levels_of}
use Rattle.rules.specs.declared.Way.{Way}
use Rattle.rules.specs.declared.Way.TheVariants.{Sideways as sideways, Along as along, Against as against}
use Rattle.rules.specs.Firm.{all_ways, belongs, way_of, footing}
use Rattle.laws.specs.Tests.{Each, In}
use Rattle.laws.specs.Only.{each_of, each_map, each_member, only-holds, in-only}

way_in : (w : Way) → In w all_ways
way_in (sideways P01) = inl refl
way_in (sideways P02) = inr (inl refl)
way_in (sideways P10) = inr (inr (inl refl))
way_in (sideways P12) = inr (inr (inr (inl refl)))
way_in (sideways P20) = inr (inr (inr (inr (inl refl))))
way_in (sideways P21) = inr (inr (inr (inr (inr (inl refl)))))
way_in (along axis0) = inr (inr (inr (inr (inr (inr (inl refl))))))
way_in (against axis0) = inr (inr (inr (inr (inr (inr (inr (inl refl)))))))
way_in (along axis1) = inr (inr (inr (inr (inr (inr (inr (inr (inl refl))))))))
way_in (against axis1) = inr (inr (inr (inr (inr (inr (inr (inr (inr (inl refl)))))))))
way_in (along axis2) = inr (inr (inr (inr (inr (inr (inr (inr (inr (inr (inl refl))))))))))
way_in (against axis2) = inr (inr (inr (inr (inr (inr (inr (inr (inr (inr (inr (inl refl)))))))))))

map_each : {A B : Type 0} (P : B → Type 0) (f : A → B) (xs : List A) → Each P (map f xs) → Each (λ x. P (f x)) xs
map_each P f [] h = tt
map_each P f (x ∷ xs) h = (h.0, map_each P f xs h.1)

module _ (P : Vector → Type 0) (s : Vector) (a : AcceptedPick) where
  abbrev those : List Way
  those = only (belongs (levels_of a.normal)) all_ways

  pub footing-by : ((w : Way) → T (belongs (levels_of a.normal) w) → P (way_of s a.triangle w)) → Each P (footing s a)
  unfolding footing
  footing-by h = each_map P (way_of s a.triangle) those (each_of (λ w. T (belongs (levels_of a.normal) w)) (λ w. P (way_of s a.triangle w)) those h (only-holds (belongs (levels_of a.normal)) all_ways))

  pub footing-of : Each P (footing s a) → (w : Way) → T (belongs (levels_of a.normal) w) → P (way_of s a.triangle w)
  unfolding footing
  footing-of h w t = each_member (λ w. P (way_of s a.triangle w)) w those (map_each P (way_of s a.triangle) those h) (in-only (belongs (levels_of a.normal)) w all_ways (way_in w) t)
