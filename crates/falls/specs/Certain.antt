-- That a scene is ready is shown in one way alone, so a probe may keep it.
use Rattle.std.specs.Prelude.{◌≡◌, List, ℕ, ℤ, pos, negsuc}
use Rattle.std.proofs.Props.{props}
use Rattle.std.proofs.Common.{ap, inl, inr}
use Rattle.laws.specs.Frames.{IsSign}
use Rattle.falls.specs.declared.Scene.{Scene}
use Rattle.falls.specs.Scene.{Ready}

apart : {z : ℤ} → z ≡ pos 1 → z ≡ negsuc 0 → ⊥
apart p q = absurd (let e : pos 1 ≡ negsuc 0 = cc (p, q) in cc e)

same-one : (z a : ℤ) → IsProp (z ≡ a)
same-one z a = Prim.hlevel props

sign-once : (z : ℤ) → IsProp (IsSign z)
sign-once z (inl p) (inl q) = ap inl (same-one z (pos 1) p q)
sign-once z (inl p) (inr q) = absurd (apart p q)
sign-once z (inr p) (inl q) = absurd (apart q p)
sign-once z (inr p) (inr q) = ap inr (same-one z (negsuc 0) p q)

pub ready-once : (v : Scene) (bytes : List ℕ) → IsProp (Ready v bytes)
ready-once v bytes = Prim.hlevel (props, sign-once)
