-- Slips that the promise shuts out, each at one input where it shows.
use Rattle.std.specs.Prelude.{◌≡◌, refl, [], ℕ, ℤ, pos, negsuc}
use Rattle.std.proofs.Common.{sym, ap, ◌∙◌, arith}
use Rattle.rules.specs.declared.Vector.{Vector}
use Rattle.rules.specs.declared.Wedge.{Wedge}
use Rattle.rules.specs.declared.Triangle.{Triangle}
use Rattle.rules.specs.declared.Solid.TheVariants.{Wedge as IsWedge}
use Rattle.rules.specs.Answers.{Pick}
use Rattle.std.specs.Prelude.{Ok as Accepted, Err as Refused}
use Rattle.rules.specs.Vectors.{vector, ◌⊕◌, ◌⊖◌, minus, scale, dot, cross, det, sphere, lay, size, origin}
use Rattle.rules.specs.Solids.{between, permitted_wedge, filled_wedge, in_box, look}
use Rattle.rules.specs.Asked.{after, ◌>>=◌}
use Rattle.rules.specs.Walk.{ensure, sign, signs, seen, asked, powers_from, powers, units, all_level, keep, only, remaining, takes_part, levelled, normal, determinant, inside, any_inside, first_free, choice, look_at, falls_at, facing, is_level, axes, start, falling, round, walk, rounds, found, end}
use Rattle.laws.specs.Answers.{looks_of}
use Rattle.rules.specs.Pick.{is_inside, placing, judging, check, pick, answer, pick_of, WedgePromise}

abbrev pub normal_of : Pick → Vector
normal_of (Accepted a) = a.normal
normal_of (Refused r) = origin

abbrev pub triangle_of : Pick → Triangle
triangle_of (Accepted a) = a.triangle
triangle_of (Refused r) = units

abbrev wedge : ℤ → ℤ → ℤ → ℤ → Wedge
wedge a b c h = record { a = a; b = b; c = c; h = h }

abbrev spot : Vector
spot = vector (pos 100) (pos 100) (pos 100)

-- W8, in a frame with one minus sign
abbrev w8 : Wedge
w8 = wedge (negsuc 0) (pos 2) (pos 5) (pos 608)

-- 5 2 1 808 100 100 100 0 8
abbrev turned : Wedge
turned = wedge (pos 5) (pos 2) (pos 1) (pos 808)

-- W4
abbrev w4 : Wedge
w4 = wedge (pos 1) (pos 1) (pos 1) (pos 303)

-- 0 -1 2 101 100 100 100 0 8: axis 0 is level, and axis 1's opposite falls
abbrev opposing : Wedge
opposing = wedge (pos 0) (negsuc 0) (pos 2) (pos 101)

evaluated :
    (normal_of (pick_of (IsWedge w8) [] spot (pos 1) (pos 8)) ≡ vector (negsuc 0) (pos 2) (pos 5))
    × (normal (triangle_of (pick_of (IsWedge w8) [] spot (pos 1) (pos 8))) ≡ vector (pos 1) (negsuc 1) (negsuc 4))
    × (looks_of (pick_of (IsWedge turned) [] spot (pos 0) (pos 8)) ≡ 95)
    × (looks_of (pick_of (IsWedge w4) [] spot (pos 0) (pos 3)) ≡ 23)
    × (looks_of (pick_of (IsWedge opposing) [] spot (pos 0) (pos 8)) ≡ 15)
unfolding ◌⊕◌ ◌⊖◌ minus scale dot cross det sphere lay size between permitted_wedge filled_wedge in_box look after ◌>>=◌ ensure sign signs seen asked powers_from powers all_level keep only remaining takes_part levelled normal determinant inside any_inside first_free choice look_at falls_at facing is_level axes start falling round walk rounds found end is_inside placing judging check pick answer pick_of
evaluated = (refl, refl, refl, refl, refl)

-- the normal is not the sum of the cross products of the laid-in vectors: that one points inward
pub not-of-laid-in-vectors : {r : Pick} → WedgePromise w8 spot (pos 1) (pos 8) r → normal_of r ≡ normal (triangle_of r) → ⊥
not-of-laid-in-vectors h e =
    let x = ap (λ (v : Vector). v.x) (sym evaluated.0 ∙ sym (ap normal_of h.is) ∙ e ∙ ap (λ (p : Pick). normal (triangle_of p)) h.is ∙ evaluated.1) in
    let z : ◌≡◌ {A = ℕ} 0 1 = cc in
    omega arith

-- all pairs are asked, even after an opposite has fallen
pub all-pairs-asked : {r : Pick} → WedgePromise turned spot (pos 0) (pos 8) r → looks_of r ≡ 95
all-pairs-asked h = ap looks_of h.is ∙ evaluated.2

-- an opposite is asked only if minus the unit vector does not fall: nine looks more otherwise
pub opposite-if-kept : {r : Pick} → WedgePromise w4 spot (pos 0) (pos 3) r → looks_of r ≡ 23
opposite-if-kept h = ap looks_of h.is ∙ evaluated.3

-- and before the next axis: one look more if minus every unit vector were asked first
pub opposite-at-once : {r : Pick} → WedgePromise opposing spot (pos 0) (pos 8) r → looks_of r ≡ 15
opposite-at-once h = ap looks_of h.is ∙ evaluated.4
