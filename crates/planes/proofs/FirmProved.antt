-- The firm footing, proved. The start and the voxels at F times the ways from it are below the plane and the apex, which is s further, is not: so F times each way is less than ν·s, both ways,
-- and the bound is that of `Below`. On a slope of demand 3 the ways lie in the plane, so with the start every voxel of them in the box is filled.
use Rattle.std.proofs.Math.Path.{◌≡◌, ap, subst}
use Rattle.std.specs.Prelude.{refl, ◌⊎◌, Bool, true, false, not, ◌&&◌, T, ℤ, pos, negsuc, nat_abs, ◌+ℤ◌, ◌-ℤ◌, ◌*ℤ◌, ◌≤ℤ◌, ◌<ℤ◌}
use Rattle.std.proofs.Common.{sym, ◌∙◌, inl, inr, arith}
use Rattle.std.proofs.lemmas.Bool.{false≢true}
use mathlib.Core.List.{List, [], ◌∷◌}
use Prim.Native.Nat.{ℕ, ◌+◌, ◌*◌, ◌≤◌}
use Rattle.std.proofs.Math.Nat as NatL
use Rattle.std.proofs.Math.ListN.{length}
use Rattle.std.specs.Int.Signed.{lt_z, lt_z_yes, lt_z_no}
use Rattle.std.proofs.Math.Facts.{and_yes}
use Rattle.integers.specs.Reify.{byring, sides}
use Rattle.integers.specs.Order.{parts, linear, atom, goal, fact}
use Rattle.rules.specs.declared.Vector.{Vector}
use Rattle.rules.specs.declared.Solid.{Solid}
use Rattle.rules.specs.declared.Look.{Look}
use Rattle.rules.specs.declared.Look.TheVariants.{Filled}
use Rattle.rules.specs.declared.Levels.{Levels}
use Rattle.rules.specs.declared.Accepted.{Accepted as AcceptedPick}
use Rattle.rules.specs.declared.Refused.{Refused as RefusedPick}
use Rattle.rules.specs.declared.Bound.{Bound}
use Rattle.rules.specs.declared.Footing.{Footing}
use Rattle.rules.specs.Answers.{Pick}
use Rattle.std.specs.Prelude.{Ok as Accepted, Ok as Stands, Err as FirmRefused}
use Rattle.rules.specs.Vectors.{◌⊕◌, scale, dot}
use Rattle.rules.specs.Solids.{box, in_box, permitted, look}
use Rattle.rules.specs.Asked.{Asked, answered, refused}
use Rattle.rules.specs.Walk.{Stop, signs, powers, first, all_level, Probe, Found, found}
use Rattle.rules.specs.Pick.{is_inside, refused_answer}
use Rattle.rules.specs.Lean.{levels_of, last, bound_at}
use Rattle.rules.specs.declared.Way.{Way}
use Rattle.rules.specs.Firm.{belongs, way_of, footing, held, start_under, firm, firm_answer, firm_of}
use Rattle.laws.specs.Tests.{Each, In, is_true, less, not-less}
use Rattle.laws.specs.Only.{each_of}
use Rattle.laws.specs.Parts.{part, part-sum, part-scale, vector-by-parts, vector-eq, dot-sum, dot-scale, scale-dot}
use Rattle.laws.specs.Frames.{Signs, signs-are}
use Rattle.range.specs.Ranges.{between-naturals}
use Rattle.laws.specs.Powers.{few-powers, last-power-high, powers-to-last}
use Rattle.laws.specs.Says.{Says, Few, says-answered}
use Rattle.laws.specs.Ranges.{Between, InCube}
use Rattle.laws.specs.Boxes.{look-as, solid-cube}
use Rattle.laws.specs.Rounds.{WalkFound}
use Rattle.laws.specs.Picks.{Accepting}
use Rattle.laws.specs.Answers.{found_of}
use Rattle.laws.proofs.Answers.{accepted-tells}
use Rattle.laws.proofs.Handed.{walk-accepted}
use Rattle.slope.specs.Demands.{Inputs, signs_of, apex_of, probe_at, powers_of, pick_at, OnSlope, Demanded}
use Rattle.slope.proofs.Proved.{demand-3}
use Rattle.planes.specs.Footings.{footing-by, footing-of}
use Rattle.planes.specs.Turn.{WaysWithin}
use Rattle.planes.specs.Faces.{found-face}
use Rattle.planes.specs.Measured.{accepted-faced, accepted-face, accepted-measurable, not-all-level}
use Rattle.planes.specs.Standing.{FirmRefusal, last-is, firm-says, firm-stands, firm-full}
use Rattle.planes.specs.Heights.{found-upward}
use Rattle.planes.specs.Rooms.{in-plane, between-box, look-filled}
use Rattle.planes.specs.Upward.{leans-upward}
use Rattle.planes.specs.Below.{lean-at, below_at}
use Rattle.planes.specs.Lean.{LeansBelow, last_of}
use Rattle.planes.specs.Firm.{firm_at, Touches, LeansFirmly, Stood, Room, Plane, below_all, ConvexPart, Touched, firm_looks, FirmFooting}

-- ---- any plane that was touched so, of any accepted answer
module _ {c : Probe} {R : ℕ} {v : Levels} (a : AcceptedPick) (walked : WalkFound c R v (found_of a)) (g : Signs c.signs) (some : T (not (all_level v)))
    (ν : Vector) (t : ℤ) (p q : Vector) (F : ℕ) (apex : p ⊕ c.signs ≡ q) (h : Touches ν t p q F (footing c.signs a)) where
  abbrev s : Vector
  s = c.signs

  abbrev e : ℤ
  e = dot ν c.signs -ℤ pos 1

  rise : dot ν q ≡ dot ν p +ℤ dot ν s
  rise = ap (dot ν) (sym apex) ∙ dot-sum ν p s

  up : pos 0 ≤ℤ e
  up =
      let x = atom (dot ν p) in let y = atom (dot ν s) in let z = atom (dot ν q) in let w = atom t in
      goal (search linear) (omega (arith, parts, fact (search linear) rise, h.start_below, h.apex_above))

  low : e <ℤ dot ν s
  low = let y = atom (dot ν s) in goal (search linear) (omega arith)

  within : WaysWithin (scale (pos F) ν) e s (levels_of a.normal) a.triangle
  within w k =
      let u = way_of s a.triangle w in
      let f : (dot ν p +ℤ pos F *ℤ dot ν u) <ℤ t = rw (dot-sum ν p (scale (pos F) u), dot-scale ν u (pos F)) at (footing-of (λ u. dot ν (p ⊕ scale (pos F) u) <ℤ t) s a h.ways_below w k) in
      let x = atom (dot ν p) in let y = atom (dot ν s) in let z = atom (dot ν q) in let v = atom t in let r = atom (pos F *ℤ dot ν u) in
      rw (scale-dot ν u (pos F)) (goal (search linear) (omega (arith, parts, fact (search linear) rise, fact (search linear) f, h.apex_above)))

  leans-firmly : LeansFirmly ν F a
  unfolding bound_at
  leans-firmly =
      let face = found-face walked g some in
      record {
        below = below_at face g ν F e up low within;
        lean = lean-at face g ν F e up low within;
        upward = found-upward walked g ν F e up low within some;
      }

-- ---- the start under the apex, in the box
held_small : (z : ℤ) → Between 1023 z → held z ≡ z
unfolding held
held_small (pos k) h = go (lt_z (pos 2147483647) (pos k)) (not-less (pos 2147483647) (pos k) (omega (arith, parts, h.high)))
  where
    go : (b : Bool) → b ≡ false → (elim b [ true ↦ pos 2147483647 | false ↦ pos k ]) ≡ pos k
    go true e = absurd (false≢true (sym e))
    go false e = refl
held_small (negsuc k) h = absurd h.low.le

back : (x s : ℤ) → x +ℤ s -ℤ s ≡ x
back x s = byring (x ∷ s ∷ []) (search sides depth 40 fits 5000) tt

start-again : (p s : Vector) → InCube 1023 p → start_under (p ⊕ s) s ≡ p
unfolding start_under ◌⊕◌
start-again p s h = vector-eq (ap held (back p.x s.x) ∙ held_small p.x h.of_x) (ap held (back p.y s.y) ∙ held_small p.y h.of_y) (ap held (back p.z s.z) ∙ held_small p.z h.of_z)

held_in : (z : ℤ) → Between 1023 (held z) → held z ≡ z
unfolding held
held_in z h = go (lt_z z (negsuc 2147483647)) (lt_z (pos 2147483647) z) h
  where
    go : (a b : Bool) → Between 1023 (elim a [ true ↦ negsuc 2147483647 | false ↦ elim b [ true ↦ pos 2147483647 | false ↦ z ] ]) → (elim a [ true ↦ negsuc 2147483647 | false ↦ elim b [ true ↦ pos 2147483647 | false ↦ z ] ]) ≡ z
    go true b k = absurd k.low.le
    go false true k = absurd (omega (arith, parts, k.high))
    go false false k = refl

forth : (x s : ℤ) → x -ℤ s +ℤ s ≡ x
forth x s = byring (x ∷ s ∷ []) (search sides depth 40 fits 5000) tt

under-apex : (q s : Vector) → InCube 1023 (start_under q s) → start_under q s ⊕ s ≡ q
unfolding start_under ◌⊕◌
under-apex q s h =
    vector-eq (ap (λ z. z +ℤ s.x) (held_in (q.x -ℤ s.x) h.of_x) ∙ forth q.x s.x) (ap (λ z. z +ℤ s.y) (held_in (q.y -ℤ s.y) h.of_y) ∙ forth q.y s.y) (ap (λ z. z +ℤ s.z) (held_in (q.z -ℤ s.z) h.of_z) ∙ forth q.z s.z)

-- ---- what an answer tells
filled-inside : (look : Vector → Look) {u : Vector} → look u ≡ Filled → T (is_inside (look u))
unfolding is_inside
filled-inside look e = rw e tt

footing-answer : (x : Asked Stop (ℕ × Bound)) {f : Footing} → firm_answer x ≡ Stands f → (t : List Vector) × (x ≡ answered (f.power, f.bound) t)
unfolding firm_answer
footing-answer (answered y t) {f} e = let is : record { power = y.0; looks = length t; bound = y.1 } ≡ f = cc in (t, ap (λ (f : Footing). answered (f.power, f.bound) t) is)
footing-answer (refused r t) e = absurd (let z : ◌≡◌ {A = ℕ} 0 1 = cc in omega arith)

told : (solid : Solid) (bytes : List ℕ) (a : AcceptedPick) (frame reach : ℤ) (f : Footing) → firm_of solid bytes (Accepted a) frame reach ≡ Stands f → Stood solid bytes a frame reach f
unfolding firm_of
told solid bytes a frame reach f is =
    let x = footing-answer (firm (permitted solid bytes) (look solid bytes) frame reach (Accepted a)) is in
    let h = (says-answered (firm-says (permitted solid bytes) (look solid bytes) frame reach (2 + 6 * length (powers (nat_abs reach))) (λ _. NatL.le_refl _) (Accepted a)) x.1).holds in
    let r = h.reached in
    record {
      under_apex = under-apex a.apex (signs (nat_abs frame)) (solid-cube solid bytes h.permitted_solid _ (filled-inside (look solid bytes) h.start_filled));
      start_filled = h.start_filled;
      apex_empty = h.apex_empty;
      done = r.done;
      left = r.left;
      split = r.split;
      filled_there = r.filled_there;
      stops = r.stops;
      power = r.power ∙ last-is (look solid bytes) (start_under a.apex (signs (nat_abs frame))) r.done;
      bound = h.is_bound;
    }

-- what holds at each of these holds at the last
last-each : (P : ℕ → Type 0) (ls : List ℕ) → Each P ls → 1 ≤ length ls → P (last ls)
unfolding last
last-each P [] h k = absurd (omega arith)
last-each P (l ∷ []) h k = h.0
last-each P (l ∷ j ∷ js) h k = last-each P (j ∷ js) h.1 (omega arith)

no_way : (p u : Vector) → p ⊕ scale (pos 0) u ≡ p
no_way p u = vector-by-parts (λ k. simp (part-sum, part-scale) (byring (part k p ∷ part k u ∷ []) (search sides depth 40 fits 5000) tt))

module _ (i : Inputs) (a : AcceptedPick) (is : pick_at i ≡ Accepted a) where
  abbrev accepting : Accepting (probe_at i) (nat_abs i.reach) (found_of a)
  accepting = (accepted-tells _ _ _ _ _ a is).accepting

  apex-is : a.apex ≡ apex_of i
  unfolding found
  apex-is = ap (λ (f : Found). f.apex) accepting.walked.is

  same_start : start_under a.apex (signs_of i) ≡ i.start
  same_start =
      let passed = (accepted-faced _ _ _ _ _ a is).passed in
      ap (λ q. start_under q (signs_of i)) apex-is ∙ start-again i.start (signs_of i) (solid-cube i.solid i.bytes passed.permitted_solid i.start passed.start_inside)

  stands_here : (f : Footing) × (firm_at i a ≡ Stands f)
  unfolding firm_of
  stands_here =
      let faced = accepted-faced _ _ _ _ _ a is in
      firm-stands (permitted i.solid i.bytes) (look i.solid i.bytes) i.frame i.reach a faced.passed.permitted_reach faced.passed.permitted_frame faced.passed.permitted_solid (accepted-measurable _ _ _ _ _ a is)
      (rw same_start faced.start_filled) (rw apex-is faced.apex_empty)

  one-pick : (ν : Vector) (t : ℤ) (F : ℕ) → Touches ν t i.start (apex_of i) F (footing (signs_of i) a) → LeansFirmly ν F a
  one-pick ν t F = leans-firmly a accepting.walked (signs-are (nat_abs i.frame)) accepting.asked.some ν t i.start (apex_of i) F refl

  -- ---- where every filled voxel is below a plane that the apex is not below
  module _ (ν : Vector) (t : ℤ) (below : (u : Vector) → look i.solid i.bytes u ≡ Filled → dot ν u <ℤ t) (above : t ≤ℤ dot ν (apex_of i)) (f : Footing) (firm-is : firm_at i a ≡ Stands f) where
    abbrev stood : Stood i.solid i.bytes a i.frame i.reach f
    stood = told _ _ a _ _ f firm-is

    -- at the power that was reached, or at none
    ways-below : Each (λ u. dot ν (i.start ⊕ scale (pos f.power) u) <ℤ t) (footing (signs_of i) a)
    unfolding last
    ways-below = go stood.done stood.filled_there stood.power
      where
        at_none : Each (λ u. dot ν (i.start ⊕ scale (pos 0) u) <ℤ t) (footing (signs_of i) a)
        at_none = footing-by (λ u. dot ν (i.start ⊕ scale (pos 0) u) <ℤ t) (signs_of i) a (λ w _. rw (no_way i.start (way_of (signs_of i) a.triangle w)) (below i.start (accepted-faced _ _ _ _ _ a is).start_filled))

        at_last : (ls : List ℕ) → Each (λ l. Each (λ u. look i.solid i.bytes (start_under a.apex (signs_of i) ⊕ scale (pos l) u) ≡ Filled) (footing (signs_of i) a)) ls → 1 ≤ length ls
            → Each (λ u. dot ν (i.start ⊕ scale (pos (last ls)) u) <ℤ t) (footing (signs_of i) a)
        at_last ls h k = each_of _ _ (footing (signs_of i) a) (λ u d. below _ (rw (← same_start) d)) (last-each _ ls h k)

        go : (ls : List ℕ) → Each (λ l. Each (λ u. look i.solid i.bytes (start_under a.apex (signs_of i) ⊕ scale (pos l) u) ≡ Filled) (footing (signs_of i) a)) ls → f.power ≡ last ls
            → Each (λ u. dot ν (i.start ⊕ scale (pos f.power) u) <ℤ t) (footing (signs_of i) a)
        go [] h e = rw e at_none
        go (l ∷ ls) h e = rw e (at_last (l ∷ ls) h (omega arith))

    covered : LeansBelow f.bound ν a.normal × (pos 0 <ℤ dot ν a.normal)
    covered =
        let touches : Touches ν t i.start (apex_of i) f.power (footing (signs_of i) a) = record { start_below = below i.start (accepted-faced _ _ _ _ _ a is).start_filled; ways_below = ways-below; apex_above = above } in
        (rw stood.bound (one-pick ν t f.power touches).below, leans-upward accepting (signs-are (nat_abs i.frame)) ν t below above)

-- ---- convex parts
all-below : (planes : List Plane) (v : Vector) → below_all planes v ≡ true → (plane : Plane) → In plane planes → dot plane.normal v <ℤ plane.offset
unfolding below_all
all-below [] v e plane i = absurd i
all-below (first ∷ planes) v e plane (inl p) = rw p (lt_z_yes (and_yes (lt_z (dot first.normal v) first.offset) (below_all planes v) (rw e tt)).0)
all-below (first ∷ planes) v e plane (inr i) = all-below planes v (is_true _ (and_yes (lt_z (dot first.normal v) first.offset) (below_all planes v) (rw e tt)).1) plane i

one-above : (planes : List Plane) (v : Vector) → below_all planes v ≡ false → (plane : Plane) × In plane planes × (plane.offset ≤ℤ dot plane.normal v)
unfolding below_all
one-above [] v e = absurd (false≢true (sym e))
one-above (first ∷ planes) v e = go (lt_z (dot first.normal v) first.offset) refl e (one-above planes v)
  where
    go : (b : Bool) → lt_z (dot first.normal v) first.offset ≡ b → (b && below_all planes v) ≡ false → (below_all planes v ≡ false → (plane : Plane) × In plane planes × (plane.offset ≤ℤ dot plane.normal v))
        → (plane : Plane) × In plane (first ∷ planes) × (plane.offset ≤ℤ dot plane.normal v)
    go true l d r = let k = r d in (k.0, inr k.1, k.2)
    go false l d r = (first, inl refl, lt_z_no (rw l tt))

convex : (planes : List Plane) (i : Inputs) → ConvexPart planes i → (a : AcceptedPick) → pick_at i ≡ Accepted a → (f : Footing) → firm_at i a ≡ Stands f
    → ((plane : Plane) × In plane planes × Touched i plane) × ((plane : Plane) → In plane planes → Touched i plane → LeansBelow f.bound plane.normal a.normal × (pos 0 <ℤ dot plane.normal a.normal))
convex planes i part a is f firm-is = (one-above planes (apex_of i) apex-out, λ plane k above. covered i a is plane.normal plane.offset (filled-below plane k) above f firm-is)
  where
    apex-out : below_all planes (apex_of i) ≡ false
    apex-out = let l = look-as i.solid i.bytes (apex_of i) false (accepted-faced _ _ _ _ _ a is).apex_empty in sym (part.filled_below (apex_of i) l.0) ∙ l.1

    filled-below : (plane : Plane) → In plane planes → (u : Vector) → look i.solid i.bytes u ≡ Filled → dot plane.normal u <ℤ plane.offset
    filled-below plane k u e = let l = look-as i.solid i.bytes u true e in all-below planes u (sym (part.filled_below u l.0) ∙ l.1) plane k

-- ---- on a slope
module _ (n : Vector) (t : ℤ) (i : Inputs) (o : OnSlope n t i) (a : AcceptedPick) (is : pick_at i ≡ Accepted a) (room : Room i a) where
  abbrev L : ℕ
  L = last_of i

  normal-is : a.normal ≡ n
  normal-is = (subst (Demanded n i) is (demand-3.one_pick n t i o)).is_normal

  start-low : T (in_box (box i.solid) i.start) × (dot n i.start <ℤ t)
  start-low = let l = look-as i.solid i.bytes i.start true o.touched.start_filled in (l.0, lt_z_yes (rw (sym (o.filled_below i.start l.0) ∙ l.1) tt))

  way-filled : (l : ℕ) → l ≤ L → (w : Way) → T (belongs (levels_of a.normal) w) → look i.solid i.bytes (i.start ⊕ scale (pos l) (way_of (signs_of i) a.triangle w)) ≡ Filled
  way-filled l few w k =
      let u = way_of (signs_of i) a.triangle w in
      let one : 1 ≤ L = omega (arith, last-power-high (nat_abs i.reach), (between-naturals 1 256 i.reach o.permitted.permitted_reach).0) in
      let inside = between-box (box i.solid) i.start u (pos l) (pos L) (omega (arith, parts)) (omega (arith, parts)) (omega (arith, parts)) start-low.0 (footing-of (λ u. T (in_box (box i.solid) (i.start ⊕ scale (pos L) u))) (signs_of i) a room.inside w k) in
      let flat : dot n u ≡ pos 0 = ap (λ (n : Vector). dot n u) (sym normal-is) ∙ in-plane (accepted-face _ _ _ _ _ a is) w k in
      let same : dot n (i.start ⊕ scale (pos l) u) ≡ dot n i.start = dot-sum n i.start (scale (pos l) u) ∙ ap (λ z. dot n i.start +ℤ z) (dot-scale n u (pos l) ∙ ap (λ z. pos l *ℤ z) flat) ∙ nothing (dot n i.start) (pos l) in
      look-filled i.solid i.bytes _ inside (o.filled_below _ inside ∙ less _ _ (subst (λ z. z <ℤ t) (sym same) start-low.1))
    where
      nothing : (x l : ℤ) → x +ℤ l *ℤ pos 0 ≡ x
      nothing x l = byring (x ∷ l ∷ []) (search sides depth 40 fits 5000) tt

  on-slope : firm_at i a ≡ Stands (record { power = last_of i; looks = 2 + powers_of i * length (footing (signs_of i) a); bound = bound_at (last_of i) a })
  unfolding firm_of
  on-slope =
      let start = same_start i a is in let faced = accepted-faced _ _ _ _ _ a is in
      firm-full (permitted i.solid i.bytes) (look i.solid i.bytes) i.frame i.reach a
      o.permitted.permitted_reach o.permitted.permitted_frame o.permitted.permitted_solid (accepted-measurable _ _ _ _ _ a is)
      (rw start faced.start_filled) (rw (apex-is i a is) faced.apex_empty)
      (each_of (λ l. l ≤ L) _ (powers (nat_abs i.reach))
      (λ l few. footing-by (λ u. look i.solid i.bytes (start_under a.apex (signs_of i) ⊕ scale (pos l) u) ≡ Filled) (signs_of i) a (λ w k. rw start (way-filled l few w k)))
      (powers-to-last (nat_abs i.reach)))

-- ---- looks and refusals, of every input
module _ (solid : Solid) (bytes : List ℕ) (pick : Pick) (frame reach : ℤ) where
  few-looks : (N : ℕ) → (nat_abs reach ≤ 256 → 2 + 6 * length (powers (nat_abs reach)) ≤ N) → firm_looks (firm_of solid bytes pick frame reach) ≤ N
  unfolding firm_of firm_answer
  few-looks N enough = go (firm (permitted solid bytes) (look solid bytes) frame reach pick) (firm-says (permitted solid bytes) (look solid bytes) frame reach N enough pick)
    where
      go : {Q : ℕ × Bound → Type 0} {P : Stop → Type 0} (x : Asked Stop (ℕ × Bound)) → Says (Few N Q) (Few N P) x → firm_looks (firm_answer x) ≤ N
      go (answered f t) h = h.of.few
      go (refused r t) h = h.of.few

  refused_as : (r : RefusedPick) → firm_of solid bytes pick frame reach ≡ FirmRefused r → (((1 ≤ r.number) × (r.number ≤ 6)) ⊎ (r.number ≡ 35)) × (r.steps ≡ 0)
  unfolding firm_of firm_answer
  refused_as r is =
      go (firm (permitted solid bytes) (look solid bytes) frame reach pick) (firm-says (permitted solid bytes) (look solid bytes) frame reach (2 + 6 * length (powers (nat_abs reach))) (λ _. NatL.le_refl _) pick) is
    where
      go : {Q : ℕ × Bound → List Vector → Type 0} {N : ℕ} (x : Asked Stop (ℕ × Bound)) → Says Q (Few N FirmRefusal) x → firm_answer x ≡ FirmRefused r → (((1 ≤ r.number) × (r.number ≤ 6)) ⊎ (r.number ≡ 35)) × (r.steps ≡ 0)
      go (answered f t) h e = absurd (let z : ◌≡◌ {A = ℕ} 0 1 = cc in omega arith)
      go (refused k t) h e = let is : refused_answer k (length t) ≡ r = cc in subst (λ (r : RefusedPick). (((1 ≤ r.number) × (r.number ≤ 6)) ⊎ (r.number ≡ 35)) × (r.steps ≡ 0)) is (h.of.holds.known, h.of.holds.no_step)

pub firm-footing : FirmFooting
firm-footing = record {
  one_pick = one-pick;
  one_walk = λ solid bytes d frame reach a is f k ν t h.
      leans-firmly a (walk-accepted solid bytes d frame reach a is).1 (signs-are (nat_abs frame)) (not-all-level solid bytes d frame reach a is) ν t _ a.apex f.power (told solid bytes a frame reach f k).under_apex h;
  told = told;
  same_start = same_start;
  stands = stands_here;
  convex = convex;
  on_slope = on-slope;
  few_looks = λ solid bytes pick frame reach. few-looks solid bytes pick frame reach _ (λ _. NatL.le_refl _);
  few_looks_of_all = λ solid bytes pick frame reach. few-looks solid bytes pick frame reach 56 (λ h. omega (arith, few-powers (nat_abs reach) h));
  refusals = refused_as;
}
