-- The quick touch on a plane's first empty level: a corner is filled exactly if n has a part along its axis, so all three are filled exactly if no axis is level; and the apex is
-- less than 1 above the plane, so power 1 alone answers whether n·u < 0. From there the touch is the ideal walk of n, as a pick is.
use Rattle.std.specs.Prelude.{◌≡◌, ◌⊎◌, true, false, ℕ, zero, suc, ◌+◌, ◌-◌, leb, ℤ, pos, negsuc, neg_ℤ, nat_abs, ◌+ℤ◌, ◌≤ℤ◌, ◌<ℤ◌}
use Rattle.std.proofs.Math.Path.{refl, ap}
use Rattle.std.proofs.Common.{sym, subst, ◌∙◌, arith, T_not, lit≤}
use Rattle.std.proofs.Math.Logic.{inl, inr}
use Rattle.std.proofs.lemmas.Bool.{false≢true}
use mathlib.Core.List.{List, [], ◌∷◌}
use Rattle.std.proofs.Math.Dec.{T}
use Rattle.std.proofs.Math.ListN.{length}
use Rattle.integers.specs.Order.{linear, atom, goal, fact}
use Rattle.rules.specs.declared.Vector.{Vector}
use Rattle.rules.specs.declared.Look.TheVariants.{Filled, Empty}
use Rattle.rules.specs.declared.Levels.{Levels}
use Rattle.rules.specs.declared.Triangle.{Triangle}
use Rattle.rules.specs.declared.Accepted.{Accepted as AcceptedPick}
use Rattle.rules.specs.declared.Refused.{Refused as RefusedPick}
use Rattle.rules.specs.Answers.{Pick, Touch, guess}
use Rattle.std.specs.Prelude.{Ok as Guess, Err as TouchRefused}
use Rattle.rules.specs.Vectors.{minus, dot, lay, size}
use Rattle.rules.specs.Solids.{permitted, look}
use Rattle.rules.specs.declared.Axis.{Axis}
use Rattle.rules.specs.declared.Axis.TheVariants.{Axis0 as axis0, Axis1 as axis1, Axis2 as axis2}
use Rattle.rules.specs.Walk.{Stop, stop, unit, units, pairs, level, none_level, only, remaining, takes_part, levelled, normal, Probe, Found, laid, corner, all_corners, rounds, found}
use Rattle.rules.specs.Pick.{is_inside}
use Rattle.rules.specs.Touch.{touch, touch_of}
use Rattle.rules.specs.Lean.{is_zero, levels_of}
use Rattle.laws.specs.Parts.{NonNegative, Positive, part, parts-by, dot-sum, dot-minus, dot-unit}
use Rattle.laws.specs.Levels.{is-zero, above_zero, levels-of, levels-eq}
use Rattle.laws.specs.Flat.{raised}
use Rattle.laws.proofs.Generators.{generators-in}
use Rattle.laws.specs.Frames.{Signs, signs-are, lay-lay, lay-dot, lay-part-high, same-frame}
use Rattle.laws.specs.Says.{Says, says-weaker, says_map}
use Rattle.laws.specs.Looks.{StoppedOf}
use Rattle.laws.specs.Next.{earlier, Reached}
use Rattle.laws.specs.Boxes.{outside-box}
use Rattle.laws.specs.PickRule.{Passed, PickRule, touch-by-rule}
use Rattle.laws.specs.Corners.{FirstEmpty, nth, corner-inside, corner-empty, corners-say}
use Rattle.laws.specs.Touches.{all_take, three-remain, NextTouch, next-touch}
use Rattle.laws.specs.Touched.{unmarked, marked-says}
use Rattle.laws.specs.Answers.{found_of, stop_of, AnswerSays}
use Rattle.laws.proofs.Theorems.{guess-looks}
use Rattle.slope.specs.Demands.{Inputs, signs_of, apex_of, probe_at, OnSlope, of_wedge}
use Rattle.slope.specs.Falls.{Near}
use Rattle.slope.specs.Ideal.{ideal-steps, ideal_of}
use Rattle.slope.proofs.Picks.{upward, level-is, below, above, end-normal, end_fits, rounds-ideal, good-inputs}
use Rattle.slope.specs.Wedges.{multiple-slope}
use Rattle.slope.proofs.Proved.{is_whole, products, generate, same_whole}
use Rattle.slope.specs.Touches.{touch_at, near_at, OnLevel, NoZero, TouchOutside, TouchLevel, TouchedAs, QuickTouch}

-- ---- numbers: t - z is below t, or not
lower : (t z : ℤ) → (t +ℤ neg_ℤ z) <ℤ t → pos 1 ≤ℤ z
lower t z h = let a = atom t in let b = atom z in goal (search linear) (omega (arith, fact (search linear) h))

not_lower : (t z : ℤ) → t ≤ℤ (t +ℤ neg_ℤ z) → pos 0 ≤ℤ z → z ≡ pos 0
not_lower t (pos zero) h k = refl
not_lower t (pos (suc n)) h k = absurd (let a = atom t in omega (arith, fact (search linear) h))
not_lower t (negsuc n) h k = absurd k.le

module _ (n : Vector) (t : ℤ) (i : Inputs) (o : OnLevel n t i) where
  abbrev on_slope : OnSlope n t i
  on_slope = o.on_slope

  abbrev d : Probe
  d = near_at i

  abbrev R : ℕ
  R = nat_abs i.reach

  abbrev v : Levels
  v = levels_of n

  abbrev N : Vector
  N = lay (signs_of i) n

  near : Near d n t 1
  near = record {
    below = below n t i on_slope;
    above = above n t i on_slope;
    low = let a = atom (dot n (apex_of i)) in let b = atom t in goal (search linear) (omega (arith, fact (search linear) o.first_level));
    high = let a = atom (dot n (apex_of i)) in let b = atom t in goal (search linear) (omega (arith, fact (search linear) o.first_level));
    reaches = inl (lit≤ tt);
  }

  -- ---- the corners
  corner-height : (k : Axis) → dot n (corner d (unit k)) ≡ t +ℤ neg_ℤ (part k N)
  corner-height k =
      dot-sum n d.apex (lay (signs_of i) (minus (unit k)))
      ∙ ap (λ z. z +ℤ dot n (lay (signs_of i) (minus (unit k)))) o.first_level
      ∙ ap (λ z. t +ℤ z) (sym (lay-dot (signs_of i) n (minus (unit k))) ∙ dot-minus N (unit k) ∙ ap neg_ℤ (dot-unit N k))

  filled-sloped : (k : Axis) → d.look (corner d (unit k)) ≡ Filled → level v k ≡ false
  filled-sloped k e = level-is n t i on_slope k ∙ above_zero (part k N) (lower t (part k N) (rw (corner-height k) at (below n t i on_slope _ e)))

  empty-level : (k : Axis) → d.look (corner d (unit k)) ≡ Empty → level v k ≡ true
  empty-level k e = level-is n t i on_slope k ∙ ap is_zero (not_lower t (part k N) (rw (corner-height k) at (above n t i on_slope _ e)) (upward n t i on_slope k))

  level-zero : (k : Axis) → level v k ≡ true → part k n ≡ pos 0
  level-zero k e = is-zero (part k n) (sym (levels-of n k) ∙ e)

  sloped-not : (k : Axis) → level v k ≡ false → part k n ≡ pos 0 → ⊥
  sloped-not k e z = false≢true (sym e ∙ levels-of n k ∙ ap is_zero z)

  -- ---- what is said of the touch
  -- 8, where no axis is level
  record EdgeOf (r : Stop) : Type 0 where
    none : none_level ≡ v
    is_eight : r.number ≡ 8
    next : NextTouch d r

  -- 11, at the lowest level axis
  record LevelOf (r : Stop) (l : List Vector) : Type 0 where
    axis : Axis
    is_level : level v axis ≡ true
    lowest : (j : Axis) → T (earlier j axis) → level v j ≡ false
    is : r ≡ stop 11 (corner d (unit axis)) 0
    looks : length l ≡ 2 + nth axis

  abbrev Stops : Stop → List Vector → Type 0
  Stops r l = EdgeOf r ⊎ LevelOf r l

  abbrev Finds : Found → List Vector → Type 0
  Finds f l = (none_level ≡ v) × (f ≡ found d v (ideal_of (signs_of i) n))

  abbrev Level : Levels → List Vector → Type 0
  Level a l = (a ≡ v) × (none_level ≡ v)

  abbrev Ended : Levels → Triangle × ℕ → List Vector → Type 0
  Ended a e l = (a ≡ v) × (none_level ≡ v) × (e ≡ ideal_of (signs_of i) n)

  -- the pairs that take part are all, where no axis is level
  all-pairs : none_level ≡ v → only (takes_part v) pairs ≡ pairs
  all-pairs e = ap (λ (a : Levels). only (takes_part a) pairs) (sym e) ∙ all_take

  edge_of : none_level ≡ v → (k : ℕ) (m : Triangle) (p : Vector) → Reached d (only (takes_part v) pairs) k m → StoppedOf d m (only (takes_part v) pairs) p → EdgeOf (stop 8 p k)
  edge_of e k m p h s =
      let all = all-pairs e in
      record { none = e; is_eight = refl; next = next-touch (probe_at i) k m p (subst (λ ps. Reached d ps k m) all h) (subst (λ ps. StoppedOf d m ps p) all s) }

  rounds-of : none_level ≡ v → Says (λ e l. e ≡ ideal_of (signs_of i) n) (λ r l. EdgeOf r) (rounds d R v)
  rounds-of e = says-weaker _ (λ a l h. h.holds) (λ r l h. h) (rounds-ideal n t i on_slope (1 ∷ []) 1 near (edge_of e))

  first-empty : (r : Stop) (l : List Vector) → FirstEmpty d (unit axis0 ∷ unit axis1 ∷ unit axis2 ∷ []) r (length l) → LevelOf r (i.start ∷ d.apex ∷ l)
  first-empty r l h =
      let z = corner-empty d (length l) h in
      record { axis = z.0.axis; is_level = empty-level z.0.axis z.0.empty; lowest = λ j e. filled-sloped j (z.0.lower j e); is = z.0.is; looks = omega (arith, z.1) }

  slope-touch : PickRule (permitted i.solid i.bytes) (look i.solid i.bytes) i.start i.frame i.reach (1 ∷ []) (all_corners d) Level Ended Finds Stops
  unfolding all_corners
  slope-touch = record {
    started = record {
      inputs = good-inputs n t i on_slope;
      begin_says = λ h.
          says_map _ (λ _. none_level)
          (says-weaker _ (λ _ l k. levels-are k.0) (λ r l k. inr (first-empty r l k)) (corners-say d (unit axis0 ∷ unit axis1 ∷ unit axis2 ∷ []) (inside h.passed axis0, (inside h.passed axis1, (inside h.passed axis2, tt)))))
          (λ _ l k. (k, k));
    };
    ended = λ _ a. record {
      rounds_say = λ l h. rw h.0 (says-weaker _ (λ e k j. (refl, h.1, j)) (λ r k j. inl j) (rounds-of h.1));
      ten = λ e l h z. absurd (T_not (leb (size (levelled a (normal e.0))) R) z (rw (h.0, h.2) (end_fits n t i on_slope)));
      ends = λ e l h z. (h.1, λ j. found d (h.0 j) (h.2 j));
    };
  }
    where
      inside : Passed (permitted i.solid i.bytes) (probe_at i) i.start i.frame i.reach → (k : Axis) → T (is_inside (d.look (corner d (unit k))))
      inside h = corner-inside i.solid i.bytes i.start (signs_of i) h.start_inside h.apex_inside

      levels-are : (d.look (corner d (unit axis0)) ≡ Filled) × ((d.look (corner d (unit axis1)) ≡ Filled) × ((d.look (corner d (unit axis2)) ≡ Filled) × Unit {0})) → none_level ≡ v
      levels-are h = levels-eq each
        where
          each : (k : Axis) → level none_level k ≡ level v k
          each axis0 = sym (filled-sloped axis0 h.0)
          each axis1 = sym (filled-sloped axis1 h.1.0)
          each axis2 = sym (filled-sloped axis2 h.1.1.0)

  abbrev Said : Pick → Type 0
  Said = AnswerSays Finds Stops

  said : Said (unmarked (touch_at i))
  unfolding touch_of
  said = marked-says _ _ (touch (permitted i.solid i.bytes) (look i.solid i.bytes) i.start i.frame i.reach) (touch-by-rule _ _ _ _ _ slope-touch)

  -- ---- what is wanted
  guess-whole : (a : AcceptedPick) → touch_at i ≡ guess a → found_of a ≡ found (near_at i) (levels_of n) (ideal_of (signs_of i) n)
  guess-whole a e = (subst (λ (x : Touch). Said (unmarked x)) e said).1.1

  no_zero : none_level ≡ v → NoZero n
  no_zero e k z = sloped-not k (sym (ap (λ (a : Levels). level a k) e) ∙ none-level k) z
    where
      none-level : (k : Axis) → level none_level k ≡ false
      none-level axis0 = refl
      none-level axis1 = refl
      none-level axis2 = refl

  three : none_level ≡ v → length (remaining v) ≡ 3
  three e = ap (λ (a : Levels). length (remaining a)) (sym e) ∙ three-remain

  one-touch : TouchedAs n i (touch_at i)
  unfolding found
  one-touch = go (touch_at i) refl said
    where
      go : (x : Touch) → touch_at i ≡ x → Said (unmarked x) → TouchedAs n i x
      go (Guess g) e h =
          let a = g.answer in
          let triangle : a.triangle ≡ laid (signs_of i) (ideal_of (signs_of i) n).0 = ap (λ (f : Found). f.triangle) h.1.1 in
          let steps : a.steps ≡ (ideal_of (signs_of i) n).1 = ap (λ (f : Found). f.steps) h.1.1 in
          record {
            no_zero = no_zero h.1.0;
            is_normal = ap (λ (f : Found). f.normal) h.1.1 ∙ end-normal n t i on_slope;
            is_triangle = triangle;
            in_plane = rw triangle (generators-in v n _ (products n t i on_slope));
            generated = rw triangle (generate n t i on_slope);
            steps_are = steps;
            few_steps = omega (arith, steps, three h.1.0, ideal-steps (raised v N) v (size n - length (remaining v)) 0 units);
            looks_are = guess-looks i.solid i.bytes i.start i.frame i.reach a e;
          }
      go (TouchRefused r) e h = refused h.1 h.2
        where
          refused : {l : List Vector} → Stops (stop_of r) l → r.looks ≡ length l → TouchOutside n i r ⊎ TouchLevel n i r
          refused (inl s) k = inl (record { no_zero = no_zero s.none; is_eight = s.is_eight; next = s.next; outside = outside-box i.solid i.bytes r.place s.next.outside })
          refused (inr s) k = inr (record {
            axis = s.axis;
            is_zero = level-zero s.axis s.is_level;
            lowest = λ j e. sloped-not j (s.lowest j e);
            is_eleven = ap (λ (r : Stop). r.number) s.is;
            is_place = ap (λ (r : Stop). r.place) s.is;
            steps_are = ap (λ (r : Stop). r.steps) s.is;
            looks_are = omega (arith, k, s.looks);
          })

  eleven : (k : Axis) → part k n ≡ pos 0 → (r : RefusedPick) × (touch_at i ≡ TouchRefused r) × TouchLevel n i r
  eleven k z = go (touch_at i) refl one-touch
    where
      go : (x : Touch) → touch_at i ≡ x → TouchedAs n i x → (r : RefusedPick) × (touch_at i ≡ TouchRefused r) × TouchLevel n i r
      go (Guess a) e h = absurd (h.no_zero k z)
      go (TouchRefused r) e (inl h) = absurd (h.no_zero k z)
      go (TouchRefused r) e (inr h) = (r, e, h)

-- a vector with no zero part and none against either frame has one frame
one-frame : (n : Vector) (t u : ℤ) (i j : Inputs) → OnSlope n t i → OnSlope n u j → NoZero n → signs_of i ≡ signs_of j
one-frame n t u i j o p none =
    let g = signs-are (nat_abs i.frame) in let h = signs-are (nat_abs j.frame) in
    (same-frame (signs_of i) (signs_of j) _ _ g h (positive g o.direction.signed) (positive h p.direction.signed) (lay-lay (signs_of i) n g ∙ sym (lay-lay (signs_of j) n h))).0
  where
    not-zero : (z : ℤ) → (z ≡ pos 0 → ⊥) → is_zero z ≡ false
    not-zero (pos zero) h = absurd (h refl)
    not-zero (pos (suc k)) h = refl
    not-zero (negsuc k) h = refl

    positive : {s : Vector} → Signs s → NonNegative (lay s n) → Positive (lay s n)
    positive {s} g h = parts-by (λ z. pos 1 ≤ℤ z) (lay s n) (λ k. lay-part-high s n g h k (not-zero (part k n) (none k)))

no-zero-guess : (n : Vector) (t : ℤ) (i : Inputs) → OnLevel n t i → (a : AcceptedPick) → touch_at i ≡ guess a → NoZero n
no-zero-guess n t i o a e = (subst (TouchedAs n i) e (one-touch n t i o)).no_zero

pub quick-touch : QuickTouch
quick-touch = record {
  one_touch = one-touch;
  eleven = eleven;
  as_long_walk = λ n t u i j o p a b x y. same_whole n (near_at i) (probe_at j) (one-frame n t u i j o.on_slope p (no-zero-guess n t i o a x)) a b (guess-whole n t i o a x) (is_whole n u j p b y);
  two_touches = λ n t u i j o p a b x y. same_whole n (near_at i) (near_at j) (one-frame n t u i j o.on_slope p.on_slope (no-zero-guess n t i o a x)) a b (guess-whole n t i o a x) (guess-whole n u j p b y);
  wedge_touch = λ g n wedge p frame reach o r h.
      rw h.is (one-touch n _ _ (record { on_slope = multiple-slope g n wedge p frame reach o.on_wedge (record { t = dot n (apex_of (of_wedge wedge p frame reach)); enough = o.above; least = o.first }); first_level = refl }));
  stack_touch = λ n t stack bytes p frame reach o r h. rw h.is (one-touch n t _ o);
}
