-- Demand 3 is proved: each sentence is read off the ideal walk, which an accepted pick on a slope equals.
use Rattle.std.specs.Prelude.{◌≡◌, refl, ℕ, suc, ◌+◌, ◌*◌, ◌-◌, ◌≤◌, max, T, ℤ, pos, nat_abs}
use Rattle.std.proofs.Common.{sym, subst, ◌∙◌, arith}
use Rattle.std.proofs.Math.Path.{ap}
use Rattle.std.proofs.Math.Nat as NatL
use Rattle.rules.specs.declared.Vector.{Vector}
use Rattle.rules.specs.declared.Triangle.{Triangle}
use Rattle.rules.specs.declared.Accepted.{Accepted as AcceptedPick}
use Rattle.rules.specs.Answers.{Pick}
use Rattle.std.specs.Prelude.{Ok as Accepted, Err as Refused}
use Rattle.rules.specs.Vectors.{dot, lay, size}
use Rattle.rules.specs.Solids.{permitted, look}
use Rattle.rules.specs.declared.Axis.{Axis}
use Rattle.rules.specs.Walk.{signs, unit, units, vector_of, level, normal, levelled, Probe, Found, laid, found}
use Rattle.rules.specs.Pick.{pick, pick_of}
use Rattle.rules.specs.Lean.{levels_of}
use Rattle.laws.specs.Triples.{det_of}
use Rattle.laws.specs.Levels.{at-most-3, some-remain}
use Rattle.laws.specs.Flat.{Flat, raised}
use Rattle.laws.specs.Generators.{Combines, generators, Products}
use Rattle.laws.proofs.Generators.{generators-in}
use Rattle.laws.specs.Frames.{signs-are}
use Rattle.laws.specs.Says.{Few}
use Rattle.laws.specs.Powers.{three-most}
use Rattle.laws.specs.Boxes.{outside-box}
use Rattle.laws.specs.Answers.{laid_of, found_of, AnswerSays, answer-says}
use Rattle.laws.proofs.Answers.{laid-products, laid-generated}
use Rattle.slope.specs.Demands.{Inputs, signs_of, probe_at, powers_of, pick_at, remaining_of, OnSlope, Demanded, Same, Demand3}
use Rattle.slope.specs.Ideal.{ideal-steps, ideal_of}
use Rattle.slope.proofs.Picks.{some, few, ideally, fewest, end-even, end-normal, pick-says}
use Rattle.slope.specs.Rounds.{Edge}
use Rattle.slope.specs.Wedges.{wedge-slope}

-- 6w + 6 looks a power are enough for any number r of remaining axes, since three take the most
asked-few : (r w : ℕ) → 1 ≤ r → r ≤ 3 → r ≤ w → 6 - r + r * (r - 1) * (w + 1 - r) ≤ 6 * w + 6
asked-few r w h k l = let e : w + 1 - r ≡ suc (w - r) = omega (arith, l) in rw e (omega (arith, h, l, three-most r w (max w 3) h k (omega arith) (omega arith)))

module _ (n : Vector) (t : ℤ) (i : Inputs) (o : OnSlope n t i) where
  abbrev whole : Found
  whole = found (probe_at i) (levels_of n) (ideally n t i o)

  abbrev Said : Pick → Type 0
  Said = AnswerSays (Few (fewest n t i o) (λ f. f ≡ whole)) (λ e l. Edge (probe_at i) e)

  said : Said (pick_at i)
  unfolding pick_of
  said = answer-says _ _ (pick (permitted i.solid i.bytes) (look i.solid i.bytes) i.start i.frame i.reach) (pick-says n t i o)

  pub is_whole : (a : AcceptedPick) → pick_at i ≡ Accepted a → found_of a ≡ whole
  is_whole a e = (subst Said e said).1.holds

  is_normal : (a : AcceptedPick) → pick_at i ≡ Accepted a → a.normal ≡ n
  unfolding found
  is_normal a e = ap (λ (f : Found). f.normal) (is_whole a e) ∙ end-normal n t i o

  -- as many steps as the ideal walk, and its triangle
  ideal-many : (a : AcceptedPick) → pick_at i ≡ Accepted a → a.steps ≡ (ideally n t i o).1
  unfolding found
  ideal-many a e = ap (λ (f : Found). f.steps) (is_whole a e)

  abbrev m : Triangle
  m = (ideally n t i o).0

  triangle-is : (a : AcceptedPick) → pick_at i ≡ Accepted a → a.triangle ≡ laid (signs_of i) m
  unfolding found
  triangle-is a e = ap (λ (f : Found). f.triangle) (is_whole a e)

  flat : Flat (levels_of n) m
  flat = (end-even n t i o).upright.flat

  one : det_of m ≡ pos 1
  one = (end-even n t i o).upright.unimodular

  stay : (k : Axis) → T (level (levels_of n) k) → vector_of (laid (signs_of i) m) k ≡ lay (signs_of i) (unit k)
  stay k h = laid_of (signs_of i) m k ∙ ap (lay (signs_of i)) ((flat k h k).own refl)

  pub products : Products (levels_of n) n (laid (signs_of i) (ideally n t i o).0)
  products = subst (λ u. Products (levels_of n) u (laid (signs_of i) m)) (end-normal n t i o) (laid-products (signs-are (nat_abs i.frame)) flat one)

  pub generate : (v : Vector) → dot n v ≡ pos 0 → Combines (generators (levels_of n) (laid (signs_of i) (ideally n t i o).0)) v
  generate v h = laid-generated (signs-are (nat_abs i.frame)) flat one v (rw (end-normal n t i o) h)

  few-enough : fewest n t i o ≤ 2 + powers_of i * (6 * size n + 6)
  few-enough = omega (arith, NatL.mul-le-mul_left (powers_of i) (asked-few (remaining_of n) (size n) (some-remain (levels_of n) (some n t i o)) (at-most-3 (levels_of n)) (few n t i o)))

  one-pick : Demanded n i (pick_at i)
  one-pick = go (pick_at i) refl said
    where
      go : (x : Pick) → pick_at i ≡ x → Said x → Demanded n i x
      go (Accepted a) e h = record {
        is_normal = is_normal a e;
        few_steps = omega (arith, ideal-many a e, ideal-steps (raised (levels_of n) (lay (signs_of i) n)) (levels_of n) (size n - remaining_of n) 0 units);
        few_looks = omega (arith, h.1.few, h.2, few-enough);
        fewest_looks = omega (arith, h.1.few, h.2);
        stays = rw (triangle-is a e) stay;
        in_plane = rw (triangle-is a e) (generators-in (levels_of n) n (laid (signs_of i) m) products);
        generated = rw (triangle-is a e) generate;
      }
      go (Refused r) e h = record { is_eight = h.1.is_eight; next = h.1.next; outside = outside-box i.solid i.bytes r.place h.1.next.outside }

-- ---- two picks with the same signs: the ideal walk knows nothing else
pub same_whole : (n : Vector) (c d : Probe) → c.signs ≡ d.signs → (f g : AcceptedPick)
    → found_of f ≡ found c (levels_of n) (ideal_of c.signs n) → found_of g ≡ found d (levels_of n) (ideal_of d.signs n) → Same f g
unfolding found
same_whole n c d e f g x y = record {
  normals = ap (λ (f : Found). f.normal) x ∙ ap (λ s. lay s (levelled (levels_of n) (normal (ideal_of s n).0))) e ∙ sym (ap (λ (f : Found). f.normal) y);
  triangles = ap (λ (f : Found). f.triangle) x ∙ ap (λ s. laid s (ideal_of s n).0) e ∙ sym (ap (λ (f : Found). f.triangle) y);
  steps = ap (λ (f : Found). f.steps) x ∙ ap (λ s. (ideal_of s n).1) e ∙ sym (ap (λ (f : Found). f.steps) y);
}

pub two-picks : (n : Vector) (t u : ℤ) (i j : Inputs) → OnSlope n t i → OnSlope n u j → signs_of i ≡ signs_of j → (a b : AcceptedPick) → pick_at i ≡ Accepted a → pick_at j ≡ Accepted b → Same a b
two-picks n t u i j o p e a b x y = same_whole n _ _ e a b (is_whole n t i o a x) (is_whole n u j p b y)

pub demand-3 : Demand3
demand-3 = record {
  one_pick = one-pick;
  two_picks = λ n t u i j o p e. two-picks n t u i j o p (ap (λ (f : ℤ). signs (nat_abs f)) e);
  wedge_slope = wedge-slope;
  wedge_pick = λ g n wedge p frame reach o r h. let w = wedge-slope g n wedge p frame reach o in rw h.is (one-pick n w.0 _ w.1);
  stack_pick = λ n t stack bytes p frame reach o r h. rw h.is (one-pick n t _ o);
}
