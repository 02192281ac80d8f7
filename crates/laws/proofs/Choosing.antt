-- The choice. Strictly inside is a smaller weight, so the chosen pair is the first falling pair of least weight: one exists whenever a pair falls,
-- and a round that keeps only the best pair so far, replaced where the next is inside its sphere, ends with the same pair.
use Rattle.std.proofs.Math.Path.{◌≡◌, refl}
use Rattle.std.proofs.Common.{sym, ap, subst, ◌∙◌}
use Rattle.std.proofs.Math.Logic.{inl, inr}
use Rattle.std.specs.Prelude.{Bool, ◌||◌, ℕ, pos, ◌≤ℤ◌, ◌<ℤ◌}
use Rattle.std.proofs.Math.Bool.{true, false}
use mathlib.Core.List.{List, [], ◌∷◌}
use native.Mathlib.Omega.{arith}
use Rattle.std.proofs.Math.Dec.{T}
use Rattle.std.specs.Int.Signed.{lt_z_yes, lt_z_no}
use Rattle.integers.specs.Order.{parts}
use Rattle.rules.specs.declared.Triangle.{Triangle}
use Rattle.rules.specs.declared.Pair.{Pair}
use Rattle.rules.specs.Answers.{Choice}
use Rattle.std.specs.Prelude.{None as Nothing, Some as Chosen}
use Rattle.rules.specs.Walk.{inside, any_inside, first_free, choice}
use Rattle.laws.specs.Tests.{is_true, is_false, In}
use Rattle.laws.specs.Triples.{det_of}
use Rattle.laws.specs.Sphere.{weight, inside-by-weight}
use Rattle.laws.specs.Choosing.{better, best}

-- ---- inside, by the weight
module _ (m : Triangle) (d : det_of m ≡ pos 1) where
  inside-less : (x y : Pair) → T (inside m x y) → weight m y <ℤ weight m x
  inside-less x y t = lt_z_yes (subst T (inside-by-weight m d x y) t)

  less-inside : (x y : Pair) → weight m y <ℤ weight m x → T (inside m x y)
  less-inside x y h = subst T (sym (inside-by-weight m d x y)) h.lt

  not-inside : (x y : Pair) → inside m x y ≡ false → weight m x ≤ℤ weight m y
  not-inside x y e = lt_z_no (rw (sym (inside-by-weight m d x y) ∙ e) tt)

  pub not-inside-itself : (x : Pair) → inside m x x ≡ false
  not-inside-itself x = is_false (inside m x x) (λ t. let h = inside-less x x t in omega (arith, parts))

  -- ---- some of a list is inside
  some-inside : (x z : Pair) (ys : List Pair) → In z ys → T (inside m x z) → any_inside m x ys ≡ true
  unfolding any_inside
  some-inside x z [] i t = absurd i
  some-inside x z (y ∷ ys) (inl e) t = rw (← e, is_true (inside m x z) t)
  some-inside x z (y ∷ ys) (inr i) t = go (inside m x y) (some-inside x z ys i t)
    where
      go : (b : Bool) → any_inside m x ys ≡ true → b || any_inside m x ys ≡ true
      go true r = refl
      go false r = r

  find-inside : (x : Pair) (ys : List Pair) → T (any_inside m x ys) → (z : Pair) × In z ys × T (inside m x z)
  unfolding any_inside
  find-inside x [] e = absurd e
  find-inside x (y ∷ ys) e = go (inside m x y) refl e (find-inside x ys)
    where
      go : (b : Bool) → inside m x y ≡ b → T (b || any_inside m x ys) → (T (any_inside m x ys) → (z : Pair) × In z ys × T (inside m x z)) → (z : Pair) × In z (y ∷ ys) × T (inside m x z)
      go true i e r = (y, inl refl, rw i tt)
      go false i e r = let f = r e in (f.0, inr f.1, f.2)

  none_inside : (x : Pair) (ys : List Pair) → ((z : Pair) → In z ys → T (inside m x z) → ⊥) → any_inside m x ys ≡ false
  none_inside x ys h = is_false (any_inside m x ys) (λ t. let f = find-inside x ys t in h f.0 f.1 f.2)

  -- what is inside x's sphere is among ys, if y is not inside it
  not_first : (x y z : Pair) (ys : List Pair) → inside m x y ≡ false → T (inside m x z) → In z (y ∷ ys) → In z ys
  not_first x y z ys e t (inl p) = absurd (subst T (ap (inside m x) p ∙ e) t)
  not_first x y z ys e t (inr i) = i

  -- ---- the best so far is x, ys are still to come: whatever is inside x's sphere is among ys
  best-from : (fs ys : List Pair) (x : Pair) → ((z : Pair) → In z ys → In z fs) → ((z : Pair) → In z fs → T (inside m x z) → In z ys)
      → best m (Chosen x) ys ≡ first_free m fs (x ∷ ys)
  unfolding best better first_free
  best-from fs [] x sub left = rw (none_inside x fs left, first_free)
  best-from fs (y ∷ ys) x sub left = go (inside m x y) refl (best-from fs ys y (λ z i. sub z (inr i))) (best-from fs ys x (λ z i. sub z (inr i)))
    where
      -- y is better: x has y inside, and what is inside y's sphere is inside x's
      nearer : T (inside m x y) → (z : Pair) → In z fs → T (inside m y z) → In z ys
      nearer t z i u =
          let h = inside-less x y t in let k = inside-less y z u in
          not_first y y z ys (not-inside-itself y) u (left z i (less-inside x z (omega (arith, parts))))

      -- y is no better: where x is not free, neither is y
      skip : inside m x y ≡ false → (b : Bool) → any_inside m x fs ≡ b
          → ◌≡◌ {A = Choice} (elim b [ false ↦ Chosen x | true ↦ first_free m fs ys ]) (elim b [ false ↦ Chosen x | true ↦ first_free m fs (y ∷ ys) ])
      skip e false a = refl
      skip e true a =
          let f = find-inside x fs (rw a tt) in
          let h = inside-less x f.0 f.2 in let k = not-inside x y e in
          rw (some-inside y f.0 fs f.1 (less-inside y f.0 (omega (arith, parts))), first_free)

      go : (b : Bool) → inside m x y ≡ b
          → (((z : Pair) → In z fs → T (inside m y z) → In z ys) → best m (Chosen y) ys ≡ first_free m fs (y ∷ ys))
          → (((z : Pair) → In z fs → T (inside m x z) → In z ys) → best m (Chosen x) ys ≡ first_free m fs (x ∷ ys))
          → best m (elim b [ true ↦ Chosen y | false ↦ Chosen x ]) ys ≡ first_free m fs (x ∷ y ∷ ys)
      go true e r _ = rw (some-inside x y fs (sub y (inl refl)) (rw e tt), first_free) (r (nearer (rw e tt)))
      go false e _ r = r (λ z i u. not_first x y z ys e u (left z i u)) ∙ skip e (any_inside m x fs) refl

  -- the pair that is left at the end of a round is the choice
  pub best-is-choice : (fs : List Pair) → best m Nothing fs ≡ choice m fs
  unfolding best better choice first_free
  best-is-choice [] = refl
  best-is-choice (f ∷ fs) = best-from (f ∷ fs) fs f (λ z i. inr i) (λ z i t. not_first f f z fs (not-inside-itself f) t i)

  some-best : (x : Pair) (ys : List Pair) → best m (Chosen x) ys ≡ Nothing → ⊥
  unfolding best better
  some-best x [] e = let z : ◌≡◌ {A = ℕ} 0 1 = cc in omega arith
  some-best x (y ∷ ys) e = go (inside m x y) (some-best x ys) (some-best y ys) e
    where
      go : (b : Bool) → (best m (Chosen x) ys ≡ Nothing → ⊥) → (best m (Chosen y) ys ≡ Nothing → ⊥) → best m (elim b [ true ↦ Chosen y | false ↦ Chosen x ]) ys ≡ Nothing → ⊥
      go true h k e = k e
      go false h k e = h e

  -- none is chosen only if none falls
  pub choice-exists : (fs : List Pair) → choice m fs ≡ Nothing → fs ≡ []
  unfolding best better
  choice-exists [] e = refl
  choice-exists (f ∷ fs) e = absurd (some-best f fs (best-is-choice (f ∷ fs) ∙ e))
