-- The mix of white space and comments, a comment, and digits, one byte further.
use Rattle.std.specs.Prelude.{◌≡◌, Bool, true, false, not, List, [], ◌∷◌, ℕ, ◌+◌, ◌-◌, ◌*◌, min}
use Rattle.std.proofs.Math.Path.{refl}
use Rattle.std.proofs.Common.{sym, ap, ◌∙◌, arith, eq-eqb, ne_eqb}
use Rattle.rules.specs.Decimals.{is_digit}
use Rattle.rules.specs.P4.{good, is_end, is_white, comment_at, mix, digits_at}

module _ (b : ℕ) (bs : List ℕ) (i : ℕ) where
  pub mix-in : mix true (b ∷ bs) i ≡ mix (not (is_end b)) bs (i + 1)
  unfolding mix
  mix-in = refl

  pub mix-white : is_white b ≡ true → mix false (b ∷ bs) i ≡ mix false bs (i + 1)
  unfolding mix
  mix-white e = rw (e, mix)

  pub mix-hash : is_white b ≡ false → b ≡ 35 → mix false (b ∷ bs) i ≡ mix true bs (i + 1)
  unfolding mix
  mix-hash e h = rw (e, mix) (rw (eq-eqb b 35 h))

  pub mix-stop : is_white b ≡ false → (b ≡ 35 → ⊥) → mix false (b ∷ bs) i ≡ i
  unfolding mix
  mix-stop e h = rw (e, mix) (rw (ne_eqb b 35 h))

  pub comment-end : is_end b ≡ true → comment_at (b ∷ bs) i ≡ good (i + 1)
  unfolding comment_at
  comment-end e = rw (e, comment_at)

  pub comment-more : is_end b ≡ false → comment_at (b ∷ bs) i ≡ comment_at bs (i + 1)
  unfolding comment_at
  comment-more e = rw (e, comment_at)

  module _ (v : ℕ) where
    pub digit-more : is_digit b ≡ true → digits_at v (b ∷ bs) i ≡ digits_at (v * 10 + (b - 48)) bs (i + 1)
    unfolding digits_at
    digit-more e = rw (e, digits_at)

    pub digit-stop : is_digit b ≡ false → digits_at v (b ∷ bs) i ≡ (v, i)
    unfolding digits_at
    digit-stop e = rw (e, digits_at)

-- ---- values of 100000 and above are alike: so a reader may stop counting there

pub record Alike (x y : ℕ × ℕ) : Type 0 where
  pub value : min 100000 x.0 ≡ min 100000 y.0
  pub place : x.1 ≡ y.1

pub alike-trans : {x y z : ℕ × ℕ} → Alike x y → Alike y z → Alike x z
alike-trans p q = record { value = p.value ∙ q.value; place = p.place ∙ q.place }

pub alike_is : {x y : ℕ × ℕ} → x ≡ y → Alike x y
alike_is e = record { value = ap (λ (z : ℕ × ℕ). min 100000 z.0) e; place = ap (λ (z : ℕ × ℕ). z.1) e }

pub alike : (l : List ℕ) (i v w : ℕ) → min 100000 v ≡ min 100000 w → Alike (digits_at v l i) (digits_at w l i)
unfolding digits_at
alike [] i v w e = record { value = e; place = refl }
alike (b ∷ l) i v w e = by (is_digit b) refl (alike l (i + 1) (v * 10 + (b - 48)) (w * 10 + (b - 48)) (omega arith))
  where
    by : (t : Bool) → is_digit b ≡ t → Alike (digits_at (v * 10 + (b - 48)) l (i + 1)) (digits_at (w * 10 + (b - 48)) l (i + 1)) → Alike (digits_at v (b ∷ l) i) (digits_at w (b ∷ l) i)
    by true t h = alike-trans (alike_is (digit-more b l i v t)) (alike-trans h (alike_is (sym (digit-more b l i w t))))
    by false t h = alike-trans (alike_is (digit-stop b l i v t)) (alike-trans (record { value = e; place = refl }) (alike_is (sym (digit-stop b l i w t))))
