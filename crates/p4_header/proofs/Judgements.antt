-- Each way out of the header's functions: the definition goes the same way.
use Rattle.std.specs.Prelude.{◌≡◌, refl, Bool, true, false, not, ◌&&◌, List, ℕ, ◌+◌, ◌≤◌, ◌<◌, min, length, drop, get_or, leb, ltb, eqb, Result, Ok, Err, ◌⊎◌}
use Rattle.std.proofs.Common.{inl, inr, sym, ap, ◌∙◌, arith, le-leb, leb-true, leb-false, lt-ltb, le-ltb}
use Rattle.std.proofs.lemmas.Bool.{lt-leb, not-true, not-false}
use Rattle.std.proofs.Math.ListN.{get_or-eq_default}
use Rattle.std.specs.List.{starts_with}
use Rattle.integers.specs.Tests.{both, not_first, not-second}
use Rattle.rules.specs.declared.RefusedStack.{RefusedStack}
use Rattle.rules.specs.P4.{Judged, good, wrong, ◌>>=◌, ◌>>◌, judge, is_end, is_white, magic, stands, white, digits_at, Field, field_at, header_at}
use Rattle.p4_laws.specs.White.{space-reads, comment-reads, other-refused}
use Rattle.p4_laws.specs.Judging.{pass, fail}
use Rattle.p4_header.specs.declared.Field.{Field as FieldRead}
use Rattle.p4_header.specs.Reads.{judged_place, judged_field, Comment, White, Mix, Digits, FieldIs, HeaderIs}
use Rattle.p4_header.proofs.Scanning.{refused, stands-first}

-- ---- the white space required
module _ (s : List ℕ) (at : ℕ) where
  module _ {b : ℕ} (here : b ≡ get_or s at 0) where
    pub white-space : {r : Bool} → r ≡ is_white b → r ≡ true → White s at (Ok (at + 1))
    white-space f t = record { is = sym (space-reads s at (ap is_white (sym here) ∙ sym f ∙ t)) }

    pub white-comment : b ≡ 35 → {c : Result ℕ RefusedStack} → Comment s at c → White s at c
    white-comment h C = record { is = C.is ∙ sym (comment-reads s at (sym here ∙ h)) }

    pub white-other : {r : Bool} → r ≡ is_white b → r ≡ false → (b ≡ 35 → ⊥) → {x : RefusedStack} → x ≡ record { number = 22; value = at } → White s at (Err x)
    white-other f t n q = record { is = refused q ∙ sym (other-refused s at (ap is_white (sym here) ∙ sym f ∙ t) (λ h. n (here ∙ h))) }

  pub white-past : length s ≤ at → {x : RefusedStack} → x ≡ record { number = 22; value = at } → White s at (Err x)
  unfolding is_white is_end
  white-past l q = let z = get_or-eq_default s 0 l in record { is = refused q ∙ sym (other-refused s at (ap is_white z) (λ h. omega arith)) }

-- ---- a field: from its digits on
digits_from : List ℕ → ℕ → ℕ × ℕ → Judged Field
digits_from s first d = do
  judge (ltb first d.1) 22 first
  next ← white s d.1
  judge (leb 1 d.0 && leb d.0 256) 23 first
  good (record { value = d.0; next = next })

-- and from the white space behind them on
judged_from : ℕ → ℕ → Judged ℕ → Judged Field
judged_from first v w = do
  next ← w
  judge (leb 1 v && leb v 256) 23 first
  good (record { value = v; next = next })

-- a value above 100000 is judged as 100000 is
capped : (first x : ℕ) (w : Judged ℕ) → judged_from first (min 100000 x) w ≡ judged_from first x w
unfolding judged_from ◌>>=◌
capped first x (wrong n p) = refl
capped first x (good i) = by (leb x 100000) refl
  where
    by : (t : Bool) → leb x 100000 ≡ t → judged_from first (min 100000 x) (good i) ≡ judged_from first x (good i)
    by true q = let h = leb-true x 100000 q in let k : min 100000 x ≡ x = omega arith in ap (λ (v : ℕ). judged_from first v (good i)) k
    by false q =
        let h = leb-false x 100000 q in
        fail 23 first _ (not-second (leb 1 (min 100000 x)) (lt-leb (min 100000 x) 256 (omega arith)))
        ∙ sym (fail 23 first _ (not-second (leb 1 x) (lt-leb x 256 (omega arith))))

module _ {s : List ℕ} {at first v end : ℕ} (M : Mix s at first) (D : Digits s first v end) where
  from-digits : field_at 256 23 s at ≡ digits_from s first (digits_at 0 (drop first s) first)
  unfolding field_at digits_from
  from-digits = ap (λ (x : ℕ). digits_from s x (digits_at 0 (drop x s) x)) (sym M.is)

  pub field-none : end ≤ first → {x : RefusedStack} → x ≡ record { number = 22; value = first } → FieldIs s at (Err x)
  unfolding digits_from
  field-none l q = let e = D.next-is in record { is = refused q ∙ sym (from-digits ∙ fail 22 first _ (le-ltb first _ (omega arith))) }

  module _ (l : first < end) where
    from-white : {w : Result ℕ RefusedStack} → White s end w → field_at 256 23 s at ≡ judged_from first v (judged_place w)
    unfolding digits_from judged_from
    from-white {w} W =
        let d = digits_at 0 (drop first s) first in
        let e = D.next-is in
        from-digits
        ∙ pass 22 first _ (lt-ltb first d.1 (omega arith))
        ∙ ap (λ (x : ℕ). judged_from first d.0 (white s x)) (sym e)
        ∙ ap (judged_from first d.0) (sym W.is)
        ∙ sym (capped first d.0 (judged_place w))
        ∙ ap (λ (x : ℕ). judged_from first x (judged_place w)) (sym D.value-is)

    pub field_loose : {e : RefusedStack} → White s end (Err e) → FieldIs s at (Err e)
    unfolding judged_from ◌>>=◌
    field_loose W = record { is = sym (from-white W) }

    module _ {i : ℕ} (W : White s end (Ok i)) where
      judged-to : field_at 256 23 s at ≡ (judge (leb 1 v && leb v 256) 23 first >>= λ _. good (record { value = v; next = i }))
      unfolding judged_from ◌>>=◌
      judged-to = from-white W

      pub field-wrong : (v < 1) ⊎ ((1 ≤ v) × (256 < v)) → {x : RefusedStack} → x ≡ record { number = 23; value = first } → FieldIs s at (Err x)
      field-wrong (inl h) q = record { is = refused q ∙ sym (judged-to ∙ fail 23 first _ (not_first _ (lt-leb 1 v h))) }
      field-wrong (inr (_, h)) q = record { is = refused q ∙ sym (judged-to ∙ fail 23 first _ (not-second (leb 1 v) (lt-leb v 256 h))) }

      pub field-good : 1 ≤ v → v ≤ 256 → FieldIs s at (Ok (record { value = v; next = i }))
      field-good h k = record { is = sym (judged-to ∙ pass 23 first _ (both (le-leb 1 v h) (le-leb v 256 k))) }

-- ---- a header
module _ (s : List ℕ) {l : List ℕ} (at : ℕ) (from : l ≡ drop at s) {t : Bool} (T : t ≡ starts_with eqb l magic) where
  stood : t ≡ stands magic (drop at s)
  stood = T ∙ stands-first magic l ∙ ap (stands magic) from

  pub header-not : not t ≡ true → {x : RefusedStack} → x ≡ record { number = 21; value = at } → HeaderIs s at (Err x)
  unfolding header_at
  header-not e q = record { is = refused q ∙ sym (fail 21 at _ (sym stood ∙ not-true t e)) }

  module _ (e : not t ≡ false) where
    behind-magic : {g : Result ℕ RefusedStack} → White s (at + 2) g → header_at s at ≡ (judged_place g >>= λ i. field_at 256 23 s i >>= λ w. field_at 256 23 s w.next >>= λ h. good (record { width = w.value; height = h.value; next = h.next }))
    unfolding header_at
    behind-magic G = pass 21 at _ (sym stood ∙ not-false t e) ∙ ap (λ (x : Judged ℕ). x >>= λ i. field_at 256 23 s i >>= λ w. field_at 256 23 s w.next >>= λ h. good (record { width = w.value; height = h.value; next = h.next })) (sym G.is)

    pub header-gap : {x : RefusedStack} → White s (at + 2) (Err x) → HeaderIs s at (Err x)
    unfolding ◌>>=◌
    header-gap G = record { is = sym (behind-magic G) }

    module _ {i : ℕ} (G : White s (at + 2) (Ok i)) where
      behind-gap : {w : Result FieldRead RefusedStack} → FieldIs s i w → header_at s at ≡ (judged_field w >>= λ w. field_at 256 23 s w.next >>= λ h. good (record { width = w.value; height = h.value; next = h.next }))
      unfolding ◌>>=◌
      behind-gap W = behind-magic G ∙ ap (λ (x : Judged Field). x >>= λ w. field_at 256 23 s w.next >>= λ h. good (record { width = w.value; height = h.value; next = h.next })) (sym W.is)

      pub header-width : {x : RefusedStack} → FieldIs s i (Err x) → HeaderIs s at (Err x)
      unfolding ◌>>=◌
      header-width W = record { is = sym (behind-gap W) }

      module _ {a : FieldRead} (W : FieldIs s i (Ok a)) where
        behind-width : {h : Result FieldRead RefusedStack} → FieldIs s a.next h → header_at s at ≡ (judged_field h >>= λ h. good (record { width = a.value; height = h.value; next = h.next }))
        unfolding ◌>>=◌
        behind-width H = behind-gap W ∙ ap (λ (x : Judged Field). x >>= λ h. good (record { width = a.value; height = h.value; next = h.next })) (sym H.is)

        pub header-height : {x : RefusedStack} → FieldIs s a.next (Err x) → HeaderIs s at (Err x)
        unfolding ◌>>=◌
        header-height H = record { is = sym (behind-width H) }

        pub header-sizes : {b : FieldRead} → FieldIs s a.next (Ok b) → HeaderIs s at (Ok (record { width = a.value; height = b.value; next = b.next }))
        unfolding ◌>>=◌
        header-sizes H = record { is = sym (behind-width H) }
