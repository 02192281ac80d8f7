-- The reader's searches in the bytes from a place on: "P4" stands there, a comment's line end is the first, and what the rest of the
-- bytes gives from here on is what all of them gave at the start.
use Rattle.std.specs.Prelude.{◌≡◌, refl, Bool, true, false, not, ◌&&◌, List, [], ◌∷◌, ℕ, suc, ◌+◌, ◌-◌, ◌*◌, ◌≤◌, ◌<◌, min, length, drop, get_or, eqb, Option, Some, None, Ok, Err}
use Rattle.std.proofs.Common.{sym, ap, ◌∙◌, arith, cond, drop_of_length-le, eq-eqb, ne_eqb, eqb-true}
use Rattle.std.proofs.lemmas.Bool.{not-true, not-false, eqb-false}
use Rattle.std.specs.List.{starts_with, position, position_from}
use Rattle.std.proofs.lemmas.Iterator.Adapters.{position_from-zero}
use Rattle.rules.specs.Decimals.{is_digit}
use Rattle.rules.specs.P4.{Judged, good, wrong, is_end, is_white, stands, comment_at, mix, digits_at}
use Rattle.text.specs.Places.{drop_here}
use Rattle.p4_laws.specs.Scans.{mix-in, mix-white, mix-hash, mix-stop, comment-end, comment-more, digit-more, digit-stop, Alike, alike, alike-trans, alike_is}
use Rattle.rules.specs.declared.RefusedStack.{RefusedStack}
use Rattle.p4_header.specs.Reads.{Comment, Mix, Digits}

pub refused : {x : RefusedStack} {n p : ℕ} → x ≡ record { number = n; value = p } → {A : Type 0} → ◌≡◌ {A = Judged A} (wrong x.number x.value) (wrong n p)
refused q = ap (λ (x : RefusedStack). wrong x.number x.value) q

-- ---- "P4"
eqb-sym : (m n : ℕ) → eqb m n ≡ eqb n m
eqb-sym m n = by (eqb m n) refl
  where
    by : (t : Bool) → eqb m n ≡ t → eqb m n ≡ eqb n m
    by true e = e ∙ sym (eq-eqb n m (sym (eqb-true m n e)))
    by false e = e ∙ sym (ne_eqb n m (λ h. eqb-false m n e (sym h)))

pub stands-first : (word s : List ℕ) → starts_with eqb s word ≡ stands word s
unfolding stands
stands-first [] s = refl
stands-first (b ∷ bs) [] = refl
stands-first (b ∷ bs) (c ∷ cs) = ap (λ (t : Bool). t && starts_with eqb cs bs) (eqb-sym b c) ∙ ap (λ (t : Bool). eqb c b && t) (stands-first bs cs)

-- ---- a comment, by the place of its line end among the bytes
abbrev closed : ℕ → ℕ → Option ℕ → Judged ℕ
closed at end (Some i) = good (at + i + 1)
closed at end None = wrong 22 end

comment-from : (l : List ℕ) (at i : ℕ) → comment_at l (at + i) ≡ closed at (at + i + length l) (position_from is_end i l)
unfolding comment_at
comment-from [] at i = ap (wrong 22) (omega arith)
comment-from (b ∷ l) at i = by (is_end b) refl (comment-from l at (i + 1))
  where
    by : (t : Bool) → is_end b ≡ t
        → comment_at l (at + (i + 1)) ≡ closed at (at + (i + 1) + length l) (position_from is_end (i + 1) l)
        → comment_at (b ∷ l) (at + i) ≡ closed at (at + i + suc (length l)) (cond (is_end b) (Some i) (position_from is_end (i + 1) l))
    by true e h =
        comment-end b l (at + i) e
        ∙ ap (λ (t : Bool). closed at (at + i + suc (length l)) (cond t (Some i) (position_from is_end (i + 1) l))) (sym e)
    by false e h =
        let k : at + i + 1 ≡ at + (i + 1) = omega arith in
        let n : at + (i + 1) + length l ≡ at + i + suc (length l) = omega arith in
        comment-more b l (at + i) e
        ∙ ap (comment_at l) k
        ∙ h
        ∙ ap (λ (end : ℕ). closed at end (position_from is_end (i + 1) l)) n
        ∙ ap (λ (t : Bool). closed at (at + i + suc (length l)) (cond t (Some i) (position_from is_end (i + 1) l))) (sym e)

module _ (s : List ℕ) {l : List ℕ} (at : ℕ) (from : l ≡ drop at s) {r : Option ℕ} (found : r ≡ position is_end l) where
  comment-is : closed at (at + length l) r ≡ comment_at (drop at s) at
  comment-is =
      let k : at + 0 ≡ at = omega arith in
      ap (closed at (at + length l)) (found ∙ position_from-zero is_end l)
      ∙ ap (λ (end : ℕ). closed at (end + length l) (position_from is_end 0 l)) (sym k)
      ∙ sym (comment-from l at 0)
      ∙ (λ j. comment_at (from j) (k j))

  pub comment-closed : {i : ℕ} → r ≡ Some i → Comment s at (Ok (at + i + 1))
  comment-closed e = record { is = ap (closed at (at + length l)) (sym e) ∙ comment-is }

  pub comment-unclosed : r ≡ None → {x : RefusedStack} → x ≡ record { number = 22; value = at + length l } → Comment s at (Err x)
  comment-unclosed e q = record { is = refused q ∙ ap (closed at (at + length l)) (sym e) ∙ comment-is }

-- ---- white space and comments
pub record Mixing (l : List ℕ) (at i : ℕ) (comment : Bool) : Type 0 where
  pub rest : mix comment (drop i l) (at + i) ≡ mix false l at

pub mixing-start : (l : List ℕ) (at : ℕ) → Mixing l at 0 false
mixing-start l at = record { rest = ap (mix false l) (omega arith) }

module _ {l : List ℕ} {at i : ℕ} {comment : Bool} (M : Mixing l at i comment) where
  module _ {s : List ℕ} (from : l ≡ drop at s) where
    mixed : {r : ℕ} → r ≡ mix comment (drop i l) (at + i) → Mix s at r
    mixed e = record { is = e ∙ M.rest ∙ ap (λ (x : List ℕ). mix false x at) from }

    pub mixing-end : length l ≤ i → i ≤ length l → Mix s at (at + length l)
    unfolding mix
    mixing-end h k = let e : at + length l ≡ at + i = omega arith in mixed (e ∙ ap (λ (x : List ℕ). mix comment x (at + i)) (sym (drop_of_length-le l h)))

    pub mixing-stop : comment ≡ false → i < length l → (get_or l i 0 ≡ 35 → ⊥) → {r : Bool} → r ≡ is_white (get_or l i 0) → not r ≡ true → Mix s at (at + i)
    mixing-stop e h n {r} f t =
        mixed (sym (mix-stop (get_or l i 0) (drop (i + 1) l) (at + i) (sym f ∙ not-true r t) n) ∙ sym (λ k. mix (e k) (drop_here l i h k) (at + i)))

  module _ (h : i < length l) where
    at_byte : (t : Bool) → comment ≡ t → mix t (get_or l i 0 ∷ drop (i + 1) l) (at + i) ≡ mix false l at
    at_byte t e = sym (λ k. mix (e k) (drop_here l i h k) (at + i)) ∙ M.rest

    further : (t : Bool) → mix t (drop (i + 1) l) (at + i + 1) ≡ mix false l at → Mixing l at (i + 1) t
    further t e = record { rest = let k : at + (i + 1) ≡ at + i + 1 = omega arith in ap (mix t (drop (i + 1) l)) k ∙ e }

    pub mixing-in : comment ≡ true → {r : Bool} → r ≡ is_end (get_or l i 0) → Mixing l at (i + 1) (not r)
    mixing-in e {r} f =
        further (not r)
        (ap (λ (x : Bool). mix (not x) (drop (i + 1) l) (at + i + 1)) f ∙ sym (mix-in (get_or l i 0) (drop (i + 1) l) (at + i)) ∙ at_byte true e)

    module _ (e : comment ≡ false) where
      pub mixing-white : {r : Bool} → r ≡ is_white (get_or l i 0) → not r ≡ false → Mixing l at (i + 1) comment
      mixing-white {r} f t =
          further comment
          (ap (λ (x : Bool). mix x (drop (i + 1) l) (at + i + 1)) e
          ∙ sym (mix-white (get_or l i 0) (drop (i + 1) l) (at + i) (sym f ∙ not-false r t)) ∙ at_byte false e)

      pub mixing-hash : get_or l i 0 ≡ 35 → Mixing l at (i + 1) true
      unfolding is_white is_end
      mixing-hash q = further true (sym (mix-hash (get_or l i 0) (drop (i + 1) l) (at + i) (ap is_white q) q) ∙ at_byte false e)

-- ---- digits
pub record Counting (l : List ℕ) (at i v : ℕ) : Type 0 where
  pub small : v ≤ 100000
  pub rest : Alike (digits_at v (drop i l) (at + i)) (digits_at 0 l at)

pub counting-start : (l : List ℕ) (at : ℕ) → Counting l at 0 0
counting-start l at = record { small = omega arith; rest = alike_is (ap (digits_at 0 l) (omega arith)) }

module _ {l : List ℕ} {at i v : ℕ} (C : Counting l at i v) where
  module _ {s : List ℕ} (from : l ≡ drop at s) where
    counted : {p : ℕ} → p ≡ at + i → digits_at v (drop i l) (at + i) ≡ (v, at + i) → Digits s at v p
    counted q e =
        let a = alike-trans (alike_is (sym e)) (alike-trans C.rest (alike_is (ap (λ (x : List ℕ). digits_at 0 x at) from))) in
        let n = C.small in
        record { value-is = omega (arith, a.value); next-is = q ∙ a.place }

    pub counting-end : length l ≤ i → i ≤ length l → Digits s at v (at + length l)
    unfolding digits_at
    counting-end h k = counted (omega arith) (ap (λ (x : List ℕ). digits_at v x (at + i)) (drop_of_length-le l h))

    pub counting-stop : i < length l → {r : Bool} → r ≡ is_digit (get_or l i 0) → not r ≡ true → Digits s at v (at + i)
    counting-stop h {r} f t =
        counted refl
        (ap (λ (x : List ℕ). digits_at v x (at + i)) (drop_here l i h) ∙ digit-stop (get_or l i 0) (drop (i + 1) l) (at + i) v (sym f ∙ not-true r t))

  module _ {r : Bool} (f : r ≡ is_digit (get_or l i 0)) (t : r ≡ true) where
    digit : is_digit (get_or l i 0) ≡ true
    digit = sym f ∙ t

    pub counting-digit : (v ≤ 100000) × (is_digit (get_or l i 0) ≡ true)
    counting-digit = (C.small, digit)

    pub counting-next : i < length l → {w : ℕ} → w ≡ min 100000 (v * 10 + (get_or l i 0 - 48)) → Counting l at (i + 1) w
    counting-next h {w} e =
        let b = get_or l i 0 in
        let k : at + (i + 1) ≡ at + i + 1 = omega arith in
        record {
          small = omega arith;
          rest =
              alike-trans
              (alike_is (ap (digits_at w (drop (i + 1) l)) k))
              (alike-trans
              (alike (drop (i + 1) l) (at + i + 1) w (v * 10 + (b - 48)) (omega arith))
              (alike-trans
              (alike_is (sym (ap (λ (x : List ℕ). digits_at v x (at + i)) (drop_here l i h) ∙ digit-more b (drop (i + 1) l) (at + i) v digit)))
              C.rest));
        }
