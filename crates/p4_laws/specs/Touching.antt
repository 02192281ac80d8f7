-- Document 02's 2026-02 in its own words: a comment may begin at once where white space is required, and its line end is that white space.
-- A # has a first line end behind it or none, and the bytes up to there are passed over one by one. Behind it a gap goes on as it does
-- behind a comment after white space: `proofs/Touching`.
use Rattle.std.specs.Prelude.{◌≡◌, Bool, not, List, [], ◌∷◌, ℕ, zero, suc, ◌+◌, ◌-◌, ◌≤◌, ◌<◌, length, get_or, drop}
use Rattle.std.proofs.Math.Path.{refl, ap}
use Rattle.std.proofs.Common.{sym, subst, ◌∙◌, arith, drop_of_length-le}
use Rattle.std.proofs.Math.Bool.{true, false}
use Rattle.std.proofs.Math.Dec.{eqb}
use borrow.Author.Tests.{eqb-true, eqb-false}
use Rattle.rules.specs.P4.{good, wrong, is_end, comment_at, white, mix}
use Rattle.text.specs.Places.{drop_here}
use Rattle.p4_laws.specs.Scans.{mix-in, comment-end, comment-more}
use Rattle.p4_laws.specs.White.{there, comment-reads, Ends, comment-ends}

-- a comment that begins at a place and is open up to another: # there, and no line end behind it
pub record Open (s : List ℕ) (at end : ℕ) : Type 0 where
  pub hash : get_or s at 0 ≡ 35
  pub unended : (i : ℕ) → at < i → i < end → is_end (get_or s i 0) ≡ false

-- and the line end that closes it
pub record Touching (s : List ℕ) (at end : ℕ) : Type 0 where
  pub runs : Open s at end
  pub behind : at < end
  pub closes : is_end (get_or s end 0) ≡ true

-- every # is closed or not: so of a byte where white space is required `space-reads`, `touching-reads`, `unclosed-refused` and `other-refused` tell all
pub data Closing (s : List ℕ) (at : ℕ) : Type 0 where
  closed : (end : ℕ) → Touching s at end → Closing s at
  unclosed : Open s at (length s) → Closing s at

further : {s : List ℕ} {at i : ℕ} → Open s at i → is_end (get_or s i 0) ≡ false → Open s at (i + 1)
further {s} {at} {i} O f = record { hash = O.hash; unended = λ j l m. by j l m (eqb j i) refl }
  where
    by : (j : ℕ) → at < j → j < i + 1 → (t : Bool) → eqb j i ≡ t → is_end (get_or s j 0) ≡ false
    by j l m true e = ap (λ (k : ℕ). is_end (get_or s k 0)) (eqb-true j i e) ∙ f
    by j l m false e = let n = eqb-false j i e in O.unended j l (omega arith)

scan : (s : List ℕ) (at k i : ℕ) → i + k ≡ length s → at < i → Open s at i → Closing s at
scan s at zero i e l O = let n : i ≡ length s = omega arith in unclosed (subst (Open s at) n O)
scan s at (suc k) i e l O = by (is_end (get_or s i 0)) refl (λ P. scan s at k (i + 1) (omega arith) (omega arith) P)
  where
    by : (t : Bool) → is_end (get_or s i 0) ≡ t → (Open s at (i + 1) → Closing s at) → Closing s at
    by true f go = closed i (record { runs = O; behind = l; closes = f })
    by false f go = go (further O f)

pub closed-or-not : (s : List ℕ) (at : ℕ) → get_or s at 0 ≡ 35 → Closing s at
closed-or-not s at h =
    let l = there s at (λ z. omega arith) in
    scan s at (length s - (at + 1)) (at + 1) (omega arith) (omega arith) (record { hash = h; unended = λ i m n. absurd (omega arith) })

-- bytes with no line end are passed over
passes : (s : List ℕ) (k i : ℕ) → i + k ≤ length s → ((j : ℕ) → i ≤ j → j < i + k → is_end (get_or s j 0) ≡ false) → comment_at (drop i s) i ≡ comment_at (drop (i + k) s) (i + k)
passes s zero i l f = let e : i ≡ i + 0 = omega arith in λ j. comment_at (drop (e j) s) (e j)
passes s (suc k) i l f =
    let e : i + 1 + k ≡ i + suc k = omega arith in
    ap (λ (x : List ℕ). comment_at x i) (drop_here s i (omega arith))
    ∙ comment-more (get_or s i 0) (drop (i + 1) s) i (f i (omega arith) (omega arith))
    ∙ passes s k (i + 1) (omega arith) (λ j g h. f j (omega arith) (omega arith))
    ∙ (λ j. comment_at (drop (e j) s) (e j))

module _ {s : List ℕ} {at end : ℕ} (O : Open s at end) where
  -- the # is no line end either
  no_end : (i : ℕ) → at ≤ i → i < end → is_end (get_or s i 0) ≡ false
  unfolding is_end
  no_end i l m = by (eqb at i) refl
    where
      by : (t : Bool) → eqb at i ≡ t → is_end (get_or s i 0) ≡ false
      by true e = ap (λ (j : ℕ). is_end (get_or s j 0)) (sym (eqb-true at i e)) ∙ ap is_end O.hash
      by false e = let n = eqb-false at i e in O.unended i (omega arith) m

  open-reads : at ≤ end → end ≤ length s → white s at ≡ comment_at (drop end s) end
  open-reads l m =
      let e : at + (end - at) ≡ end = omega arith in
      comment-reads s at O.hash
      ∙ passes s (end - at) at (omega arith) (λ i g h. no_end i g (omega arith))
      ∙ (λ j. comment_at (drop (e j) s) (e j))

-- "A comment may now begin at once", and "the line end that closes it counts as the white space required there"
pub touching-reads : {s : List ℕ} {at end : ℕ} → Touching s at end → white s at ≡ good (end + 1)
unfolding is_end
touching-reads {s} {end = end} T =
    let b = T.behind in
    let l = there s end (λ z. (let y : ◌≡◌ {A = Bool} false true = sym (ap is_end z) ∙ T.closes in let n : ◌≡◌ {A = ℕ} 0 1 = cc in omega arith)) in
    open-reads T.runs (omega arith) (omega arith)
    ∙ ap (λ (x : List ℕ). comment_at x end) (drop_here s end l)
    ∙ comment-end (get_or s end 0) (drop (end + 1) s) end T.closes

-- one that never ends is refused at the input's length
pub unclosed-refused : {s : List ℕ} {at : ℕ} → Open s at (length s) → white s at ≡ wrong 22 (length s)
unfolding comment_at
unclosed-refused {s} {at} O =
    let h = O.hash in
    let l = there s at (λ z. omega arith) in
    open-reads O (omega arith) (omega arith) ∙ ap (λ (x : List ℕ). comment_at x (length s)) (drop_of_length-le s {i = length s} (omega arith))

-- a comment is the same one in a gap: `mix` goes on where it ends
pub comment-once : (l : List ℕ) (at : ℕ) {i : ℕ} → comment_at l at ≡ good i → mix true l at ≡ mix false (drop (i - at) l) i
unfolding comment_at
comment-once [] at {i} e = let z : ◌≡◌ {A = ℕ} 0 1 = cc in absurd (omega arith)
comment-once (b ∷ l) at {i} e = by (is_end b) refl (comment-once l (at + 1))
  where
    by : (t : Bool) → is_end b ≡ t → (comment_at l (at + 1) ≡ good i → mix true l (at + 1) ≡ mix false (drop (i - (at + 1)) l) i) → mix true (b ∷ l) at ≡ mix false (drop (i - at) (b ∷ l)) i
    by true t h =
        let n : at + 1 ≡ i = let x = sym (comment-end b l at t) ∙ e in cc in
        let m : suc 0 ≡ i - at = omega arith in
        mix-in b l at ∙ ap (λ (x : Bool). mix (not x) l (at + 1)) t ∙ (λ j. mix false (drop (m j) (b ∷ l)) (n j))
    by false t h =
        let c = sym (comment-more b l at t) ∙ e in
        let k = (subst (Ends l (at + 1)) c (comment-ends l (at + 1))).0 in
        let m : suc (i - (at + 1)) ≡ i - at = omega arith in
        mix-in b l at ∙ ap (λ (x : Bool). mix (not x) l (at + 1)) t ∙ h c ∙ ap (λ (x : ℕ). mix false (drop x (b ∷ l)) i) m
