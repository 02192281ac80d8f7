-- The white space that a header requires, by the byte that stands there: white space is passed over, a # begins a comment (document 02's 2026-02),
-- anything else is refused. A comment ends inside the input or is refused at its length.
use Rattle.std.specs.Prelude.{◌≡◌, refl, Bool, true, List, [], ◌∷◌, ℕ, ◌+◌, ◌≤◌, ◌<◌, leb, eqb, length, get_or, drop}
use Rattle.std.proofs.Common.{sym, subst, arith, eq-eqb, ne_eqb, leb-true, leb-false, eqb-true}
use Rattle.std.proofs.Math.Path.{ap}
use Rattle.std.proofs.Math.Bool.{false}
use Rattle.std.proofs.Math.ListN.{get_or-eq_default}
use Rattle.std.proofs.lemmas.Bool.{eqb-false}
use Rattle.rules.specs.P4.{Judged, good, wrong, is_end, is_white, comment_at, white}
use Rattle.p4_laws.specs.Judging.{pass, fail}
use Rattle.p4_laws.specs.Scans.{comment-end, comment-more}

pub data Byte (b : ℕ) : Type 0 where
  is_space : is_white b ≡ true → Byte b
  is_hash : b ≡ 35 → Byte b
  is_other : is_white b ≡ false → (b ≡ 35 → ⊥) → Byte b

pub byte : (b : ℕ) → Byte b
byte b = by (is_white b) (eqb b 35) refl refl
  where
    by : (t u : Bool) → is_white b ≡ t → eqb b 35 ≡ u → Byte b
    by true u e f = is_space e
    by false true e f = is_hash (eqb-true b 35 f)
    by false false e f = is_other e (eqb-false b 35 f)

-- behind the end stands 0
pub there : (s : List ℕ) (at : ℕ) → (get_or s at 0 ≡ 0 → ⊥) → at < length s
there s at n = by (leb (length s) at) refl
  where
    by : (t : Bool) → leb (length s) at ≡ t → at < length s
    by true e = absurd (n (get_or-eq_default s 0 (leb-true (length s) at e)))
    by false e = leb-false (length s) at e

-- ---- what is read there
module _ (s : List ℕ) (at : ℕ) where
  -- a white space byte, as document 01 has it
  pub space-reads : is_white (get_or s at 0) ≡ true → white s at ≡ good (at + 1)
  unfolding white
  space-reads e = rw (e, white)

  -- neither that nor a #
  pub other-refused : is_white (get_or s at 0) ≡ false → (get_or s at 0 ≡ 35 → ⊥) → white s at ≡ wrong 22 at
  unfolding white
  other-refused e n = rw (e, white) (fail 22 at _ (ne_eqb (get_or s at 0) 35 n))

  -- a #: the comment is read, and its own laws go on from here
  pub comment-reads : get_or s at 0 ≡ 35 → white s at ≡ comment_at (drop at s) at
  unfolding white is_white is_end
  comment-reads h = let e : is_white (get_or s at 0) ≡ false = ap is_white h in rw (e, white) (pass 22 at _ (eq-eqb (get_or s at 0) 35 h))

-- ---- a comment ends inside, behind its first byte, or is refused where the bytes end
abbrev pub Ends : List ℕ → ℕ → Judged ℕ → Type 0
Ends l at (good i) = (at < i) × (i ≤ at + length l)
Ends l at (wrong number place) = place ≡ at + length l

one_further : (b : ℕ) (l : List ℕ) (at : ℕ) (x : Judged ℕ) → Ends l (at + 1) x → Ends (b ∷ l) at x
one_further b l at (good i) h = let x = h.0 in let y = h.1 in (omega arith, omega arith)
one_further b l at (wrong n p) h = omega arith

pub comment-ends : (l : List ℕ) (at : ℕ) → Ends l at (comment_at l at)
unfolding comment_at
comment-ends [] at = omega arith
comment-ends (b ∷ l) at = by (is_end b) refl (comment-ends l (at + 1))
  where
    by : (t : Bool) → is_end b ≡ t → Ends l (at + 1) (comment_at l (at + 1)) → Ends (b ∷ l) at (comment_at (b ∷ l) at)
    by true e h = subst (Ends (b ∷ l) at) (sym (comment-end b l at e)) (omega arith, omega arith)
    by false e h = subst (Ends (b ∷ l) at) (sym (comment-more b l at e)) (one_further b l at (comment_at l (at + 1)) h)
