-- Laws of bytes written one after another: two writes in a row are one write of both, so a caller needs only the first write's place.
use Rattle.std.specs.Prelude.{◌≡◌, List, [], ◌∷◌, ◌++◌, ℕ, suc, ◌+◌, ◌<◌, length, get_or, take, set}
use Rattle.std.proofs.Common.{sym, ap, subst, ◌∙◌, arith, length-append}
use Rattle.std.proofs.lemmas.List.Edits.{sets}
use Rattle.std.proofs.lemmas.List.{take_more}
use Rattle.std.proofs.Math.Seq.{length-sets, length-take-le}
use Rattle.text.specs.declared.Writer.{Writer}
use Rattle.text.specs.Put.{Room, Put}

pub sets-append : (l : List ℕ) (i : ℕ) (a b : List ℕ) → sets l i (a ++ b) ≡ sets (sets l i a) (i + length a) b
sets-append l i [] b = ap (λ (k : ℕ). sets l k b) (omega arith)
sets-append l i (x ∷ a) b = sets-append (set l i x) (suc i) a b ∙ ap (λ (k : ℕ). sets (sets (set l i x) (suc i) a) k b) (omega arith)

-- a byte more of a run
pub sets_more : (l bytes : List ℕ) (at i : ℕ) → i < length bytes → set (sets l at (take i bytes)) (at + i) (get_or bytes i 0) ≡ sets l at (take (i + 1) bytes)
sets_more l bytes at i h =
    let b = get_or bytes i 0 in
    sym (ap (sets l at) (take_more bytes i 0 h)
    ∙ sets-append l at (take i bytes) (b ∷ [])
    ∙ ap (λ (k : ℕ). set (sets l at (take i bytes)) (at + k) b) (length-take-le i bytes (omega arith)))

pub put_then : {u v w : Writer} {a b : List ℕ} → Put u a v → Put v b w → Put u (a ++ b) w
put_then {u} {a = a} {b = b} p q = record {
  is = q.is ∙ (λ i. sets (p.is i) (p.past i) b) ∙ sym (sets-append u.out.now u.at a b);
  past = let x = p.past in let y = q.past in simp length-append (omega arith);
  lent = q.lent ∙ p.lent;
}

-- the same bytes by another name
pub put_as : {u v : Writer} {a b : List ℕ} → a ≡ b → Put u a v → Put u b v
put_as {u} {v} e p = subst (λ (x : List ℕ). Put u x v) e p

pub put-length : {u v : Writer} {a : List ℕ} → Put u a v → length v.out.now ≡ length u.out.now
put-length {u} {a = a} p = ap length p.is ∙ length-sets u.out.now u.at a

-- ---- room
pub room-first : {u : Writer} (a b : List ℕ) → Room u (a ++ b) → Room u a
room-first a b r = record { fits = let h = r.fits in omega (arith, length-append a b) }

pub room-then : {u v : Writer} {a : List ℕ} (b : List ℕ) → Room u (a ++ b) → Put u a v → Room v b
room-then {a = a} b r p = record { fits = let h = r.fits in let e = put-length p in let q = p.past in omega (arith, length-append a b) }

pub room_as : {u : Writer} {a b : List ℕ} → a ≡ b → Room u b → Room u a
room_as {u} e r = subst (λ (x : List ℕ). Room u x) (sym e) r
