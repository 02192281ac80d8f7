-- Each way out of the search for an image's rows: the definition goes the same way.
use Rattle.std.specs.Prelude.{◌≡◌, ◌&&◌, List, ℕ, ◌+◌, ◌≤◌, ◌<◌, length, eqb, leb, Ok, Err, ◌⊎◌}
use Rattle.std.proofs.Common.{inl, inr, sym, ap, ◌∙◌, eq-eqb, ne_eqb, le-leb}
use Rattle.std.proofs.lemmas.Bool.{lt-leb}
use Rattle.integers.specs.Tests.{both, not_first, not-second}
use Rattle.rules.specs.declared.RefusedStack.{RefusedStack}
use Rattle.rules.specs.Solids.{slice_bytes}
use Rattle.rules.specs.P4.{Judged, good, wrong, ◌>>=◌, judge, image_at}
use Rattle.p4_laws.specs.Judging.{on, off, pass, fail}
use Rattle.p4_laws.specs.Headers.{header-in}
use Rattle.stack.specs.Bytes.{SliceBytes}
use Rattle.p4_header.specs.declared.Header.{Header}
use Rattle.p4_header.specs.Reads.{HeaderIs}
use Rattle.p4_read.specs.Images.{ImageIs}

pub refused : {A : Type 0} {x : RefusedStack} {n p : ℕ} → x ≡ record { number = n; value = p } → ◌≡◌ {A = Judged A} (wrong x.number x.value) (wrong n p)
refused q = ap (λ (x : RefusedStack). wrong x.number x.value) q

pub rows_inside : {s : List ℕ} {at : ℕ} {r : Header} → HeaderIs s at (Ok r) → r.next ≤ length s
rows_inside {s} {at} H = (header-in s at (sym H.is)).inside

module _ (w h : ℕ) {s : List ℕ} {at : ℕ} where
  pub rows_none : {x : RefusedStack} → HeaderIs s at (Err x) → ImageIs w h s at (Err x)
  unfolding image_at
  rows_none H = record { is = sym (off _ (sym H.is)) }

  module _ {r : Header} (H : HeaderIs s at (Ok r)) where
    sized : image_at w h s at ≡ (judge (eqb r.width w && eqb r.height h) 24 at >>= λ _. judge (leb (r.next + slice_bytes w h) (length s)) 25 (length s) >>= λ _. good r.next)
    unfolding image_at
    sized = on _ (sym H.is)

    pub rows-other : (r.width ≡ w → ⊥) ⊎ ((r.width ≡ w) × (r.height ≡ h → ⊥)) → {x : RefusedStack} → x ≡ record { number = 24; value = at } → ImageIs w h s at (Err x)
    rows-other (inl n) q = record { is = refused q ∙ sym (sized ∙ fail 24 at _ (not_first _ (ne_eqb r.width w n))) }
    rows-other (inr (_, n)) q = record { is = refused q ∙ sym (sized ∙ fail 24 at _ (not-second (eqb r.width w) (ne_eqb r.height h n))) }

    module _ (p : r.width ≡ w) (q : r.height ≡ h) {z : ℕ} (Z : SliceBytes w h z) where
      alike : image_at w h s at ≡ (judge (leb (r.next + z) (length s)) 25 (length s) >>= λ _. good r.next)
      alike =
          sized
          ∙ pass 24 at _ (both (eq-eqb r.width w p) (eq-eqb r.height h q))
          ∙ ap (λ (x : ℕ). judge (leb (r.next + x) (length s)) 25 (length s) >>= λ _. good r.next) (sym Z.is)

      pub rows_short : length s < r.next + z → {x : RefusedStack} → x ≡ record { number = 25; value = length s } → ImageIs w h s at (Err x)
      rows_short l u = record { is = refused u ∙ sym (alike ∙ fail 25 (length s) _ (lt-leb (r.next + z) (length s) l)) }

      pub rows-there : r.next + z ≤ length s → ImageIs w h s at (Ok r.next)
      rows-there l = record { is = sym (alike ∙ pass 25 (length s) _ (le-leb (r.next + z) (length s) l)) }
