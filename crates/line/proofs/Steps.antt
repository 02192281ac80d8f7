-- What is read of a line, step by step: a step that finds nothing ends the whole, and one that finds something goes on with the other fields.
use mathlib.Core.Path.{◌≡◌, refl, sym, ap, subst, ◌∙◌}
use mathlib.Core.Logic.{inl, inr}
use mathlib.Core.List.{List, [], ◌∷◌}
use Prim.Native.Nat.{ℕ, ◌+◌, ◌-◌}
use native.Mathlib.Omega.{arith}
use lib.IntN.{ℤ}
use lib.ListN.{length, take, drop, length-drop}
use lib.Seq.{take_all}
use mir.Syntax.{w32}
use mir.Val.{SFits, to_z, of_z}
use mir.Facts.{to_z-of_z}
use Rattle.std.proofs.Common.{Bor}
use Rattle.std.specs.Prelude.{Option, Some, None}
use Rattle.std.specs.Slice.{IsGetRangeResult}
use Rattle.rules.specs.Answers.{Line}
use Rattle.rules.specs.Session.{fields, always, if_whole, next}
use Rattle.line.specs.declared.Fields.{Fields}
use Rattle.line.specs.Reading.{PartEnds, NumberRead, Reading, then_read, no_more, fields_of, going-on, Reads}

pub nothing : {A : Type 0} {reading : Reading A} {s t u : Fields} {r : Option A} → Reads reading s None t → r ≡ None → Reads reading s r u
nothing {reading} {s} {u} N e = subst (λ (o : Option _). Reads reading s o u) (sym e) (record { is = N.is })

module _ {A B : Type 0} {first : Reading A} (second : A → Reading B) {s t : Fields} where
  pub stops : Reads first s None t → Reads (then_read first second) s None t
  unfolding then_read
  stops F = record { is = λ k. F.is (λ a others. second a others k) }

  pub goes_on : {u : Fields} {a : A} {q : Option B} → Reads first s (Some a) t → Reads (second a) t q u → Reads (then_read first second) s q u
  unfolding then_read
  goes_on F G = record { is = λ k. F.is (λ a others. second a others k) ∙ G.is k }

-- a number's bits say the number
pub goes_on_number : {B : Type 0} (second : ℤ → Reading B) {s t u : Fields} {z : ℤ} {q : Option B} → Reads next s (Some z) t → SFits w32 z → Reads (second (to_z w32 (of_z w32 z))) t q u → Reads (then_read next second) s q u
goes_on_number second {t} {u} {z} {q} F f G = goes_on second F (subst (λ (x : ℤ). Reads (second x) t q u) (to_z-of_z f) G)

pub ends : {A : Type 0} {a : A} {s : Fields} → Reads (no_more a) s (Some a) s
unfolding no_more
ends = record { is = λ k. refl }

-- ---- one number: the first field, and what is behind it
same : (r : Option ℤ) (k : ℤ → Line) → if_whole r k ≡ going-on r k
same None k = refl
same (Some z) k = refl

pub over : {s u : Fields} {r : Option ℤ} → s.rest ≡ None → r ≡ None → Reads next s r u
unfolding next
over {s} e n = nothing {t = s} (record { is = λ k. ap (λ (o : Option (Bor (List ℕ))). next (fields_of o) k) e }) n

module _ {text : List ℕ} {end : ℕ} (F : PartEnds text 0 32 end) where
  begun : take (end - 0) (drop 0 text) ≡ take end text
  begun = ap (λ (n : ℕ). take n text) (omega arith)

  others : (more : Option (Bor (List ℕ))) → IsGetRangeResult text (end + 1) (length text) more → fields text ≡ take end text ∷ fields_of more
  others None (inl h, _) = F.at-end (omega arith) always ∙ ap (λ (p : List ℕ). p ∷ []) begun
  others None (inr h, _) = absurd (omega arith)
  others (Some x) ((low, most, is, size), _) =
      let all = take_all (length text - (end + 1)) (drop (end + 1) text) (simp length-drop (omega arith)) in
      F.at_mark (omega arith) always ∙ ap (λ (p : List ℕ). p ∷ fields (drop (end + 1) text)) begun ∙ ap (λ (t : List ℕ). take end text ∷ fields t) (sym (is ∙ all))

  pub first_number : {s : Fields} {rest : Bor (List ℕ)} {more : Option (Bor (List ℕ))} {r : Option ℤ}
      → s.rest ≡ Some rest → rest.now ≡ text → IsGetRangeResult text (end + 1) (length text) more → NumberRead (take end text) r → Reads next s r (record { rest = more })
  unfolding next
  first_number {more} {r} e f G N = record {
    is = λ k.
        ap (λ (o : Option (Bor (List ℕ))). next (fields_of o) k) e
        ∙ ap (λ (t : List ℕ). next (fields t) k) f
        ∙ ap (λ (fs : List (List ℕ)). next fs k) (others more G)
        ∙ ap (λ (n : Option ℤ). if_whole n (λ z. k z (fields_of more))) (sym N.is)
        ∙ same r (λ z. k z (fields_of more));
  }
