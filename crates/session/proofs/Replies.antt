-- Each way out of `put_reply`.
use mathlib.Core.Path.{◌≡◌, sym, ap, subst, ◌∙◌}
use mathlib.Core.List.{List, [], ◌∷◌}
use Prim.Native.Nat.{ℕ}
use native.Mathlib.Omega.{arith}
use Rattle.rules.specs.declared.Question.{Question}
use Rattle.rules.specs.Answers.{Line, Pick}
use Rattle.std.specs.Prelude.{Some as Asks, None as OtherForm}
use Rattle.rules.specs.Session.{question, told, reply}
use Rattle.text.specs.declared.Writer.{Writer}
use Rattle.text.specs.Put.{Put}
use Rattle.text.specs.Puts.{put-length}
use Rattle.line.specs.Reading.{LineRead}
use Rattle.answer.specs.Wrote.{Space, Wrote}
use Rattle.session.specs.Printing.{Answers, most, ReplyRoom, Replied}
use Rattle.session.specs.Lengths.{asks-long}

module _ {line : List ℕ} {l : Line} (L : LineRead line l) where
  pub answer-space : {out : Writer} {q : Question} → l ≡ Asks q → ReplyRoom out line → Space 71 out
  answer-space {q} e R = record { enough = let h = asks-long line q (sym L.is ∙ e) in let s = R.space in omega arith }

  pub replies-answer : {out after : Writer} {q : Question} {a : Pick} → l ≡ Asks q → Answers q a → Wrote 71 out (told a) after → Replied out line after
  unfolding reply
  replies-answer {out} {after} {q} {a} e A W =
      let asked = sym L.is ∙ e in
      let long = asks-long line q asked in
      let bytes : told a ≡ reply (question line) = ap told A.is ∙ ap reply (sym asked) in
      record {
        wrote = subst (λ (b : List ℕ). Wrote (most line) out b after) bytes (record { put = W.put; kept = W.kept; few = let h = W.few in omega arith });
      }

  pub replies-other : {out after : Writer} → l ≡ OtherForm → Put out (66 ∷ 10 ∷ []) after → Replied out line after
  unfolding reply
  replies-other e P = record { wrote = rw (sym L.is ∙ e) (record { put = P; kept = put-length P; few = omega arith }) }
