-- The loop of `put_replies`: the replies to the lines that are left, laid over what is written, give the whole.
use mathlib.Core.Path.{◌≡◌, refl, sym, ap, subst, ◌∙◌}
use mathlib.Core.Bool.{Bool, true, false}
use mathlib.Core.Logic.{◌≢◌}
use mathlib.Core.List.{List, [], ◌∷◌, ◌++◌}
use Prim.Native.Nat.{ℕ, ◌+◌, ◌-◌, ◌*◌, ◌≤◌, ◌<◌, min}
use native.Mathlib.Omega.{arith}
use lib.Dec.{eqb, ltb}
use lib.ListN.{length, take, drop, length-append, length-take, length-drop, drop_of_length-le}
use lib.Seq.{sets, take_all}
use borrow.Author.Tests.{ltb-true, ltb-false}
use Rattle.std.proofs.lemmas.Bool.{eqb-true, eqb-false}
use Rattle.rules.specs.Session.{parts, if_not_empty, lines, question, reply, replies}
use Rattle.text.specs.declared.Writer.{Writer}
use Rattle.text.specs.Puts.{sets-append}
use Rattle.line.specs.Reading.{PartEnds}
use Rattle.answer.specs.Wrote.{Wrote}
use Rattle.session.specs.Printing.{Replied}

pub record Replying (first : Writer) (text : List ℕ) (out : Writer) (rest : List ℕ) : Type 0 where
  pub kept : length out.out.now ≡ length first.out.now
  pub lent : out.out.ghost_name ≡ first.out.ghost_name
  pub room : out.at + 5 * length rest ≤ first.at + 5 * length text
  pub same : sets out.out.now out.at (replies (lines rest)) ≡ sets first.out.now first.at (replies (lines text))
  pub total : out.at + length (replies (lines rest)) ≡ first.at + length (replies (lines text))

-- ---- the next line, up to a LF or up to the end, and the text behind it
record Next (text line behind : List ℕ) : Type 0 where
  split : lines text ≡ line ∷ lines behind
  forward : length behind < length text
  covers : length line + length behind ≤ length text

not-empty : (line : List ℕ) → 1 ≤ length line → if_not_empty line ≡ line ∷ []
not-empty [] h = absurd (omega arith)
not-empty (b ∷ more) h = refl

next-line : {text : List ℕ} {end : ℕ} → 1 ≤ length text → PartEnds text 0 10 end → Next text (take end text) (drop (min (length text) (end + 1)) text)
unfolding parts
next-line {text} {end} some F = by (ltb end (length text)) refl
  where
    begun : take (end - 0) (drop 0 text) ≡ take end text
    begun = ap (λ (n : ℕ). take n text) (omega arith)

    long : length (take end text) ≡ min end (length text)
    long = length-take end text

    by : (t : Bool) → ltb end (length text) ≡ t → Next text (take end text) (drop (min (length text) (end + 1)) text)
    by true e =
        let h = ltb-true end (length text) e in
        let cut : end + 1 ≡ min (length text) (end + 1) = omega arith in
        let l = length-drop (min (length text) (end + 1)) text in
        let n = long in
        record {
          split =
              F.at_mark h if_not_empty
              ∙ ap (λ (p : List ℕ). p ∷ lines (drop (end + 1) text)) begun
              ∙ ap (λ (n : ℕ). take end text ∷ lines (drop n text)) cut;
          forward = omega arith;
          covers = omega arith;
        }
    by false e =
        let h = ltb-false end (length text) e in
        let none : drop (min (length text) (end + 1)) text ≡ [] = drop_of_length-le text (omega arith) in
        let l = length-drop (min (length text) (end + 1)) text in
        let n = long in
        let w = F.within in
        record {
          split =
              F.at-end h if_not_empty
              ∙ ap if_not_empty begun
              ∙ not-empty (take end text) (omega arith)
              ∙ ap (λ (t : List ℕ). take end text ∷ lines t) (sym none);
          forward = omega arith;
          covers = omega arith;
        }

module _ {first out : Writer} {text rest : List ℕ} {end : ℕ} (R : Replying first text out rest) {t : Bool} (e : t ≡ eqb (length rest) 0) (not : t ≡ false) (F : PartEnds rest 0 10 end) where
  next : Next rest (take end rest) (drop (min (length rest) (end + 1)) rest)
  next = let some : length rest ≢ 0 = eqb-false (length rest) 0 (sym e ∙ not) in next-line (omega arith) F

  pub replying-more : {after : Writer} {behind : ℕ} → behind ≡ min (length rest) (end + 1) → Replied out (take end rest) after → Replying first text after (take (length rest - behind) (drop behind rest))
  unfolding replies
  replying-more {after} {behind} cut P =
      let N = next in
      let line = take end rest in
      let last = drop (min (length rest) (end + 1)) rest in
      let W = P.wrote in
      let split : replies (lines rest) ≡ reply (question line) ++ replies (lines last) = ap replies N.split in
      let all : last ≡ take (length rest - behind) (drop behind rest) =
      ap (λ (n : ℕ). drop n rest) (sym cut) ∙ sym (take_all (length rest - behind) (drop behind rest) (simp length-drop (omega arith))) in
      subst (Replying first text after) all (record {
        kept = W.kept ∙ R.kept;
        lent = W.put.lent ∙ R.lent;
        room = let a = N.forward in let c = N.covers in let r = R.room in let p = W.put.past in let few = W.few in omega arith;
        same = (λ i. sets (W.put.is i) (W.put.past i) (replies (lines last))) ∙ sym (sets-append out.out.now out.at (reply (question line)) (replies (lines last))) ∙ ap (sets out.out.now out.at) (sym split) ∙ R.same;
        total = let t = R.total in let p = W.put.past in let s = ap length split in let l = length-append (reply (question line)) (replies (lines last)) in omega arith;
      })

no_lines : (rest : List ℕ) → length rest ≡ 0 → lines rest ≡ []
unfolding parts
no_lines [] z = refl
no_lines (b ∷ more) z = absurd (omega arith)

pub replying-ends : {first out : Writer} {text rest : List ℕ} {t : Bool} → Replying first text out rest → t ≡ eqb (length rest) 0 → t ≡ true → Wrote (5 * length text) first (replies (lines text)) out
unfolding replies parts
replying-ends {out} {rest} R e over =
    let z = eqb-true (length rest) 0 (sym e ∙ over) in
    let none : replies (lines rest) ≡ [] = ap replies (no_lines rest z) in
    let t = R.total in
    let n = ap length none in
    let r = R.room in
    record {
      put = record { is = ap (sets out.out.now out.at) (sym none) ∙ R.same; past = omega arith; lent = R.lent };
      kept = R.kept;
      few = omega arith;
    }
