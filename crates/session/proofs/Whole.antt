-- What `run` printed for the bytes that it reads is the session.
use mathlib.Core.Path.{◌≡◌, ap, ◌∙◌}
use mathlib.Core.List.{List, ◌++◌}
use Prim.Native.Nat.{ℕ, ◌*◌, ◌≤◌, min}
use native.Mathlib.Nat.{zero-add}
use native.Mathlib.Omega.{arith}
use lib.ListN.{length, take, drop, length-take}
use lib.Seq.{sets, sets-eq}
use Rattle.std.proofs.Math.Nat.{min_comm}
use Rattle.std.proofs.lemmas.List.{take_min}
use Rattle.rules.specs.Session.{bytes_read, lines, replies, session}
use Rattle.text.specs.declared.Writer.{Writer}
use Rattle.answer.specs.Wrote.{Wrote}
use Rattle.session.specs.Printing.{Ran}

pub ran : {input : List ℕ} {count : ℕ} {first after : Writer} → Wrote (5 * length (take count input)) first (replies (lines (take count input))) after → first.at ≡ 0 → 327680 ≤ length first.out.now
    → count ≡ min (length input) 65536 → Ran input first.out.now after.out.now after.at
unfolding session
ran {input} {count} {first} W zero room c =
    let out = first.out.now in
    let e : take count input ≡ bytes_read input = ap (λ (n : ℕ). take n input) (c ∙ min_comm (length input) 65536) ∙ take_min 65536 input in
    let S = session input in
    let same = ap (λ (t : List ℕ). replies (lines t)) e in
    let few = W.few in
    let long = ap length same in
    let size = ap length e in
    let most = length-take 65536 input in
    let start = zero-add (length S) in
    record {
      promise = record {
        prints = W.put.is ∙ (λ i. sets out (zero i) (same i)) ∙ sets-eq S out 0 (omega arith) ∙ ap (λ (n : ℕ). S ++ drop n out) start;
        counted = let p = W.put.past in omega arith;
      };
      bound = let p = W.put.past in omega arith;
    }
