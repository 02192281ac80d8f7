-- Both round trips over the definitions, and what an answer of the reader or the writer tells.
use Rattle.std.specs.Prelude.{◌≡◌, refl, true, List, [], ◌++◌, ℕ, ◌≤◌, leb, ℤ, nat_abs, take, drop}
use Rattle.std.proofs.Common.{sym, subst, ◌∙◌, arith, length-append, take_at, le-leb}
use Rattle.std.proofs.Math.Path.{ap}
use Rattle.std.proofs.Math.ListN.{length}
use Rattle.rules.specs.declared.Vector.{Vector}
use Rattle.rules.specs.declared.Stack.{Stack}
use Rattle.rules.specs.declared.Solid.TheVariants.{Stack as IsStack}
use Rattle.rules.specs.Answers.{Reading, Writing}
use Rattle.std.specs.Prelude.{Ok as Read, Ok as Written}
use Rattle.rules.specs.Solids.{stack_bytes, permitted_stack}
use Rattle.rules.specs.Pick.{pick_of}
use Rattle.rules.specs.P4.{Judged, good, wrong, Contents, contents, reading, read_answer, stored, sizes, plain, writing, write_answer, ReadPromise, WritePromise}
use Rattle.stack.specs.Sides.{sized, stack_is, permits, permitted-too}
use Rattle.p4_laws.specs.Judging.{on, pass, made, passed}
use Rattle.p4_laws.specs.Plain.{slices-front, slices-rows}
use Rattle.p4_laws.specs.Images.{ReadHolds, read-holds}
use Rattle.p4_laws.specs.ReadBack.{stack-reads}
use Rattle.p4_laws.specs.Looks.{stack_rows, rows-bytes, rows-look, pick_same}

-- ---- written and read back

module _ (k : Stack) (bytes : List ℕ) (e : permitted_stack k bytes ≡ true) where
  -- the plain form reads back as the same sizes and the same rows
  pub plain-reads : contents (plain k bytes) ≡ good (record { stack = k; bytes = stack_rows k bytes })
  unfolding plain stack_rows stack_bytes
  plain-reads =
      let s = (sized e).of in
      stack-reads (nat_abs k.width) (nat_abs k.height) s.wide.side s.high.side (nat_abs k.depth) bytes s.deep.side (sized e).enough
      ∙ ap (λ (x : Stack). good (record { stack = x; bytes = stack_rows k bytes })) (sym (stack_is s))

  -- and is the plain form of these rows
  pub plain_rows : plain k (stack_rows k bytes) ≡ plain k bytes
  unfolding plain stack_rows stack_bytes
  plain_rows = slices-rows (nat_abs k.width) (nat_abs k.height) (sized e).of.wide.side.some (nat_abs k.depth) bytes (sized e).enough

  rows-permitted : (behind : List ℕ) → permitted_stack k (stack_rows k bytes ++ behind) ≡ true
  rows-permitted behind = let n = rows-bytes k bytes e in permitted-too k bytes (stack_rows k bytes ++ behind) e (simp length-append (omega arith))

  -- these have the same voxels, so every pick is the same pick
  pub rows-pick : (behind : List ℕ) (p : Vector) (frame reach : ℤ) → pick_of (IsStack k) (stack_rows k bytes ++ behind) p frame reach ≡ pick_of (IsStack k) bytes p frame reach
  rows-pick behind = pick_same k bytes (stack_rows k bytes ++ behind) (rows-permitted behind ∙ sym e) (rows-look k bytes e behind)

-- ---- read and written out
module _ (s : List ℕ) {c : Contents} (e : contents s ≡ good c) where
  sure : ReadHolds c
  sure = read-holds s e

  in_stack : (P : Stack → Type 0) → P (sizes sure.w sure.h sure.d) → P c.stack
  in_stack P x = subst P (sym sure.stack_is) x

  pub read-bytes : length c.bytes ≡ stack_bytes c.stack
  unfolding stack_bytes
  read-bytes = in_stack (λ k. length c.bytes ≡ stack_bytes k) sure.many

  -- what is read is permitted, with any bytes behind it
  pub read-permitted : (behind : List ℕ) → permitted_stack c.stack (c.bytes ++ behind) ≡ true
  read-permitted behind =
      let n = sure.many in
      in_stack (λ k. permitted_stack k (c.bytes ++ behind) ≡ true)
      (permits (c.bytes ++ behind) sure.sides (simp length-append (omega arith)))

  -- it is written out in its plain form, whatever stands behind it
  pub read_plain : (behind : List ℕ) → plain c.stack (c.bytes ++ behind) ≡ plain c.stack c.bytes
  unfolding plain
  read_plain behind =
      let n = sure.many in
      in_stack (λ k. plain k (c.bytes ++ behind) ≡ plain k c.bytes) (slices-front sure.w sure.h sure.sides.wide.some sure.d c.bytes behind (omega arith))

  rows-clean : stack_rows c.stack c.bytes ≡ c.bytes
  unfolding stack_rows
  rows-clean = in_stack (λ k. stack_rows k c.bytes ≡ c.bytes) sure.clean

  -- and reading that gives the same sizes and rows
  pub read_again : contents (plain c.stack c.bytes) ≡ good c
  read_again =
      let n = read-bytes in
      plain-reads c.stack c.bytes (permitted-too c.stack (c.bytes ++ []) c.bytes (read-permitted []) (omega arith))
      ∙ ap (λ (x : List ℕ). good (record { stack = c.stack; bytes = x })) rows-clean

-- ---- from promise to promise

-- what an accepting answer tells
pub record Accepted (s before after : List ℕ) (k : Stack) : Type 0 where
  pub bytes : List ℕ
  pub is : contents s ≡ good (record { stack = k; bytes = bytes })
  pub leaves : after ≡ bytes ++ drop (length bytes) before

pub read-accepted : {s before after : List ℕ} {k : Stack} → ReadPromise s before after (Read k) → Accepted s before after k
unfolding read_answer stored reading
read-accepted {s} {before} {after} {k} R = by (reading s (length before)) refl
  where
    by : (x : Judged Contents) → reading s (length before) ≡ x → Accepted s before after k
    by (wrong n p) q = let y = R.answers ∙ ap read_answer q in let z : ◌≡◌ {A = ℕ} 0 1 = cc in absurd (omega arith)
    by (good c) q =
        let y = R.answers ∙ ap read_answer q in
        let k-is : c.stack ≡ k = cc in
        let m = made _ (contents s) q in
        let p = passed 27 (stack_bytes m.0.stack) (λ _. good m.0) (leb (stack_bytes m.0.stack) (length before)) m.2 in
        let c-is : m.0 ≡ c = let x = p.1 in cc in
        record {
          bytes = c.bytes;
          is = m.1 ∙ ap good (c-is ∙ (λ i. record { stack = k-is i; bytes = c.bytes }));
          leaves = R.leaves ∙ ap (λ (x : Judged Contents). stored (λ f. f.bytes) x before) q;
        }

-- and that a stack with room for it is accepted
pub read-accepts : {s before after : List ℕ} {r : Reading} {c : Contents} → contents s ≡ good c → stack_bytes c.stack ≤ length before → ReadPromise s before after r
    → (r ≡ Read c.stack) × (after ≡ c.bytes ++ drop (length c.bytes) before)
unfolding read_answer stored reading
read-accepts {s} {before} {c = c} e l R =
    let q : reading s (length before) ≡ good c = on _ e ∙ pass 27 (stack_bytes c.stack) _ (le-leb (stack_bytes c.stack) (length before) l) in
    (R.answers ∙ ap read_answer q, R.leaves ∙ ap (λ (x : Judged Contents). stored (λ f. f.bytes) x before) q)

pub record Wrote (k : Stack) (bytes before after : List ℕ) (n : ℕ) : Type 0 where
  pub permitted : permitted_stack k bytes ≡ true
  pub front : take n after ≡ plain k bytes
  pub inside : n ≤ length after

pub write-accepted : {k : Stack} {bytes before after : List ℕ} {n : ℕ} → WritePromise k bytes before after (Written n) → Wrote k bytes before after n
unfolding write_answer stored writing
write-accepted {k} {bytes} {before} {after} {n} W = by (writing k bytes (length before)) refl
  where
    by : (x : Judged (List ℕ)) → writing k bytes (length before) ≡ x → Wrote k bytes before after n
    by (wrong m p) q = let y = W.answers ∙ ap write_answer q in let z : ◌≡◌ {A = ℕ} 0 1 = cc in absurd (omega arith)
    by (good l) q =
        let y = W.answers ∙ ap write_answer q in
        let n-is : n ≡ length l = cc in
        let a = passed 3 0 _ (permitted_stack k bytes) q in
        let b = passed 27 (length (plain k bytes)) (λ _. good (plain k bytes)) (leb (length (plain k bytes)) (length before)) a.1 in
        let l-is : l ≡ plain k bytes = let x = b.1 in cc in
        let v = W.leaves ∙ ap (λ (x : Judged (List ℕ)). stored (λ f. f) x before) q in
        let m = ap length v ∙ length-append l (drop (length l) before) in
        record { permitted = a.0; front = ap (take n) v ∙ take_at l (drop (length l) before) n (sym n-is) ∙ l-is; inside = omega arith }

pub write-accepts : {k : Stack} {bytes before after : List ℕ} {r : Writing} → permitted_stack k bytes ≡ true → length (plain k bytes) ≤ length before → WritePromise k bytes before after r
    → r ≡ Written (length (plain k bytes))
unfolding write_answer writing
write-accepts {k} {bytes} {before} e l W =
    let q : writing k bytes (length before) ≡ good (plain k bytes) = pass 3 0 _ e ∙ pass 27 (length (plain k bytes)) _ (le-leb (length (plain k bytes)) (length before) l) in
    W.answers ∙ ap write_answer q
