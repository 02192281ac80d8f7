-- The front door to P4 stacks: what their promises settle, and both round trips, over the definitions and from promise to promise.
use Rattle.std.specs.Prelude.{◌≡◌, refl, true, List, ◌++◌, ℕ, ◌≤◌, ℤ, length, get_or, take, drop}
use Rattle.std.proofs.Common.{sym, ap, subst, ◌∙◌, take_at, drop_at}
use Rattle.rules.specs.declared.Vector.{Vector}
use Rattle.rules.specs.declared.Stack.{Stack}
use Rattle.rules.specs.declared.Solid.TheVariants.{Stack as IsStack}
use Rattle.rules.specs.Answers.{Reading, Writing}
use Rattle.std.specs.Prelude.{Ok as Read, Ok as Written}
use Rattle.rules.specs.Solids.{stack_bytes, permitted_stack, look}
use Rattle.rules.specs.Pick.{pick_of}
use Rattle.rules.specs.P4.{good, wrong, Contents, contents, plain, ReadPromise, WritePromise}
use Rattle.p4_laws.specs.Places.{placed}
use Rattle.p4_laws.specs.Looks.{stack_rows, rows-bytes, rows-look}
use Rattle.p4_laws.specs.Trips.{plain-reads, plain_rows, rows-pick, read-bytes, read-permitted, read_plain, read_again, read-accepted, read-accepts, write-accepted, write-accepts}

-- ---- two answers that a promise allows are equal, and so are the buffers
pub read-settled : {s before a b : List ℕ} {q r : Reading} → ReadPromise s before a q → ReadPromise s before b r → (q ≡ r) × (a ≡ b)
read-settled p q = (p.answers ∙ sym q.answers, p.leaves ∙ sym q.leaves)

pub write-settled : {k : Stack} {bytes before a b : List ℕ} {q r : Writing} → WritePromise k bytes before a q → WritePromise k bytes before b r → (q ≡ r) × (a ≡ b)
write-settled p q = (p.answers ∙ sym q.answers, p.leaves ∙ sym q.leaves)

-- ---- a refusal 21 to 26 gives a place of the input, or its length
pub refusal-inside : (s : List ℕ) {number place : ℕ} → contents s ≡ wrong number place → place ≤ length s
refusal-inside s e = (placed s e).inside

-- and 22 is not given for a comment that touches: none is at a #
pub hash-taken : (s : List ℕ) {place : ℕ} → contents s ≡ wrong 22 place → get_or s place 0 ≡ 35 → ⊥
hash-taken s e = (placed s e).no_hash refl

-- ---- what is written reads back: `stack_rows` are a stack's rows with padding bits zero
pub written-reads : (k : Stack) (bytes : List ℕ) → permitted_stack k bytes ≡ true → contents (plain k bytes) ≡ good (record { stack = k; bytes = stack_rows k bytes })
written-reads = plain-reads

-- the plain form is canonical: the rows that it reads back as have the same one
pub plain-canonical : (k : Stack) (bytes : List ℕ) → permitted_stack k bytes ≡ true → plain k (stack_rows k bytes) ≡ plain k bytes
plain-canonical = plain_rows

-- their voxels are those of the lent bytes, whatever these had for padding bits and behind the stack
pub same-looks : (k : Stack) (bytes : List ℕ) → permitted_stack k bytes ≡ true → (behind : List ℕ) (p : Vector) → look (IsStack k) (stack_rows k bytes ++ behind) p ≡ look (IsStack k) bytes p
same-looks = rows-look

-- so each pick is the same pick
pub same-picks : (k : Stack) (bytes : List ℕ) → permitted_stack k bytes ≡ true → (behind : List ℕ) (p : Vector) (frame reach : ℤ)
    → pick_of (IsStack k) (stack_rows k bytes ++ behind) p frame reach ≡ pick_of (IsStack k) bytes p frame reach
same-picks = rows-pick

-- ---- what is read is written out in its plain form, whatever stands behind its rows, and that reads back as the same sizes and rows
pub read-writes : (s : List ℕ) {c : Contents} → contents s ≡ good c → (behind : List ℕ)
    → (permitted_stack c.stack (c.bytes ++ behind) ≡ true) × (plain c.stack (c.bytes ++ behind) ≡ plain c.stack c.bytes) × (contents (plain c.stack c.bytes) ≡ good c)
read-writes s e behind = (read-permitted s e behind, read_plain s e behind, read_again s e)

-- ---- the two functions: written, then read into a buffer with room
pub record Returned (k : Stack) (bytes lent got : List ℕ) (r : Reading) : Type 0 where
  pub answer : r ≡ Read k
  pub looks : (p : Vector) → look (IsStack k) got p ≡ look (IsStack k) bytes p
  pub picks : (p : Vector) (frame reach : ℤ) → pick_of (IsStack k) got p frame reach ≡ pick_of (IsStack k) bytes p frame reach
  pub behind : drop (stack_bytes k) got ≡ drop (stack_bytes k) lent

pub write-then-read : {k : Stack} {bytes before after lent got : List ℕ} {n : ℕ} {r : Reading}
    → WritePromise k bytes before after (Written n) → ReadPromise (take n after) lent got r → stack_bytes k ≤ length lent → Returned k bytes lent got r
write-then-read {k} {bytes} {lent = lent} {got = got} W R l =
    let w = write-accepted W in
    let p = w.permitted in
    let m = rows-bytes k bytes p in
    let a = read-accepts (ap contents w.front ∙ plain-reads k bytes p) l R in
    let g = a.1 in
    record {
      answer = a.0;
      looks = λ q. ap (λ (x : List ℕ). look (IsStack k) x q) g ∙ rows-look k bytes p (drop (length (stack_rows k bytes)) lent) q;
      picks = λ q frame reach. ap (λ (x : List ℕ). pick_of (IsStack k) x q frame reach) g ∙ rows-pick k bytes p (drop (length (stack_rows k bytes)) lent) q frame reach;
      behind = ap (drop (stack_bytes k)) g ∙ drop_at (stack_rows k bytes) _ (stack_bytes k) m ∙ ap (λ (x : ℕ). drop x lent) m;
    }

-- ---- read, then written into a buffer with room; and read again
pub record Rewritten (k : Stack) (after got : List ℕ) (r : Writing) : Type 0 where
  pub answer : r ≡ Written (length (plain k after))
  pub front : take (length (plain k after)) got ≡ plain k after

pub read-then-write : {s before after lent got : List ℕ} {k : Stack} {r : Writing}
    → ReadPromise s before after (Read k) → WritePromise k after lent got r → length (plain k after) ≤ length lent → Rewritten k after got r
read-then-write {after = after} {lent = lent} {got = got} {k = k} R W l =
    let c = read-accepted R in
    let p : permitted_stack k after ≡ true = ap (permitted_stack k) c.leaves ∙ read-permitted _ c.is _ in
    let a = write-accepts p l W in
    record { answer = a; front = (write-accepted (subst (λ (x : Writing). WritePromise k after lent got x) a W)).front }

pub read-write-read : {s before after lent got : List ℕ} {k : Stack} {r : Reading}
    → ReadPromise s before after (Read k) → ReadPromise (plain k after) lent got r → stack_bytes k ≤ length lent → (r ≡ Read k) × (take (stack_bytes k) got ≡ take (stack_bytes k) after)
read-write-read {after = after} {lent = lent} {k = k} R Q l =
    let c = read-accepted R in
    let n = read-bytes _ c.is in
    let e : contents (plain k after) ≡ good (record { stack = k; bytes = c.bytes }) = ap (λ (x : List ℕ). contents (plain k x)) c.leaves ∙ ap contents (read_plain _ c.is _) ∙ read_again _ c.is in
    let a = read-accepts e l Q in
    (a.0, ap (take (stack_bytes k)) a.1 ∙ take_at c.bytes _ (stack_bytes k) n ∙ sym (ap (take (stack_bytes k)) c.leaves ∙ take_at c.bytes _ (stack_bytes k) n))

-- ---- a file in its plain form that is read and written, each with room, comes back byte for byte
pub record CameBack (k : Stack) (file : List ℕ) (x : Reading) (got : List ℕ) (r : Writing) : Type 0 where
  pub reads : x ≡ Read k
  pub answer : r ≡ Written (length file)
  pub front : take (length file) got ≡ file

pub plain-comes-back : (k : Stack) (bytes : List ℕ) {before after lent got : List ℕ} {x : Reading} {r : Writing} → permitted_stack k bytes ≡ true
    → ReadPromise (plain k bytes) before after x → stack_bytes k ≤ length before → WritePromise k after lent got r → length (plain k bytes) ≤ length lent → CameBack k (plain k bytes) x got r
plain-comes-back k bytes {before} {after} {got = got} p R l W m =
    let e = plain-reads k bytes p in
    let a = read-accepts e l R in
    let same : plain k after ≡ plain k bytes = ap (plain k) a.1 ∙ read_plain (plain k bytes) e _ ∙ plain_rows k bytes p in
    let w = read-then-write (subst (ReadPromise (plain k bytes) before after) a.0 R) W (rw same m) in
    record { reads = a.0; answer = w.answer ∙ ap (λ (f : List ℕ). Written (length f)) same; front = sym (ap (λ (f : List ℕ). take (length f) got) same) ∙ w.front ∙ same }
