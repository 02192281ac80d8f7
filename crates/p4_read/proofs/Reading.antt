-- Each way out of the reader, from what its images are judged to: the definition goes the same way.
use Rattle.std.specs.Prelude.{◌≡◌, List, ◌++◌, ℕ, ◌*◌, ◌≤◌, ◌<◌, length, drop, leb, Ok, Err}
use Rattle.std.proofs.Common.{sym, ap, ◌∙◌, arith, zero-add, le-leb}
use Rattle.std.proofs.Math.Nat.{mul-le-mul}
use Rattle.std.proofs.lemmas.Bool.{lt-leb}
use Rattle.std.proofs.lemmas.List.Edits.{sets}
use Rattle.std.proofs.Math.Seq.{sets-eq}
use Rattle.rules.specs.declared.RefusedStack.{RefusedStack}
use Rattle.rules.specs.declared.Stack.{Stack}
use Rattle.rules.specs.Solids.{stack_bytes}
use Rattle.rules.specs.P4.{Judged, good, wrong, ◌>>=◌, judge, images_at, Contents, contents, reading, read_answer, stored, sizes, ReadPromise}
use Rattle.p4_laws.specs.Judging.{on, off, pass, fail}
use Rattle.p4_laws.specs.Headers.{header-in}
use Rattle.p4_laws.specs.Images.{counted}
use Rattle.stack.specs.Bytes.{SliceSides, SliceBytes}
use Rattle.p4_header.specs.declared.Header.{Header}
use Rattle.p4_header.specs.Reads.{HeaderIs}
use Rattle.p4_read.specs.Images.{depth_read, rows_read, ImagesAre, StoreRoom, FirstSizes}
use Rattle.p4_read.proofs.Storing.{read_good}

-- what is judged to be refused is wrong
read_wrong : {e : RefusedStack} (x : Judged (ℕ × List ℕ)) → Err e ≡ depth_read x → x ≡ wrong e.number e.value
read_wrong (good f) q = let z : ◌≡◌ {A = ℕ} 0 1 = cc in absurd (omega arith)
read_wrong {e} (wrong m p) q = let a : m ≡ e.number = cc in let b : p ≡ e.value = cc in λ j. wrong (a j) (b j)

-- ---- what is read is refused, or stored
module _ {s out : List ℕ} where
  promise-wrong : {e : RefusedStack} → reading s (length out) ≡ wrong e.number e.value → ReadPromise s out out (Err e)
  unfolding read_answer stored
  promise-wrong q = record { answers = sym (ap read_answer q); leaves = sym (ap (λ (x : Judged Contents). stored (λ c. c.bytes) x out) q) }

  promise-good : {c : Contents} {after : List ℕ} → reading s (length out) ≡ good c → after ≡ c.bytes ++ drop (length c.bytes) out → ReadPromise s out after (Ok c.stack)
  unfolding read_answer stored
  promise-good q e = record { answers = sym (ap read_answer q); leaves = e ∙ sym (ap (λ (x : Judged Contents). stored (λ c. c.bytes) x out) q) }

-- ---- the first header
module _ {s : List ℕ} where
  pub read-refused : (out : List ℕ) {e : RefusedStack} → HeaderIs s 0 (Err e) → ReadPromise s out out (Err e)
  unfolding reading contents
  read-refused out H = promise-wrong (off _ (off _ (sym H.is)))

  module _ {r : Header} (H : HeaderIs s 0 (Ok r)) where
    pub first-sizes : FirstSizes s r.width r.height
    first-sizes = record { next = r.next; is = sym H.is }

    pub first-sides : SliceSides r.width r.height
    first-sides = let x = header-in s 0 (sym H.is) in record { wide = x.wide; high = x.high.most }

module _ {w h : ℕ} {s : List ℕ} (sides : SliceSides w h) (F : FirstSizes s w h) where
  contents-is : contents s ≡ (images_at 256 w h s 0 >>= λ f. good (record { stack = sizes w h f.0; bytes = f.1 }))
  unfolding contents
  contents-is = on _ F.is

  -- ---- the images
  pub images-refused : (out : List ℕ) {e : RefusedStack} → ImagesAre w h s (Err e) → ReadPromise s out out (Err e)
  unfolding reading
  images-refused out I = promise-wrong (off _ (contents-is ∙ off _ (read_wrong (images_at 256 w h s 0) I.is)))

  module _ {d c : ℕ} (I : ImagesAre w h s (Ok d)) (C : SliceBytes w h c) where
    abbrev all : List ℕ
    all = rows_read (images_at 256 w h s 0)

    images : images_at 256 w h s 0 ≡ good (d, all)
    images = read_good (images_at 256 w h s 0) I.is

    judged : (out : List ℕ) → reading s (length out) ≡ (judge (leb (d * c) (length out)) 27 (d * c) >>= λ _. good (record { stack = sizes w h d; bytes = all }))
    unfolding reading stack_bytes
    judged out =
        on _ (contents-is ∙ on _ images)
        ∙ ap (λ (x : ℕ). judge (leb (d * x) (length out)) 27 (d * x) >>= λ _. good (record { stack = sizes w h d; bytes = all })) (sym C.is)

    pub depth-few : d ≤ 256
    depth-few = (counted w h sides.wide.some s 256 0 images).few

    pub stack-small : d * c ≤ 2097152
    stack-small = let x : d * c ≤ 256 * 8192 = mul-le-mul depth-few C.small in omega arith

    pub stack-short : {out : List ℕ} → length out < d * c → {e : RefusedStack} → e ≡ record { number = 27; value = d * c } → ReadPromise s out out (Err e)
    stack-short {out} l q = promise-wrong (judged out ∙ fail 27 (d * c) _ (lt-leb (d * c) (length out) l) ∙ ap (λ (x : RefusedStack). wrong x.number x.value) (sym q))

    module _ {out : List ℕ} (l : d * c ≤ length out) where
      pub store-room : StoreRoom w h s d out
      store-room = let x = ap (λ (y : ℕ). d * y) C.is in record { images = I.is; target = omega arith }

      pub stack-stored : {after : List ℕ} {k : Stack} → after ≡ sets out 0 all → k ≡ sizes w h d → ReadPromise s out after (Ok k)
      stack-stored a b =
          let long = (counted w h sides.wide.some s 256 0 images).bytes in
          let x = ap (λ (y : ℕ). d * y) C.is in
          rw b
          (promise-good (judged out ∙ pass 27 (d * c) _ (le-leb (d * c) (length out) l))
          (a ∙ sets-eq all out 0 (omega arith) ∙ ap (λ (u : ℕ). all ++ drop u out) (zero-add (length all))))
