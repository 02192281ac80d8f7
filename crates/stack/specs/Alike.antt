-- Lent bytes that agree on the voxels of a stack's box: no bit that pads a row counts, and no byte behind those needed.
use Rattle.std.specs.Prelude.{◌≡◌, Bool, true, List, ◌++◌, ℕ}
use Rattle.std.proofs.Common.{sym, ◌∙◌, arith, length-append}
use Rattle.std.proofs.Math.ListN.{get_or-append}
use Rattle.rules.specs.declared.Vector.{Vector}
use Rattle.rules.specs.declared.Stack.{Stack}
use Rattle.rules.specs.declared.Look.{Look}
use Rattle.rules.specs.declared.Solid.TheVariants.{Stack as IsStack}
use Rattle.rules.specs.Solids.{permitted_stack, voxel, filled_stack, permitted, box, in_box, look}
use Rattle.stack.specs.Sides.{sized, permitted-too}
use Rattle.stack.specs.Voxels.{point-held, voxel-held, looks-alike}

pub record Alike (k : Stack) (a b : List ℕ) : Type 0 where
  pub permitted : permitted_stack k a ≡ permitted_stack k b
  pub voxels : (v : Vector) → in_box (box (IsStack k)) v ≡ true → filled_stack k a v ≡ filled_stack k b v

-- ---- bytes behind those needed
module _ (k : Stack) (bytes : List ℕ) (ok : permitted_stack k bytes ≡ true) (behind : List ℕ) where
  voxel-alike : (v : Vector) → in_box (box (IsStack k)) v ≡ true → filled_stack k (bytes ++ behind) v ≡ filled_stack k bytes v
  unfolding filled_stack voxel
  voxel-alike v e = rw (get_or-append bytes behind 0 _ (voxel-held (point-held ok e)))

  room-alike : permitted_stack k (bytes ++ behind) ≡ permitted_stack k bytes
  room-alike = permitted-too k bytes (bytes ++ behind) ok (omega (arith, (sized ok).enough, length-append bytes behind)) ∙ sym ok

  pub behind-alike : Alike k (bytes ++ behind) bytes
  behind-alike = record { permitted = room-alike; voxels = voxel-alike }

-- ---- bytes that agree make the same of everything that is made of a permission and a look
pub alike : {k : Stack} {a b : List ℕ} → Alike k a b → {A : Type 0} (make : Bool → (Vector → Look) → A) → make (permitted (IsStack k) a) (look (IsStack k) a) ≡ make (permitted (IsStack k) b) (look (IsStack k) b)
alike {k} {a} {b} h make = λ i. make (h.permitted i) (λ v. looks-alike k a b h.voxels v i)
