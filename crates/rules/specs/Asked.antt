-- What a question yields: an answer or a refusal, with the voxels looked at, in order. Looks are counted as that list's length.
-- These are definitions: nothing here is proved.
use Rattle.std.specs.Prelude.{List, ◌++◌}
use Rattle.rules.specs.declared.Vector.{Vector}

pub data Asked (E A : Type 0) : Type 0 where
  answered : A → List Vector → Asked E A
  refused : E → List Vector → Asked E A

-- voxels were looked at before
unfoldable pub after : {E A : Type 0} → List Vector → Asked E A → Asked E A
after t (answered a s) = answered a (t ++ s)
after t (refused r s) = refused r (t ++ s)

infixr 1 ◌>>=◌ ◌>>◌
-- one question and then another, which a refusal of the first cuts off
unfoldable pub ◌>>=◌ : {E A B : Type 0} → Asked E A → (A → Asked E B) → Asked E B
answered a t >>= k = after t (k a)
refused r t >>= k = refused r t

abbrev pub ◌>>◌ : {E A B : Type 0} → Asked E A → Asked E B → Asked E B
a >> b = a >>= λ _. b
