-- The bytes of a text, for the cases.
use Rattle.std.specs.Prelude.{List, [], ◌∷◌, ℕ}
use Prim.Native.Char.{code}
use Prim.Native.String.{String, [] as nothing, ◌∷◌ as ◌then◌}

unfoldable pub bytes : String → List ℕ
bytes nothing = []
bytes (c then more) = code c ∷ bytes more
