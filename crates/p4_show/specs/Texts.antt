-- What the programs print of an answer.
use Rattle.std.specs.Prelude.{List, ◌∷◌, ◌++◌, ℕ, Ok, Err, codes}
use Rattle.std.specs.Fmt.{decimal, signed_decimal}
use Rattle.std.specs.List.{flat_map}
use Rattle.rules.specs.Answers.{Reading, Writing}
use Rattle.rules.specs.declared.RefusedStack.{RefusedStack}
use Rattle.rules.specs.declared.Stack.{Stack}

abbrev pub refused : RefusedStack → List ℕ
refused r = codes "refused " ++ decimal r.number ++ 32 ∷ decimal r.value

abbrev pub stack : Stack → List ℕ
stack k = codes "stack " ++ signed_decimal k.width ++ 32 ∷ signed_decimal k.height ++ 32 ∷ signed_decimal k.depth

abbrev pub reading : Reading → List ℕ
reading (Ok k) = stack k
reading (Err r) = refused r

abbrev pub writing : Writing → List ℕ
writing (Ok n) = codes "written " ++ decimal n
writing (Err r) = refused r

abbrev pub bytes : List ℕ → List ℕ
bytes bs = flat_map (λ (b : ℕ). 44 ∷ decimal b) bs
