-- `inputs::signs_of` meets its contract: by the three bits.
use mathlib.Core.Path.{◌∙◌}
use mir.Syntax.{w32}
use Rattle.integers.specs.Machine.{back}
use Rattle.rules.specs.Walk.{signs}
use Rattle.laws.specs.Parts.{vector-eq}
use Rattle.inputs.proofs.signs_of.Goals as goal

pub returns : goal.returns
unfolding signs
returns c =
    vector-eq
    (back w32 c.sign_of.result c.sign_of.type_inv ∙ c.sign_of.ensures)
    (back w32 c.sign_of-2.result c.sign_of-2.type_inv ∙ c.sign_of-2.ensures)
    (back w32 c.sign_of-3.result c.sign_of-3.type_inv ∙ c.sign_of-3.ensures)
