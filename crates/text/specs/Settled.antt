-- What every `put` ensures settles its place and the lent buffer.
use Rattle.std.specs.Prelude.{◌≡◌, List, ℕ}
use Rattle.std.proofs.Common.{sym, ◌∙◌}
use Rattle.text.specs.declared.Writer.{Writer}
use Rattle.text.specs.Put.{Put}

pub put-settled : {before a b : Writer} {bytes : List ℕ} → Put before bytes a → Put before bytes b → (a.at ≡ b.at) × (a.out.now ≡ b.out.now)
put-settled h k = (h.past ∙ sym k.past, h.is ∙ sym k.is)
