-- What `put_answer` ensures settles its place and the lent buffer: it is a `put` of the line printed.
use Rattle.std.specs.Prelude.{◌≡◌, List, ℕ}
use Rattle.text.specs.declared.Writer.{Writer}
use Rattle.text.specs.Settled.{put-settled}
use Rattle.answer.specs.Wrote.{Wrote}

pub wrote-settled : {before a b : Writer} {bytes : List ℕ} {most : ℕ} → Wrote most before bytes a → Wrote most before bytes b → (a.at ≡ b.at) × (a.out.now ≡ b.out.now)
wrote-settled h k = put-settled h.put k.put
