-- What `read_header` ensures settles its answer: a header is made again of what the definition judges of it.
use Rattle.std.specs.Prelude.{◌≡◌, refl, List, ℕ, Result, Ok, Err}
use Rattle.std.proofs.Common.{sym, ap, ◌∙◌}
use Rattle.rules.specs.declared.RefusedStack.{RefusedStack}
use Rattle.rules.specs.P4.{Judged, good, wrong, Header}
use Rattle.rules.specs.Answers.{refused_stack}
use Rattle.p4_header.specs.declared.Header.{Header as HeaderRead}
use Rattle.p4_header.specs.Reads.{judged_header, HeaderIs}

made : Judged Header → Result HeaderRead RefusedStack
made (good h) = Ok (record { width = h.width; height = h.height; next = h.next })
made (wrong n p) = refused_stack n p

made_again : (r : Result HeaderRead RefusedStack) → made (judged_header r) ≡ r
unfolding made
made_again (Ok h) = refl
made_again (Err e) = refl

pub header-settled : {s : List ℕ} {at : ℕ} {r t : Result HeaderRead RefusedStack} → HeaderIs s at r → HeaderIs s at t → r ≡ t
header-settled {r = r} {t} h k = sym (made_again r) ∙ ap made (h.is ∙ sym k.is) ∙ made_again t
