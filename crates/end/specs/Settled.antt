-- What `walk_to_end` ensures settles its answer: the answer is made again of what it tells.
use Rattle.std.specs.Prelude.{◌≡◌, ℕ}
use Rattle.std.proofs.Common.{sym}
use Rattle.rules.specs.declared.Levels.{Levels}
use Rattle.rules.specs.Answers.{Pick}
use Rattle.rules.specs.Walk.{Probe}
use Rattle.laws.specs.Tally.{gives-settled}
use Rattle.end.specs.End.{WalkedToEnd}
use Rattle.end.specs.Answers.{answer_of, tally-of}

pub walked-to-end-settled : {c : Probe} {R : ℕ} {level : Levels} {looks : ℕ} {r t : Pick} → WalkedToEnd c R level looks r → WalkedToEnd c R level looks t → r ≡ t
walked-to-end-settled {r = r} {t} h k = gives-settled answer_of (sym (tally-of r)) (sym (tally-of t)) h.gives k.gives
