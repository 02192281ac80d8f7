-- What a caller may take for granted of a ready start: its looks can be counted on.
use Rattle.std.specs.Prelude.{◌≡◌, true, not, ℕ, ◌+◌, ◌*◌, ◌≤◌, leb, length}
use Rattle.std.proofs.Common.{arith, leb→le}
use Rattle.std.proofs.Math.Facts.{and_yes}
use Rattle.rules.specs.declared.ReadyStart.{ReadyStart}
use Rattle.rules.specs.Walk.{powers, all_level}
use Rattle.rules.specs.TwoCalls.{is_ready}
use Rattle.laws.specs.Powers.{few-powers}

-- 2 + 6·9 at most
pub ready-few : (R : ℕ) (d : ReadyStart) → R ≤ 256 → is_ready (length (powers R)) d ≡ true → d.looks ≤ 56
unfolding is_ready
ready-few R d h e =
    let few = (and_yes (leb d.looks (2 + 6 * length (powers R))) (not (all_level d.level)) (rw e tt)).0 in
    omega (arith, few-powers R h, leb→le d.looks (2 + 6 * length (powers R)) few)
