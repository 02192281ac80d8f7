-- A text from a place on.
use Rattle.std.specs.Prelude.{◌≡◌, List, ◌∷◌, ℕ, ◌+◌, ◌<◌, length, drop, get_or}
use Rattle.std.proofs.Common.{add-one, drop-cons}

-- the byte there, and the rest
pub drop_here : (s : List ℕ) (i : ℕ) → i < length s → drop i s ≡ get_or s i 0 ∷ drop (i + 1) s
drop_here s i h = rw add-one (drop-cons s i 0 h)
