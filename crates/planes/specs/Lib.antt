-- `Lean` states how far any plane can lean from an accepted normal, `Firm` how far the touched face of any solid can, once its footing was looked at; `FirmCases` shows that it is not
-- empty; the others are the lemmas. The proofs of what is stated are in `proofs/`: `LeanProved` and `FirmProved`, and `LeanCases`.
pub mod Footings
pub mod Orders
pub mod Turn
pub mod Faces
pub mod Lean
pub mod Below
pub mod Measured
pub mod Upward
pub mod Firm
pub mod Standing
pub mod Heights
pub mod Rooms
pub mod FirmCases
