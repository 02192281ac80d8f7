-- Demand 3, over document 01's definitions. `Demands` states it in document 02's reading and `Base` in document 01's; `Touches` states what is wanted of quick touches (2026-04);
-- `Rows` reads demand 3 for the start check and the walk in a row (2026-05). `Cases`, `TouchCases` and `RowCases` show that they are not empty; the others are the lemmas, `Stair` an
-- example stack. The proofs of what is stated are in `proofs/`: `Proved` and `Corollary`, `TouchProved`, `RowProved`.
pub mod Stair
pub mod Demands
pub mod Base
pub mod Falls
pub mod Ideal
pub mod Ends
pub mod Rounds
pub mod Wedges
pub mod Cases
pub mod Touches
pub mod TouchCases
pub mod Rows
pub mod RowCases
