-- The integers: a commutative ring with a solver, their order by `omega`, sizes, and the machine's signed numbers; and tests of two parts.
-- `Examples` has a line for each use.
pub mod Laws
pub mod Ring
pub mod Reify
pub mod Order
pub mod Sizes
pub mod Machine
pub mod Tests
pub mod Examples
