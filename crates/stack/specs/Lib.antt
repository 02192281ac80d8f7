-- A stack's sides, its bytes and the place of a voxel.
pub mod Sides
pub mod Bytes
pub mod Bits
pub mod Voxels
pub mod Alike
pub mod Settled
