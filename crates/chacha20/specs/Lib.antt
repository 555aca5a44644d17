-- What the contracts of this crate mean: the block function, and the vectors that the RFC prints for it.
pub mod Block
pub mod Vectors
