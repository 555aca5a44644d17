-- What the contracts of this crate mean: a source and its fault, the two sources, and the pad of a width.
pub mod Source
pub mod Sources
pub mod Pad
