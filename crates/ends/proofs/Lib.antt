-- Keys that reach.
pub mod Reach
