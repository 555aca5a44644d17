-- Lemmas on frames.
pub mod Parts
pub mod Found
pub mod Copying
pub mod Shifts
