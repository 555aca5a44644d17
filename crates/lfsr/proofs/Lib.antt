-- Lemmas on the register, on its columns and on digests.
pub mod Taps
pub mod Absorbing
