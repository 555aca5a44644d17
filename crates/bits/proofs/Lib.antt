-- Lemmas on bits, ⊕ and columns.
pub mod Xors
pub mod Masking
pub mod Runs
pub mod Picks
pub mod UnitColumns
pub mod Shifts
pub mod Linear
pub mod Weights
pub mod OnesOfBits
pub mod Changes
pub mod BytesOfNumbers
pub mod Locating
