-- Bits, and the columns that they choose.
pub mod Bits
pub mod Columns
pub mod Changes
pub mod Bytes
