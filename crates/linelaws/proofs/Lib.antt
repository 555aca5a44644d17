-- Proofs of the laws.
mod Numbers
mod Parts
mod Written
pub mod Recovered
