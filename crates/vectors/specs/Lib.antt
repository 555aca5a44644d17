-- What the contracts of this program mean.
pub mod Digit
pub mod Agreement
