-- What a key means, what its law is, and what admission asks.
pub mod Meaning
pub mod Questions
pub mod Admission
pub mod Orbits
pub mod Stepped
