-- The laws of the line file.
pub mod Laws
