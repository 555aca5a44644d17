-- The line file: how fields are read, which fields it has, and how it is written.
pub mod Layout
pub mod File
pub mod Encoded
pub mod Parsed
