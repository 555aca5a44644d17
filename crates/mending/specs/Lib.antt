-- Syndromes, and what they find.
pub mod Mending
