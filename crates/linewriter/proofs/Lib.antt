-- Lemmas on the lengths of lines, and the totals.
pub mod Counts
pub mod Lengths
