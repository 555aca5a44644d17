-- Worked figures.
pub mod Figures
