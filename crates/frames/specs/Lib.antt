-- A frame of a key: its limits, its layout, its syndrome, and what changed bits do.
pub mod Limits
pub mod Frames
pub mod Findings
pub mod Changed
