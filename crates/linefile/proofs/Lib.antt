-- Lemmas on the line file.
pub mod OneField
mod Bytes
mod Stages
mod OneFrame
pub mod FramesInBytes
mod Keys
mod WholeFile
