-- The report on a line file: what its key is asked, what its frames are answered, and the text that tells it.
pub mod Keys
pub mod Frames
pub mod Refusals
pub mod Report
pub mod Laws
