-- Lemmas on questions, on separate columns and on the law.
pub mod Asking
pub mod Separates
pub mod Laws
pub mod OrbitColumns
pub mod Again
pub mod Deciding
pub mod OddColumns
pub mod LawSeparates
