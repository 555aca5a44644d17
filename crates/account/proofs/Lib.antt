-- Lemmas on the account.
pub mod Figures
pub mod Asking
pub mod Following
pub mod Steps
pub mod Offers
pub mod Thinning
pub mod Running
pub mod Origins
pub mod Sequences
pub mod Refusing
