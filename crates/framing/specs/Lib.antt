-- What sealing and opening under a key ask and answer, in the account's words.
pub mod Refusals
pub mod Asked
