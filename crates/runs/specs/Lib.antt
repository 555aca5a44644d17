-- Calls and replies of the code, in the account's words.
pub mod Calls
pub mod Entries
pub mod Single
