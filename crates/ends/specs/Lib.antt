-- What the two ends hold and reply, in the account's words.
pub mod Refusals
pub mod States
pub mod Replies
pub mod Reaching
