-- What is asked and answered at the two ends, the account of a run, and the promise of every run.
pub mod Questions
pub mod Calls
pub mod Keys
pub mod Sealing
pub mod Opening
pub mod Account
pub mod Ends
pub mod Promise
pub mod Runs
pub mod Figures
