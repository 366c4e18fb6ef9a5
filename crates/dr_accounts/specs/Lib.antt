pub mod Accounts
pub mod Report
pub mod Parts
pub mod Handlers
pub mod ReplayText
pub mod Answers
pub mod Responding
