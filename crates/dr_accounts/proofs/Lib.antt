pub mod Entries
pub mod Hexadecimal
pub mod Moving
pub mod Parts
pub mod Reports
pub mod Shown
pub mod Answering
