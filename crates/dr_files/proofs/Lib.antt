pub mod Digits
pub mod Writes
