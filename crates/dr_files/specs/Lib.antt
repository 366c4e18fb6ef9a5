pub mod Numbers
pub mod Lines
pub mod Faults
pub mod Outcome
pub mod Counting
