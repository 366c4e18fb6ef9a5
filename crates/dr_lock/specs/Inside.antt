-- What private functions promise one another.
pub mod Sequences
pub mod Weights
pub mod Auditing
pub mod Locked
pub mod Past
