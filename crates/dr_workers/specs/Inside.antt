-- What private functions promise one another.
pub mod Writes
pub mod Retries
