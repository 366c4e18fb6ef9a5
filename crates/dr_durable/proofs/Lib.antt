pub mod Batches
pub mod Stored
