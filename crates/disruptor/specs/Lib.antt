pub mod Faults
pub mod Watching
