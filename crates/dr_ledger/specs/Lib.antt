pub mod Faults
pub mod Standing
pub mod Answering
pub mod Batches
pub mod Coming
pub mod Starting
pub mod Printing
