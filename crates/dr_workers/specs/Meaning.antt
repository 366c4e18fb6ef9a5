-- What a worker is: read this first.
pub mod Work
pub mod FirstFault
pub mod Merge
