pub mod Operations
pub mod EventFile
pub mod Reading
pub mod Arriving
pub mod Written
