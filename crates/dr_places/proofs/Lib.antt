pub mod Lying
pub mod Steps
