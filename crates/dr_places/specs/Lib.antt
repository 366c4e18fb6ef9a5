pub mod Gathered
pub mod Rule
