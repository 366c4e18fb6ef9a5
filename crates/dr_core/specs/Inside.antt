-- How a core keeps what it knows. No public contract cites it.
pub mod Availability
pub mod Fields
