-- What a ring does, in its own words: read this first.
pub mod Shape
pub mod Words
pub mod Records
pub mod Rule
pub mod Lying
pub mod Steps
pub mod Stores
pub mod Moments
pub mod Settling
