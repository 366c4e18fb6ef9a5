-- What the functions inside promise one another.
pub mod Faults
pub mod States
pub mod Tells
