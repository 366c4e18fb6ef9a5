-- What public contracts cite: what a core shows, and what its calls leave.
pub mod CoreView
pub mod Shows
pub mod Reached
pub mod Ready
pub mod Going
pub mod Turning
pub mod Passing
