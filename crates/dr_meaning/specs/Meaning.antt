-- What every exchange means, in its own words: read this first.
pub mod Machine
pub mod Refusals
pub mod Transcript
pub mod Tells
pub mod Laws
pub mod TooFar
pub mod Progress
pub mod Stuck
pub mod Counts
pub mod Runs
