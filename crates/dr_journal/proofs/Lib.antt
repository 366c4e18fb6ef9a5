mod Batches
mod Codes
mod Crash
pub mod Crossing
mod Feeding
mod Frames
mod Headers
mod Kept
mod Laws
mod Mixes
mod Moments
mod Openings
mod Reading
mod Repairs
mod Runs
pub mod Shown
mod Values
mod Words
