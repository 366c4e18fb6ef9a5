-- What public contracts cite: what an end is, and what its calls answer and leave.
pub mod Plans
pub mod Ends
pub mod Finds
pub mod Making
pub mod Receiving
pub mod Turning
pub mod Outlets
pub mod Handing
pub mod Sending
pub mod Writing
pub mod Publishing
pub mod Inlets
pub mod Settling
pub mod Replies
pub mod InPlace
